-- What an index that is well made has. The idea: its facts (`index_of`) bound what is written next, so that it fits its words.
use Rattle.words.proofs.Kit.{◌≡◌, sym, ap, ◌∙◌, true, List, ℕ, suc, ◌+◌, ◌-◌, ◌^◌, ◌≤◌, ◌<◌, arith, length}
use Rattle.index.specs.Layout.{most_entries, index_contents, entries_in, packets_taken, place_reached, entry_offset, entry_length, pages_from, pages_end}
use Rattle.index.specs.Layout.{with_reached}
use Rattle.index.specs.Good.{index_good, GoodIndex}
use Rattle.index.proofs.GoodLaws.{index_of}
use Rattle.index.proofs.WrittenLaws.{pages_behind}
use Rattle.index_grow.specs.inner.Steps.{counted_in}

module _ (ix : List ℕ) (e : index_good ix ≡ true) where
  facts : GoodIndex ix
  facts = index_of ix e

  pub ready_whole : index_contents ≤ length ix
  ready_whole = facts.whole

  some : 1 ≤ entries_in ix
  some = omega (arith, facts.entries)

  pub ready_some : (n : ℕ) → (n ≡ entries_in ix) × (n < 2 ^ 32) → 1 ≤ n
  ready_some n f = omega (arith, f.0, some)

  pub ready_few : entries_in ix ≤ most_entries
  ready_few = facts.few

  ready_packets : packets_taken ix < 1048576
  ready_packets = omega (arith, facts.entries, facts.few)

  -- the packets with one more, n being how many there are, and the word place behind a packet of so many words
  pub ready_more : (n : ℕ) → (n ≡ packets_taken ix) × (n < 2 ^ 32) → n + 1 < 2 ^ 32
  ready_more n f = omega (arith, f.0, ready_packets)

  pub ready_further : (p size : ℕ) → p ≡ place_reached ix → size < 2 ^ 16 → p + size < 2 ^ 64
  ready_further p size f h = omega (arith, f, facts.reached, ready_packets)

  -- the last entry, n being how many there are
  pub ready_below : (n : ℕ) → (n ≡ entries_in ix) × (n < 2 ^ 32) → n - 1 < most_entries
  ready_below n f = omega (arith, f.0, ready_few, some)

  -- the pages end inside, behind the contents; at is where
  pub ready_inside : (at : ℕ) → at ≡ pages_end ix → at ≤ length ix
  ready_inside at f = rw f facts.inside

  pub ready_behind : (at : ℕ) → at ≡ pages_end ix → index_contents ≤ at
  ready_behind at f = rw f (pages_behind ix (entries_in ix))

  -- the last page ends where the pages do
  pub ready_last : (n a l : ℕ) → n ≡ entries_in ix → a ≡ entry_offset ix (n - 1) → l ≡ entry_length ix (n - 1) → a + l ≡ pages_end ix
  unfolding pages_from
  ready_last n a l f g h =
      let last : n ≡ suc (n - 1) = omega (arith, f, some) in
      let here : a ≡ pages_from ix (n - 1) = g ∙ facts.gapless (n - 1) (omega (arith, f, some)) in
      rw (here, h) (sym (ap (pages_from ix) (sym f ∙ last)))

-- a packet counted
pub counted_is : (ix last : List ℕ) (n p size : ℕ) → (n ≡ packets_taken ix) × (n < 2 ^ 32) → p ≡ place_reached ix → last ≡ with_reached (n + 1) (p + size) ix
    → last ≡ counted_in size ix
unfolding counted_in
counted_is ix last n p size e f g = g ∙ rw (e.0, f)
