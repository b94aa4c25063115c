-- The rules leave nothing open. The idea: a good record is fixed by its identifier, choice, counts and what it holds (`record_by`): the fields by their things
-- (`field_held_lem`), the held indicator bit by bit, a held slot by its value, an unheld one since it is zero. A layout is fixed by its records.
use Rattle.words.proofs.Kit.{◌≡◌, refl, sym, ap, ◌∙◌, Bool, true, false, ⊎_elim, List, ◌++◌, ℕ, ◌+◌, ◌≤◌, ◌<◌, arith, length, get_or}
use mathlib.Core.Option.{none, some, none-ne-some, some-injective}
use lib.Seq.{ext_get_or}
use Rattle.words.specs.Tests.{pick, among}
use Rattle.words.specs.Word.{has}
use Rattle.words.specs.Part.{part}
use Rattle.words.proofs.Cases.{true_or_false}
use Rattle.words.proofs.BitLaws.{word_same}
use Rattle.words.proofs.PartLaws.{part_length, get_d_part, part_whole}
use Rattle.record.specs.Held.{slot_mask, slotted, slot_bits, slot_at}
use Rattle.record.specs.Layout.{head_words, slot_words, record_words, identifier_of, held_of, choice_of, counted_types, order_of, count_words, slot_in}
use Rattle.record.specs.Layout.{slots_of, slot_of}
use Rattle.record.specs.Good.{record_good, Good}
use Rattle.record.proofs.SlotLaws.{in_order_same, in_order_parts, slots_whole}
use Rattle.record.proofs.GoodLaws.{good_of}
use Rattle.table.specs.Layout.{record_at}
use Rattle.table.proofs.RecordLaws.{record_identifier}
use Rattle.table.proofs.WellLaws.{well_whole, well_record}
use Rattle.page.specs.Layout.{table_from}
use Rattle.words.proofs.PieceLaws.{part_join}
use Rattle.page.proofs.LayoutLaws.{table_same, table_again}
use Rattle.demands.specs.Listing.{Listing, streams_in}
use Rattle.demands.specs.Things.{Thing}
use Rattle.demands.specs.Trace.{trace_of, own, last_carried, counts_of, count_rule}
use Rattle.demands.specs.Right.{held_in, Right, layout_of, Determined}
use Rattle.demands.proofs.ThingLaws.{field_held, field_same, field_held_lem}
use Rattle.demands.proofs.HearingLaws.{record_whole}
use Rattle.demands.proofs.RightLaws.{right_listed}

-- ---- parts

same_join : (a n m : ℕ) (r q : List ℕ) → part a n r ≡ part a n q → part (a + n) m r ≡ part (a + n) m q → part a (n + m) r ≡ part a (n + m) q
same_join a n m r q e f =
    sym (part_join a n m r) ∙ ap (λ (z : List ℕ). z ++ part (a + n) m r) e ∙ ap (λ (z : List ℕ). part a n q ++ z) f ∙ part_join a n m q

same_word : (i : ℕ) (r q : List ℕ) → i + 1 ≤ length r → i + 1 ≤ length q → get_or r i 0 ≡ get_or q i 0 → part i 1 r ≡ part i 1 q
same_word i r q h g e =
    let l = part_length i 1 r h in
    ext_get_or 0 (part i 1 r) (part i 1 q) (l ∙ sym (part_length i 1 q g))
    (λ j k.
    let o : i + j ≡ i = omega arith in
    let n : j < 1 = omega arith in
    get_d_part i 1 j r n ∙ rw o e ∙ sym (get_d_part i 1 j q n))

-- ---- what is held or not

some_same : (x y : Bool) (v w : List ℕ) → pick x (some v) none ≡ pick y (some w) none → x ≡ y
some_same true true v w e = refl
some_same true false v w e = absurd (none-ne-some v (sym e))
some_same false true v w e = absurd (none-ne-some w e)
some_same false false v w e = refl

same_value : (x y : Bool) (v w : List ℕ) → x ≡ true → pick x (some v) none ≡ pick y (some w) none → v ≡ w
same_value true true v w t e = some-injective v w e
same_value true false v w t e = absurd (none-ne-some v (sym e))
same_value false true v w t e = absurd (none-ne-some w e)
same_value false false v w t e = let z : ◌≡◌ {A = ℕ} 0 1 = cc in absurd (omega arith)

-- ---- a record

module _ (r q : List ℕ) (lr : length r ≡ record_words) (lq : length q ≡ record_words) (gr : record_good r ≡ true) (gq : record_good q ≡ true)
    (things : (x : Thing) → held_in x r ≡ held_in x q) where
  R : Good r
  R = good_of r lr gr

  Q : Good q
  Q = good_of q lq gq

  held : (b : ℕ) → field_held b r ≡ field_held b q
  held b = field_held_lem r lr R b ∙ field_same b (λ x. held_in x r) (λ x. held_in x q) things ∙ sym (field_held_lem q lq Q b)

  same_bit : (b : ℕ) → has (held_of r) b ≡ has (held_of q) b
  same_bit b = some_same (has (held_of r) b) (has (held_of q) b) (slot_of b r) (slot_of b q) (held b)

  same_held : held_of r ≡ held_of q
  same_held = word_same 31 (held_of r) (held_of q) R.small Q.small (λ b h. same_bit b)

  same_slot : (b : ℕ) → slotted b ≡ true → slot_of b r ≡ slot_of b q
  same_slot b o =
      ⊎_elim (λ e. same_value (has (held_of r) b) (has (held_of q) b) (slot_of b r) (slot_of b q) e (held b))
      (λ e. R.unheld b o e ∙ sym (Q.unheld b o (sym (same_bit b) ∙ e))) (true_or_false (has (held_of r) b))

  slots_sized : (x : List ℕ) → length x ≡ record_words → length (slots_of x) ≡ slot_words
  unfolding slots_of
  slots_sized x l = part_length head_words slot_words x (omega arith)

  same_slots : slots_of r ≡ slots_of q
  unfolding slot_of slot_in slot_at slot_bits slotted
  same_slots =
      sym (in_order_parts 31 slot_mask (slots_of r) (slots_sized r lr ∙ sym slots_whole))
      ∙ in_order_same 31 slot_mask _ _ (λ b h o. same_slot b o)
      ∙ in_order_parts 31 slot_mask (slots_of q) (slots_sized q lq ∙ sym slots_whole)

  pub record_by : identifier_of r ≡ identifier_of q → choice_of r ≡ choice_of q
      → ((kind : ℕ) → among kind counted_types ≡ true → count_words (order_of kind) r ≡ count_words (order_of kind) q) → r ≡ q
  unfolding count_words order_of slots_of
  record_by i choice counts =
      let words = same_join 0 1 1 r q (same_word 0 r q (omega arith) (omega arith) i) (same_word 1 r q (omega arith) (omega arith) same_held) in
      let first = same_join 0 2 3 r q words (counts 1 refl) in
      let second = same_join 0 5 3 r q first (counts 3 refl) in
      let third = same_join 0 8 3 r q second (counts 4 refl) in
      let fourth = same_join 0 11 3 r q third (counts 5 refl) in
      let head = same_join 0 14 1 r q fourth (same_word 14 r q (omega arith) (omega arith) choice) in
      let replaced : part 0 record_words r ≡ part 0 record_words q = same_join 0 head_words slot_words r q head same_slots in
      sym (part_whole r) ∙ ap (λ (n : ℕ). part 0 n r) lr ∙ replaced ∙ ap (λ (n : ℕ). part 0 n q) (sym lq) ∙ part_whole q

-- ---- a table

-- where the rules say the same of a stream, two right tables have the same record
records_alike : (list : Listing) (ps qs : List (List ℕ)) (t u : List ℕ) (p : Right list ps t) (q : Right list qs u) (s : ℕ) (h : s < streams_in list)
    → ((x : Thing) → last_carried x (own s (trace_of list ps)) ≡ last_carried x (own s (trace_of list qs)))
    → ((kind : ℕ) → counts_of kind (own s (trace_of list ps)) ≡ counts_of kind (own s (trace_of list qs))) → record_at s t ≡ record_at s u
records_alike list ps qs t u p q s h last counts =
    record_by (record_at s t) (record_at s u) (record_whole list t (right_listed p) s h) (record_whole list u (right_listed q) s h)
    (well_record t p.made s (rw p.streams h)) (well_record u q.made s (rw q.streams h))
    (λ x. p.held s h x ∙ last x ∙ sym (q.held s h x))
    (record_identifier s t ∙ p.identifiers s h ∙ sym (q.identifiers s h) ∙ sym (record_identifier s u))
    (p.choices s h ∙ sym (q.choices s h))
    (λ kind k. p.counts s h kind k ∙ ap count_rule (counts kind) ∙ sym (q.counts s h kind k))

-- they look at a stream's own packets alone
pub records_same : (list : Listing) (ps qs : List (List ℕ)) (t u : List ℕ) (p : Right list ps t) (q : Right list qs u) (s : ℕ) (h : s < streams_in list)
    → own s (trace_of list ps) ≡ own s (trace_of list qs) → record_at s t ≡ record_at s u
records_same list ps qs t u p q s h o = records_alike list ps qs t u p q s h (λ x. ap (last_carried x) o) (λ kind. ap (counts_of kind) o)

pub layout_is : {list : Listing} {packets : List (List ℕ)} {t : List ℕ} → Right list packets t
    → table_from (streams_in list) (λ s. record_at s t) ≡ layout_of list t
layout_is {list} {packets} {t} p = rw p.streams at (table_again t (well_whole t p.made))

pub layouts_alike : (list : Listing) (ps qs : List (List ℕ)) (t u : List ℕ) → Right list ps t → Right list qs u
    → ((s : ℕ) (x : Thing) → last_carried x (own s (trace_of list ps)) ≡ last_carried x (own s (trace_of list qs)))
    → ((s kind : ℕ) → counts_of kind (own s (trace_of list ps)) ≡ counts_of kind (own s (trace_of list qs))) → layout_of list t ≡ layout_of list u
layouts_alike list ps qs t u p q last counts =
    sym (layout_is p)
    ∙ table_same (streams_in list) (λ s. record_at s t) (λ s. record_at s u) (λ s h. records_alike list ps qs t u p q s h (last s) (counts s))
    ∙ layout_is q

pub layouts_same : (list : Listing) (ps qs : List (List ℕ)) (t u : List ℕ) → Right list ps t → Right list qs u
    → ((s : ℕ) → own s (trace_of list ps) ≡ own s (trace_of list qs)) → layout_of list t ≡ layout_of list u
layouts_same list ps qs t u p q o = layouts_alike list ps qs t u p q (λ s x. ap (last_carried x) (o s)) (λ s kind. ap (counts_of kind) (o s))

pub determined : Determined
determined list packets t u p q = layouts_same list packets packets t u p q (λ s. refl)
