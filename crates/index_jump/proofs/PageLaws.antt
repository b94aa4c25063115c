-- The page of an entry, in an index whose contents are well made. The idea: the pages stand one behind the other (`pages_rise`), and the last ends inside the
-- index, so each lies inside it (`page_inside`).
use Rattle.words.proofs.Kit.{◌≡◌, refl, ap₂, ◌∙◌, true, List, ℕ, suc, ◌+◌, ◌-◌, ◌^◌, ◌≤◌, ◌<◌, arith, length, take, drop}
use Rattle.words.specs.Part.{part}
use Rattle.words.proofs.PartLaws.{seen}
use Rattle.index.specs.Layout.{most_entries, index_contents, entries_in, entry_offset, entry_length, page_in, pages_from}
use Rattle.index.specs.Good.{index_good}
use Rattle.index.proofs.GoodLaws.{index_of}
use Rattle.index.proofs.WrittenLaws.{pages_rise}

page_next : (ix : List ℕ) (j : ℕ) → pages_from ix (suc j) ≡ pages_from ix j + entry_length ix j
unfolding pages_from
page_next ix j = refl

module _ (ix : List ℕ) (good : index_good ix ≡ true) where
  -- what reading an entry asks
  pub entry_whole : index_contents ≤ length ix
  entry_whole = (index_of ix good).whole

  module _ (j : ℕ) (h : j < entries_in ix) where
    pub entry_below : j < most_entries
    entry_below = omega (arith, (index_of ix good).few)

    -- its page, by its offset and its length
    module _ (at n : ℕ) (e : (at ≡ entry_offset ix j) × (at < 2 ^ 32)) (f : (n ≡ entry_length ix j) × (n < 2 ^ 32)) where
      pub page_inside : at + n ≤ length ix
      page_inside =
          let g = index_of ix good in
          omega (arith, e.0, f.0, g.gapless j h, page_next ix j, pages_rise ix (suc j) (entries_in ix) h, g.inside)

      pub page_lent : take (at + n - at) (drop at ix) ≡ page_in ix j
      unfolding page_in
      page_lent = seen at (at + n) n ix refl ∙ ap₂ (λ (a m : ℕ). part a m ix) e.0 f.0
