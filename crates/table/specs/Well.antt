-- Document 01, 'The table and its page': "Well made: the whole layout is there; a valid list; .." and every record is good.
use Rattle.std.specs.Prelude.{◌≡◌, ℕ, ◌≤◌, ◌<◌, Bool, List, leb, length}
use Rattle.words.specs.Tests.{both}
use Rattle.words.specs.All.{all}
use Rattle.record.specs.Good.{record_good, Good}
use Rattle.table.specs.Layout.{streams_of, layout_words, record_at}
use Rattle.table.specs.Identifiers.{declared, list_good}

unfoldable pub record_good_at : List ℕ → ℕ → Bool
record_good_at t s = record_good (record_at s t)

unfoldable pub well_made : List ℕ → Bool
well_made t =
    both (leb (layout_words (streams_of t)) (length t))
    (both (list_good (streams_of t) (declared t))
    (all (streams_of t) (record_good_at t)))

-- ---- the same in facts

pub record GoodList (n : ℕ) (id : ℕ → ℕ) : Type 0 where
  pub some : 1 ≤ n
  pub few : n ≤ 32
  pub apart : (u s : ℕ) → u < s → s < n → id u ≡ id s → ⊥

pub record WellMade (t : List ℕ) : Type 0 where
  pub whole : layout_words (streams_of t) ≤ length t
  pub list : GoodList (streams_of t) (declared t)
  pub records : (s : ℕ) → s < streams_of t → Good (record_at s t)
