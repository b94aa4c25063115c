-- Document 02, C-16: "Contents are well made when wholly there, with one entry for each boundary reached, no word place over 65,535 words for each packet
-- before it, and pages behind the contents in order, without gaps, inside the buffer." No more is asked: not that word places rise, nor anything of the
-- entries that are not there yet, nor of the pages.
use Rattle.std.specs.Prelude.{◌≡◌, ℕ, ◌*◌, ◌≤◌, ◌<◌, Bool, List, eqb, leb, length}
use Rattle.words.specs.Tests.{both}
use Rattle.words.specs.All.{all}
use Rattle.index.specs.Layout.{most_entries, spacing, index_contents, entries_in, packets_taken, place_reached, entry_place, entry_offset, pages_from}
use Rattle.index.specs.Layout.{pages_end}
use Rattle.index.specs.Layout.{boundaries_by}

-- "no word place over 65,535 words for each packet before it": a packet has at most that many
abbrev pub most_place : ℕ → ℕ
most_place packets = 65535 * packets

unfoldable pub entry_good : List ℕ → ℕ → Bool
entry_good ix j = both (leb (entry_place ix j) (most_place (spacing * j))) (eqb (entry_offset ix j) (pages_from ix j))

-- n entries, and their pages "inside the buffer"
unfoldable pub entries_good : List ℕ → ℕ → Bool
entries_good ix n = both (all n (entry_good ix)) (leb (pages_from ix n) (length ix))

-- "wholly there, with one entry for each boundary reached", and no more entries than there can be
unfoldable pub index_good : List ℕ → Bool
index_good ix =
    both (leb index_contents (length ix))
    (both (eqb (entries_in ix) (boundaries_by (packets_taken ix)))
    (both (leb (entries_in ix) most_entries)
    (both (leb (place_reached ix) (most_place (packets_taken ix)))
    (entries_good ix (entries_in ix)))))

-- ---- the same in facts

pub record GoodIndex (ix : List ℕ) : Type 0 where
  pub whole : index_contents ≤ length ix
  pub entries : entries_in ix ≡ boundaries_by (packets_taken ix)
  pub few : entries_in ix ≤ most_entries
  pub reached : place_reached ix ≤ most_place (packets_taken ix)
  pub places : (j : ℕ) → j < entries_in ix → entry_place ix j ≤ most_place (spacing * j)
  pub gapless : (j : ℕ) → j < entries_in ix → entry_offset ix j ≡ pages_from ix j
  pub inside : pages_end ix ≤ length ix
