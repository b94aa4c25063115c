-- What the functions inside promise of a packet that is taken in, on a table and an index that are known to be well made.
use Rattle.std.specs.Prelude.{◌≡◌, ℕ, ◌+◌, ◌*◌, ◌^◌, Bool, true, false, not, List, ltb, leb, length, take, Result, Ok, Err, Option, Some, None}
use Rattle.words.specs.declared.RefusedAt.{RefusedAt}
use Rattle.words.specs.Tests.{pick, both}
use Rattle.words.specs.Outcome.{refused, accepted, said_of, left_of}
use Rattle.words.specs.Told.{Told, told_paper}
use Rattle.words.specs.Part.{put}
use Rattle.table.specs.Layout.{streams_of, layout_words}
use Rattle.table.specs.Well.{well_made}
use Rattle.play.specs.declared.Heard.{Heard}
use Rattle.index.specs.Layout.{most_entries, entries_in, place_reached, pages_end, with_reached, with_entry}
use Rattle.index.specs.Good.{index_good}
use Rattle.index_grow.specs.declared.Taken.{Taken}
use Rattle.index_grow.specs.declared.Taken.TheVariants.{Declared}
use Rattle.index_grow.specs.Grow.{taken_as, packets_then, entry_lacks, table_taken, grow_told}

-- both are well made
pub record Ready (t ix : List ℕ) : Type 0 where
  pub table : well_made t ≡ true
  pub index : index_good ix ≡ true

-- the answer r, and the table and the index afterwards. Where a page does not fit behind a packet that was played, the table is not as it was: the one that is
-- played on there is a copy
pub record GrownOn (t ws ix : List ℕ) (r : Result Taken RefusedAt) (left leftIndex : List ℕ) : Type 0 where
  pub answer : told_paper r ≡ said_of (grow_told t ws ix)
  pub table : left ≡ table_taken t ws
  pub index : leftIndex ≡ (left_of (grow_told t ws ix) (t, ix)).1

-- what growing answers, by what play says and the size of the packet that the recording goes on behind
abbrev pub answer_by : Told Heard → Option ℕ → Told Taken
answer_by (accepted h) next = accepted (Declared h)
answer_by (refused r) (Some size) = accepted (taken_as (refused r) size)
answer_by (refused r) None = refused r

-- the index with a packet of so many words counted
unfoldable pub counted_in : ℕ → List ℕ → List ℕ
counted_in size ix = with_reached (packets_then ix) (place_reached ix + size) ix

-- the next entry is asked for, of the table t at a word place: whether there was one, and the index afterwards
abbrev pub with_next : List ℕ → ℕ → List ℕ → List ℕ
with_next t place ix = with_entry (entries_in ix) place (pages_end ix) t ix

pub record EntryMade (t : List ℕ) (place : ℕ) (ix : List ℕ) (made : Bool) (left : List ℕ) : Type 0 where
  pub fits : made ≡ not (entry_lacks t ix)
  pub index : left ≡ pick made (with_next t place ix) ix

-- the same behind a packet of so many words, which is counted
pub record EntryTaken (t : List ℕ) (size : ℕ) (ix : List ℕ) (made : Bool) (left : List ℕ) : Type 0 where
  pub fits : made ≡ not (entry_lacks t ix)
  pub index : left ≡ pick made (with_reached (packets_then ix) (place_reached ix + size) (with_next t (place_reached ix + size) ix)) ix

-- there is room for the next entry behind any packet: one is left, a word says where its page begins, and the longest page of so many streams fits
unfoldable pub room_for_any : List ℕ → List ℕ → Bool
room_for_any t ix =
    both (ltb (entries_in ix) most_entries) (both (ltb (pages_end ix) (2 ^ 32)) (leb (pages_end ix + (2 + 90 * streams_of t)) (length ix)))

-- the layout of a table, of which a copy is made
abbrev pub layout_in : List ℕ → List ℕ
layout_in t = take (layout_words (streams_of t)) t

-- a table that a copy is given back to where the packet was taken in
abbrev pub given_back : Result Taken RefusedAt → List ℕ → List ℕ → List ℕ
given_back (Err r) copy t = t
given_back (Ok x) copy t = put 0 (length copy) copy t
