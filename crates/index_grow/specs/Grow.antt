-- Document 02, C-16: "growing TABLE, PAGE for contents, reading refusals, ROOM"; "Packets are numbered as `vrtplay` walks them, each read by its stream's
-- choice (C-13): STREAM refusals have numbers, any other ends the recording." The words that are handed in are those of the recording from the next packet
-- on: that packet's alone, or all that stand behind it too. What happens to the table is what play does.
use Rattle.std.specs.Prelude.{ℕ, ◌+◌, ◌%◌, ◌^◌, Bool, not, List, [], ◌∷◌, ◌++◌, eqb, ltb, leb, length, get_or}
use Rattle.words.specs.Numbers.{TABLE, PAGE, ROOM}
use Rattle.words.specs.Tests.{pick, both, either}
use Rattle.words.specs.Outcome.{Outcome, refused, accepted, Done, said_of, left_of}
use Rattle.words.specs.Refusals.{Refusals, first_given}
use Rattle.words.specs.Told.{Told, told, place_word}
use Rattle.packet.specs.Header.{size_of}
use Rattle.packet.specs.Read.{list_by}
use Rattle.packet.specs.Told.{where_of}
use Rattle.table.specs.Well.{well_made}
use Rattle.play.specs.declared.Heard.{Heard}
use Rattle.play.specs.Play.{chosen, play_told}
use Rattle.page.specs.Layout.{page_length}
use Rattle.index.specs.Layout.{most_entries, spacing, entries_in, packets_taken, place_reached, pages_end, with_reached, with_entry}
use Rattle.index.specs.Good.{index_good}
use Rattle.index_grow.specs.declared.Taken.{Taken}
use Rattle.index_grow.specs.declared.Taken.TheVariants.{Declared, Undeclared}

-- ---- what is said of a packet that is taken in

-- what play says of it; "On a STREAM refusal growing .. answers 'undeclared' with the place": the size of that packet, and the place of the refusal
abbrev pub taken_as : Told Heard → ℕ → Taken
taken_as (accepted h) size = Declared h
taken_as (refused r) size = Undeclared (record { size = size; place = place_word r.place })

abbrev pub taken_of : List ℕ → List ℕ → Taken
taken_of t ws = taken_as (said_of (play_told t ws)) (size_of (get_or ws 0 0))

-- ---- what is left

-- the table as play leaves it; "On a STREAM refusal growing leaves the table"
unfoldable pub table_taken : List ℕ → List ℕ → List ℕ
table_taken t ws = left_of (play_told t ws) t

-- the packets taken in with this one, and the word place behind it
abbrev pub packets_then : List ℕ → ℕ
packets_then ix = packets_taken ix + 1

abbrev pub place_then : List ℕ → List ℕ → ℕ
place_then ws ix = place_reached ix + size_of (get_or ws 0 0)

-- "every 1,024th" boundary has an entry
abbrev pub reaches_entry : List ℕ → Bool
reaches_entry ix = eqb (packets_then ix % spacing) 0

-- "contents .. full": there is no entry more; or the page would begin where an offset, a word, cannot say. "buffer full": the page does not fit
unfoldable pub entry_lacks : List ℕ → List ℕ → Bool
entry_lacks t ix =
    either (leb most_entries (entries_in ix)) (either (leb (2 ^ 32) (pages_end ix)) (ltb (length ix) (pages_end ix + page_length t)))

-- the index with the packet counted, and at every 1,024th boundary the page of the table after the packet; other words of the index stay
unfoldable pub index_then : List ℕ → List ℕ → List ℕ → List ℕ
index_then t ws ix =
    with_reached (packets_then ix) (place_then ws ix)
    (pick (reaches_entry ix) (with_entry (entries_in ix) (place_then ws ix) (pages_end ix) (table_taken t ws) ix) ix)

-- ---- the refusals, in their order, and the answer

-- reading refuses the packet by its stream's choice; "ROOM also when growing finds contents or buffer full"
abbrev pub grow_list : List ℕ → List ℕ → List ℕ → Refusals
grow_list t ws ix =
    (TABLE, not (well_made t))
    ∷ (PAGE, not (index_good ix))
    ∷ (list_by (chosen t ws) (get_or ws 0 0) ws ++ ((ROOM, both (reaches_entry ix) (entry_lacks (table_taken t ws) ix)) ∷ []))

-- what growing answers, and what it leaves in the table and in the index
abbrev pub grown_done : List ℕ → List ℕ → List ℕ → Done Taken (List ℕ × List ℕ)
grown_done t ws ix = record { says = taken_of t ws; leaves = (table_taken t ws, index_then t ws ix) }

unfoldable pub grow_of : List ℕ → List ℕ → List ℕ → Outcome (Done Taken (List ℕ × List ℕ))
grow_of t ws ix = first_given (grow_list t ws ix) (accepted (grown_done t ws ix))

-- with the place of each refusal; TABLE, PAGE and ROOM have none
unfoldable pub grow_told : List ℕ → List ℕ → List ℕ → Told (Done Taken (List ℕ × List ℕ))
grow_told t ws ix = told (where_of ws) (grow_of t ws ix)
