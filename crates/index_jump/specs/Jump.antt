-- Document 02, C-16: "An analyst asks for the table just before packet N of a recording"; "jumping PAGE for contents, PLACE, PAGE for the entry, ROOM"; "21
-- PLACE exactly for N above that number", of the packets taken in; "PAGE for contents or an entry not well made, or an entry from which the recording has no
-- boundary N"; "A jump plays at most 1,023 packets". The words that are handed in are those of the recording from a word place on, `first`; from 0 on they
-- are all of it.
use Rattle.std.specs.Prelude.{ℕ, ◌+◌, ◌-◌, ◌/◌, ◌%◌, Bool, not, List, [], ◌∷◌, ◌++◌, ltb, leb, length, drop}
use Rattle.words.specs.Numbers.{PAGE, PLACE, ROOM}
use Rattle.words.specs.Tests.{both}
use Rattle.words.specs.Outcome.{Outcome, accepted, Done}
use Rattle.words.specs.Refusals.{Refusals, first_given}
use Rattle.table.specs.Layout.{layout_words}
use Rattle.page.specs.Layout.{bodies_in, table_of}
use Rattle.page.specs.Good.{page_good}
use Rattle.index.specs.Layout.{spacing, packets_taken, entry_place, page_in}
use Rattle.index.specs.Good.{index_good}
use Rattle.index_jump.specs.declared.Landed.{Landed}
use Rattle.index_jump.specs.Onward.{Behind, behind_packets}

-- the entry before packet n, and the number of packets from its boundary to n
abbrev pub entry_before : ℕ → ℕ
entry_before n = n / spacing

abbrev pub packets_beyond : ℕ → ℕ
packets_beyond n = n % spacing

-- the page of that entry, and the words of its table's layout
abbrev pub page_before : List ℕ → ℕ → List ℕ
page_before ix n = page_in ix (entry_before n)

abbrev pub landing_words : List ℕ → ℕ → ℕ
landing_words ix n = layout_words (bodies_in (page_before ix n))

-- ---- the entry

-- its boundary stands in the words, which begin at the word place first
abbrev pub stands_in : List ℕ → ℕ → ℕ → Bool
stands_in ws first place = both (leb first place) (leb (place - first) (length ws))

-- the packets from its boundary to n, played on its page's table
unfoldable pub landing : List ℕ → ℕ → List ℕ → ℕ → Behind
landing ws first ix n = behind_packets (packets_beyond n) ws (entry_place ix (entry_before n) - first) (table_of (page_before ix n))

-- the entry is well made, and from it the recording has boundary n
unfoldable pub entry_serves : List ℕ → ℕ → List ℕ → ℕ → Bool
entry_serves ws first ix n =
    both (page_good (page_before ix n)) (both (stands_in ws first (entry_place ix (entry_before n))) (landing ws first ix n).all)

-- ---- the refusals, in their order, and the answer

abbrev pub jump_list : List ℕ → ℕ → List ℕ → ℕ → List ℕ → Refusals
jump_list ws first ix n t =
    (PAGE, not (index_good ix))
    ∷ (PLACE, ltb (packets_taken ix) n)
    ∷ (PAGE, not (entry_serves ws first ix n))
    ∷ (ROOM, ltb (length t) (landing_words ix n))
    ∷ []

-- the layout's length, and the word place of boundary n; the layout behind those packets, and then the words past it as they were
abbrev pub landed_done : List ℕ → ℕ → List ℕ → ℕ → List ℕ → Done Landed (List ℕ)
landed_done ws first ix n t = record {
  says = record { length = landing_words ix n; place = first + (landing ws first ix n).place };
  leaves = (landing ws first ix n).table ++ drop (landing_words ix n) t;
}

-- what a jump answers, and what it leaves in the table
unfoldable pub jump_of : List ℕ → ℕ → List ℕ → ℕ → List ℕ → Outcome (Done Landed (List ℕ))
jump_of ws first ix n t = first_given (jump_list ws first ix n t) (accepted (landed_done ws first ix n t))
