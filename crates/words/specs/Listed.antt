-- The refusals as the numbers of document 01's table 'Numbers given back', and of those that document 02 adds.
use Rattle.std.specs.Prelude.{◌≡◌, ℕ, ◌<◌, Result, Ok, Err, MatchResult}
use Rattle.words.specs.Numbers.{EMPTY, TYPE, BITS, SHORT, CUT, CLASS, TIME, INDICATOR, LAYOUT, FIELD, STREAM, LIST, ROOM, VALUE, SIZE, FORMAT, COUNT}
use Rattle.words.specs.Numbers.{TABLE, PAGE, PAD, PLACE}
use Rattle.words.specs.Outcome.{Outcome, refused, accepted}
use Rattle.words.specs.declared.refusals.Refusal.{Refusal}
use Rattle.words.specs.declared.refusals.Refusal.TheVariants as refusals
use Rattle.words.specs.declared.refusals.Unlisted.{Unlisted}

abbrev pub list_number : Refusal → ℕ
list_number refusals.Empty = EMPTY
list_number refusals.Kind = TYPE
list_number refusals.Bits = BITS
list_number refusals.Short = SHORT
list_number refusals.Cut = CUT
list_number refusals.Class = CLASS
list_number refusals.Time = TIME
list_number refusals.Indicator = INDICATOR
list_number refusals.Layout = LAYOUT
list_number refusals.Field = FIELD
list_number refusals.Stream = STREAM
list_number refusals.List = LIST
list_number refusals.Room = ROOM
list_number refusals.Value = VALUE
list_number refusals.Size = SIZE
list_number refusals.Format = FORMAT
list_number refusals.Count = COUNT
list_number refusals.Table = TABLE
list_number refusals.Page = PAGE
list_number refusals.Pad = PAD
list_number refusals.Place = PLACE

-- a number of the list
abbrev pub IsListed : ℕ → Type 0
IsListed n = (k : Refusal) × (list_number k ≡ n)

-- the result is the refusal of a number, or says that no refusal has it
abbrev pub Listed : ℕ → Result Refusal Unlisted → Type 0
Listed n r = MatchResult r (λ k. list_number k ≡ n) (λ e. (e.0 ≡ n) × ((k : Refusal) → list_number k ≡ n → ⊥))

-- document 01: "Where an answer is an enum, a definition gives this paper's number and values for each of its cases": an answer that is refused with a number
-- of the list, or accepted with its value
abbrev pub on_paper : {A : Type 0} → Result A Refusal → Outcome A
on_paper (Ok a) = accepted a
on_paper (Err r) = refused (list_number r)

-- one that is accepted with what its value stands for
abbrev pub on_paper_as : {A B : Type 0} → (A → B) → Result A Refusal → Outcome B
on_paper_as f (Ok a) = accepted (f a)
on_paper_as f (Err r) = refused (list_number r)
