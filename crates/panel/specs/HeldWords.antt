-- The held words themselves, for a field of which a reading says no more: TABLE, STREAM and VALUE as a reading, then ROOM. Document 01: "A refusal returns its
-- number alone and writes nothing"; "Only words needed by an accepted answer change."
use Rattle.std.specs.Prelude.{ℕ, List, [], ◌∷◌, ◌++◌, ltb, length, drop}
use Rattle.words.specs.Numbers.{ROOM}
use Rattle.words.specs.Outcome.{Outcome, accepted, Done}
use Rattle.words.specs.Refusals.{Refusals, first_given}
use Rattle.record.specs.Layout.{held_words_in}
use Rattle.table.specs.Layout.{record_at}
use Rattle.panel.specs.Readings.{reading_list}

-- "a buffer to be written is too short"
abbrev pub copy_list : List ℕ → List ℕ → Refusals
copy_list ws out = (ROOM, ltb (length out) (length ws)) ∷ []

abbrev pub held_words_list : List ℕ → ℕ → ℕ → List ℕ → Refusals
held_words_list t stream bit out = reading_list t stream bit ++ copy_list (held_words_in bit (record_at stream t)) out

-- what `held_words` answers, and what it leaves in the buffer
unfoldable pub held_words_of : List ℕ → ℕ → ℕ → List ℕ → Outcome (Done ℕ (List ℕ))
held_words_of t stream bit out =
    let ws = held_words_in bit (record_at stream t) in
    first_given (held_words_list t stream bit out) (accepted (record { says = length ws; leaves = ws ++ drop (length ws) out }))
