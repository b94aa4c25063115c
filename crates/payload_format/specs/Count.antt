-- Document 01, 'Payload': how many items, and how many words. COUNT: "wrong number of items or words".
use Rattle.std.specs.Prelude.{ℕ, ◌*◌, ◌%◌, Bool, not, [], ◌∷◌, eqb, ltb}
use Rattle.words.specs.Tests.{either}
use Rattle.words.specs.Outcome.{Outcome, accepted}
use Rattle.words.specs.Refusals.{Refusals, first_given}
use Rattle.words.specs.Numbers.{FORMAT, COUNT}
use Rattle.fields.specs.Format.{packing_size}
use Rattle.bitstream.specs.Carried.{needed}
use Rattle.payload_format.specs.Format.{vector_size, repeat_size, component_count, format_bad, carried_bits}

-- The group of items that a payload repeats. Document 02, C-12: "n becomes a multiple of the whole group"; source document 003, R. 6.1.6.5-1: "the number of
-- Data Items in a Data Sample multiplied by the vector size multiplied by the Repeat Count".
unfoldable pub group_of : ℕ → ℕ → ℕ
group_of first second = vector_size second * repeat_size second * component_count first

-- COUNT of n items: "n is at most 2,097,120 and a multiple of" the group
unfoldable pub count_bad : ℕ → ℕ → ℕ → Bool
count_bad first second n = either (ltb 2097120 n) (not (eqb (n % group_of first second) 0))

-- the words that n fields of a format take
unfoldable pub words_for : ℕ → ℕ → ℕ
words_for first n = needed (carried_bits first) (packing_size first) n

abbrev pub needed_list : ℕ → ℕ → ℕ → Refusals
needed_list first second n = (FORMAT, format_bad first) ∷ (COUNT, count_bad first second n) ∷ []

-- what `words_needed` answers
unfoldable pub needed_of : ℕ → ℕ → ℕ → Outcome ℕ
needed_of first second n = first_given (needed_list first second n) (accepted (words_for first n))
