-- Document 01: "Another answer gives the two's complement value of a 1 to 64 bit item"; "Signed value: FORMAT, VALUE".
use Rattle.std.specs.Prelude.{ℕ, ◌^◌, [], ◌∷◌, ltb, leb, ℤ}
use Rattle.words.specs.Tests.{either}
use Rattle.words.specs.Signed.{twos_complement}
use Rattle.words.specs.Outcome.{Outcome, accepted}
use Rattle.words.specs.Refusals.{Refusals, first_given}
use Rattle.words.specs.Numbers.{FORMAT, VALUE}

-- "an item width outside 1 to 64"; "an item to be shown signed, does not fit its bits"
abbrev pub signed_list : ℕ → ℕ → Refusals
signed_list w x = (FORMAT, either (ltb w 1) (ltb 64 w)) ∷ (VALUE, leb (2 ^ w) x) ∷ []

-- what `signed` answers
unfoldable pub signed_of : ℕ → ℕ → Outcome ℤ
signed_of w x = first_given (signed_list w x) (accepted (twos_complement w x))
