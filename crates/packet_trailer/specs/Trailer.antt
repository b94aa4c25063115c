-- Document 01, 'The packet': "Trailer: enables 31-20, indicators 19-8, E 7, associated count 6-0; no bit combination is refused (ours)."
use Rattle.std.specs.Prelude.{ℕ, ◌^◌, not, [], ◌∷◌, ltb}
use Rattle.words.specs.Numbers.{VALUE}
use Rattle.words.specs.Tests.{both}
use Rattle.words.specs.Word.{bits, has, join}
use Rattle.words.specs.Outcome.{Outcome, accepted}
use Rattle.words.specs.Refusals.{Refusals, first_given}
use Rattle.packet_trailer.specs.declared.Trailer.{Trailer}

-- what a trailer word says
unfoldable pub trailer_of : ℕ → Trailer
trailer_of w = record { enables = bits 31 20 w; indicators = bits 19 8 w; e = has w 7; associated = bits 6 0 w }

-- "a number to be written .. does not fit its bits"
abbrev pub trailer_list : ℕ → ℕ → ℕ → ℕ → Refusals
trailer_list enables indicators e associated =
    (VALUE, not (both (ltb enables (2 ^ 12)) (both (ltb indicators (2 ^ 12)) (both (ltb e 2) (ltb associated (2 ^ 7)))))) ∷ []

-- the trailer word of four numbers
unfoldable pub trailer_word_of : ℕ → ℕ → ℕ → ℕ → Outcome ℕ
trailer_word_of enables indicators e associated =
    first_given (trailer_list enables indicators e associated)
    (accepted (join (7 ∷ 1 ∷ 12 ∷ 12 ∷ []) (associated ∷ e ∷ indicators ∷ enables ∷ [])))
