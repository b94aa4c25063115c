-- What a call for C gives: one number, 0 where it is accepted and else that of the refusal, and its values in the places that it was lent: single numbers,
-- arrays of a fixed length, and buffers. Document 01: "A refusal returns its number alone and writes nothing"; "Only words needed by an accepted answer
-- change."
use Rattle.std.specs.Prelude.{◌≡◌, ℕ, List, [], ◌∷◌}
use Rattle.words.specs.Told.{RefusalTold}
use Rattle.words.specs.Word.{join}
use Rattle.words.specs.Outcome.{Outcome, refused, accepted, number_of, Done}
use Rattle.words.specs.Told.{Told, place_word, place_bit}

-- the lent places afterwards: those of an accepted answer hold its values, a refusal leaves them as they were
abbrev pub places_of : {A L : Type 0} → (A → L) → Outcome A → L → L
places_of values (refused n) before = before
places_of values (accepted a) before = values a

-- the number r of a call that found the lent places as `before` and left them as `after` is what `want` says; `values` are those of an accepted answer
pub record Tells {A L : Type 0} (values : A → L) (want : Outcome A) (before : L) (r : ℕ) (after : L) : Type 0 where
  pub number : r ≡ number_of want
  pub places : after ≡ places_of values want before

-- ---- a refusal that is told where (document 02, C-15). It writes nothing, so the field's bit and the word come in the number that the call gives

-- its number, the bit and the word, from the right, and their widths
abbrev pub refusal_parts : RefusalTold → List ℕ
refusal_parts r = r.number ∷ place_bit r.place ∷ place_word r.place ∷ []

abbrev pub refusal_widths : List ℕ
refusal_widths = 8 ∷ 8 ∷ 16 ∷ []

-- all three in one
unfoldable pub number_for : RefusalTold → ℕ
number_for r = join refusal_widths (refusal_parts r)

abbrev pub in_number : {A : Type 0} → Told A → Outcome A
in_number (refused r) = refused (number_for r)
in_number (accepted a) = accepted a

-- ---- the values of an answer

-- the answer itself
abbrev pub plain : {A : Type 0} → A → A
plain a = a

-- of an accepted call that was lent buffers: what it leaves in them
abbrev pub left : {A L : Type 0} → Done A L → L
left d = d.leaves

-- and beside them the values of what it says
abbrev pub beside : {A L W : Type 0} → (A → W) → Done A L → L × W
beside values d = (d.leaves, values d.says)
