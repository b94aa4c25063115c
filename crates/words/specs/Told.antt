-- Document 02, C-15: "Every reading refusal is to carry the word place from the packet's start, and FIELD also the field bit." Where that is follows from the
-- number and the words.
use Rattle.std.specs.Prelude.{ℕ, ◌+◌, [], ◌∷◌, Result, Ok, Err}
use Rattle.words.specs.Listed.{list_number}
use Rattle.words.specs.Outcome.{Outcome, Reply, refused, accepted}
use Rattle.words.specs.Refusals.{Refusals, RefusalsOf}
use Rattle.words.specs.declared.Where.{Where}
use Rattle.words.specs.declared.Where.TheVariants.{Nowhere, Word, Field}
use Rattle.words.specs.declared.RefusedAt.{RefusedAt}

-- what a refusal says on paper: a number, and where
pub record RefusalTold : Type 0 where
  pub number : ℕ
  pub place : Where

abbrev pub refusal : ℕ → Where → RefusalTold
refusal n place = record { number = n; place = place }

-- an answer that is refused with a number and where
abbrev pub Told : Type 0 → Type 0
Told A = Reply RefusalTold A

-- document 01: "Where an answer is an enum, a definition gives this paper's number and values for each of its cases"
abbrev pub told_paper : {A : Type 0} → Result A RefusedAt → Told A
told_paper (Ok a) = accepted a
told_paper (Err r) = refused (refusal (list_number r.refusal) r.place)

-- an answer that is refused with a number, and a list of refusals, told where: `place` has the place of each number
module _ (place : ℕ → Where) where
  abbrev pub told : {A : Type 0} → Outcome A → Told A
  told (refused n) = refused (refusal n (place n))
  told (accepted a) = accepted a

  abbrev pub told_list : Refusals → RefusalsOf RefusalTold
  told_list [] = []
  told_list (r ∷ rest) = (refusal r.0 (place r.0), r.1) ∷ told_list rest

-- ---- a place as numbers

-- the word, and 0 where none is told
abbrev pub place_word : Where → ℕ
place_word Nowhere = 0
place_word (Word at) = at
place_word (Field at bit) = at

-- the field's bit, and 0 where none is told
abbrev pub place_bit : Where → ℕ
place_bit Nowhere = 0
place_bit (Word at) = 0
place_bit (Field at bit) = bit

-- a place so many words further on
abbrev pub place_further : ℕ → Where → Where
place_further n Nowhere = Nowhere
place_further n (Word at) = Word (n + at)
place_further n (Field at bit) = Field (n + at) bit
