-- The parts of a packet as words: what their checks let through, and what writing answers behind them.
use Rattle.std.specs.Prelude.{Result, Err}
use Rattle.words.proofs.Kit.{◌≡◌, sym, ap, ◌∙◌, Bool, true, false, List, [], ◌∷◌, ℕ, ◌<◌, arith, ltb, take, get_or}
use lib.Seq.{get_or-take}
use Rattle.words.specs.declared.refusals.Refusal.{Refusal}
use Rattle.words.specs.Listed.{list_number, on_paper}
use Rattle.words.specs.Numbers.{TYPE, VALUE}
use Rattle.words.specs.Tests.{either}
use Rattle.words.specs.Outcome.{Outcome, refused, accepted, number_of, Meets}
use Rattle.words.specs.Refusals.{first_given}
use Rattle.words.proofs.RefusalLaws.{first_passed}
use Rattle.words.proofs.MeetLaws.{meets_err}
use Rattle.packet_write.specs.Write.{write_by}
use Rattle.packet_write.specs.AsWords.{parts_in}
use Rattle.vrt49.specs.Packets.{flags_over, words_list, words_checks, write_words_by}

-- the flags of words that pass fit
flags_passed : (ws : List ℕ) → words_checks ws ≡ accepted tt → flags_over ws ≡ false
unfolding words_checks
flags_passed ws e = (first_passed (words_list ws) _ tt e).0.1.0

-- where the words are refused, writing is, with the same number
either_first : {A : Type 0} (t f g : Bool) (k : ℕ) (o : Outcome A) → first_given {A = Unit} ((TYPE, t) ∷ (VALUE, f) ∷ []) (accepted tt) ≡ refused k
    → first_given ((TYPE, t) ∷ (VALUE, either f g) ∷ []) o ≡ refused k
either_first true f g k o e = ap (λ u. refused (number_of u)) e
either_first false true g k o e = ap (λ u. refused (number_of u)) e
either_first false false g k o e = let z : ◌≡◌ {A = ℕ} 0 1 = cc in absurd (omega arith)

words_first : (survey : Bool) (pad : ℕ) (ws body out : List ℕ) (at k : ℕ) → words_checks ws ≡ refused k → write_words_by survey pad ws body out at ≡ refused k
unfolding words_checks write_words_by parts_in
words_first survey pad ws body out at k e = either_first (ltb 5 (get_or ws 0 0)) (flags_over ws) _ k _ e

-- where they are not, writing them is writing their parts
words_fine : (survey : Bool) (pad : ℕ) (ws body out : List ℕ) (at : ℕ) → flags_over ws ≡ false
    → write_words_by survey pad ws body out at ≡ write_by survey pad (parts_in ws) body out at
unfolding write_words_by write_by parts_in
words_fine survey pad ws body out at e = rw e

-- a sixteenth word is none of their parts
parts_taken : (ws : List ℕ) → parts_in (take 15 ws) ≡ parts_in ws
unfolding parts_in
parts_taken ws =
    let word : (i : ℕ) → i < 15 → get_or (take 15 ws) i 0 ≡ get_or ws i 0 = λ i h. get_or-take 15 ws i 0 h in
    rw (
      word 0 (omega arith),
      word 1 (omega arith),
      word 2 (omega arith),
      word 3 (omega arith),
      word 4 (omega arith),
      word 5 (omega arith),
      word 6 (omega arith),
      word 7 (omega arith),
      word 8 (omega arith),
      word 9 (omega arith),
      word 10 (omega arith),
      word 11 (omega arith),
      word 12 (omega arith),
      word 13 (omega arith),
      word 14 (omega arith),
    )

module _ (survey : Bool) (pad : ℕ) (ws : List ℕ) where
  pub words_refused : (r : Refusal) → refused (list_number r) ≡ words_checks ws → (body out : List ℕ) (at : ℕ)
      → Meets on_paper (write_words_by survey pad ws body out at) out (Err r) out
  words_refused r e body out at = meets_err (words_first survey pad ws body out at (list_number r) (sym e))

  module _ (fine : accepted tt ≡ words_checks ws) (body out left : List ℕ) (at : ℕ) (r : Result ℕ Refusal) where
    pub words_written : Meets on_paper (write_by survey pad (parts_in ws) body out at) out r left
        → Meets on_paper (write_words_by survey pad ws body out at) out r left
    words_written m = rw (words_fine survey pad ws body out at (flags_passed ws (sym fine))) m

    pub survey_written : Meets on_paper (write_by survey pad (parts_in (take 15 ws)) body out at) out r left
        → Meets on_paper (write_words_by survey pad ws body out at) out r left
    survey_written m = words_written (rw (parts_taken ws) at m)
