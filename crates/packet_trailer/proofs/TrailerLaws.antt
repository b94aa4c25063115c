-- A trailer word taken apart and made again, both ways: the parts lie beside each other and fill the word.
use Rattle.words.proofs.Kit.{◌≡◌, sym, ap, ◌∙◌, List, [], ◌∷◌, ℕ, ◌/◌, ◌%◌, ◌^◌, ◌<◌, arith, lt-ltb, not-false, eqb, ltb}
use native.Mathlib.Nat.{mod-lt, div-one}
use borrow.Author.Tests.{ltb-true}
use lib.Dec.{lit<}
use Rattle.words.specs.Word.{bits, join, total}
use Rattle.words.specs.Outcome.{accepted}
use Rattle.words.proofs.Cases.{both_left, both_right, accepted_same}
use Rattle.words.proofs.RefusalLaws.{first_passed}
use Rattle.words.proofs.WordLaws.{fields_from, join_split, split_from}
use Rattle.packet_trailer.specs.Trailer.{trailer_of, trailer_list, trailer_word_of}

-- the parts of a word make the word
pub trailer_again : (w : ℕ) → w < 2 ^ 32 → trailer_word_of (bits 31 20 w) (bits 19 8 w) (bits 7 7 w) (bits 6 0 w) ≡ accepted w
unfolding trailer_word_of total
trailer_again w h =
    let widths : List ℕ = 7 ∷ 1 ∷ 12 ∷ 12 ∷ [] in
    let low : bits 6 0 w ≡ w / 2 ^ 0 % 2 ^ 7 = rw (div-one w) in
    let same : bits 6 0 w ∷ bits 7 7 w ∷ bits 19 8 w ∷ bits 31 20 w ∷ [] ≡ fields_from 0 widths w = cc (low) in
    rw (
      lt-ltb (bits 31 20 w) (2 ^ 12) (mod-lt _ (lit< tt)),
      lt-ltb (bits 19 8 w) (2 ^ 12) (mod-lt _ (lit< tt)),
      lt-ltb (bits 7 7 w) 2 (mod-lt _ (lit< tt)),
      lt-ltb (bits 6 0 w) (2 ^ 7) (mod-lt _ (lit< tt)),
    )
    (ap accepted (ap (join widths) (same ∙ sym (split_from widths w)) ∙ join_split widths w h))

-- a word that was made says its parts
pub trailer_back_lem : (enables indicators e associated w : ℕ) → trailer_word_of enables indicators e associated ≡ accepted w
    → trailer_of w ≡ record { enables = enables; indicators = indicators; e = eqb e 1; associated = associated }
unfolding trailer_word_of trailer_of join
trailer_back_lem enables indicators e associated w h =
    let k = first_passed (trailer_list enables indicators e associated) _ w h in
    let t = not-false _ k.0.0 in
    let u = both_right (ltb enables (2 ^ 12)) _ t in
    let v = both_right (ltb indicators (2 ^ 12)) _ u in
    let en = ltb-true enables (2 ^ 12) (both_left (ltb enables (2 ^ 12)) _ t) in
    let ind = ltb-true indicators (2 ^ 12) (both_left (ltb indicators (2 ^ 12)) _ u) in
    let one = ltb-true e 2 (both_left (ltb e 2) _ v) in
    let few = ltb-true associated (2 ^ 7) (both_right (ltb e 2) _ v) in
    let word = accepted_same k.1 in
    let a : w / 2 ^ 20 % 2 ^ 12 ≡ enables = omega arith in
    let b : w / 2 ^ 8 % 2 ^ 12 ≡ indicators = omega arith in
    let c : w / 2 ^ 7 % 2 ≡ e = omega arith in
    let d : w % 2 ^ 7 ≡ associated = omega arith in
    rw (a, b, c, d)
