-- `load` meets its promise: the words of five reads are the five words.
use Rattle.words.proofs.Kit.{◌≡◌, List, [], ◌∷◌, ℕ, suc, ◌<◌, arith, length, drop, get_or, rules}
use lib.ListN.{length-drop}
use lib.Seq.{drop-cons}
use Rattle.fields.proofs.WalkLaws.{none_left}
use Rattle.play.specs.Run.{entry_words}
use Rattle.play.proofs.run.load.Goals as goal

five_words : (ws : List ℕ) → length ws ≡ entry_words → get_or ws 0 0 ∷ get_or ws 1 0 ∷ get_or ws 2 0 ∷ get_or ws 3 0 ∷ get_or ws 4 0 ∷ [] ≡ ws
five_words ws l =
    let word : (i : ℕ) → i < length ws → drop i ws ≡ get_or ws i 0 ∷ drop (suc i) ws = λ i h. drop-cons ws i 0 h in
    let none : drop 5 ws ≡ [] = none_left (drop 5 ws) (omega (arith, length-drop 5 ws)) in
    cc (word 0 (omega arith), word 1 (omega arith), word 2 (omega arith), word 3 (omega arith), word 4 (omega arith))

pub returns : goal.returns
returns c = search five_words
