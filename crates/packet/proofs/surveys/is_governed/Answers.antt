-- `is_governed` meets its promise: of no words the header is taken for 0, and its type is 0.
use Rattle.words.proofs.Kit.{◌≡◌, refl, ap, false, List, [], ◌∷◌, ℕ, ◌<◌, arith, eqb, length, get_or}
use Rattle.packet.specs.Header.{type_of}
use Rattle.packet.proofs.surveys.is_governed.Goals as goal

no_words : (ws : List ℕ) → length ws ≡ 0 → false ≡ eqb (type_of (get_or ws 0 0)) 1
no_words [] e = refl
no_words (w ∷ ws) e = absurd (omega arith)

some_words : (ws : List ℕ) → (length ws ≡ 0 → ⊥) → 0 < length ws
some_words ws d = omega arith

by_type : (kind : ℕ) (ws : List ℕ) → kind ≡ type_of (get_or ws 0 0) → eqb kind 1 ≡ eqb (type_of (get_or ws 0 0)) 1
by_type kind ws k = ap (λ (n : ℕ). eqb n 1) k

pub returns-then-ws-eq0 : goal.returns-then-ws-eq0
returns-then-ws-eq0 c = search no_words

pub bounds-ws-0 : goal.bounds-ws-0
bounds-ws-0 c = search some_words

pub returns : goal.returns
returns c = search by_type
