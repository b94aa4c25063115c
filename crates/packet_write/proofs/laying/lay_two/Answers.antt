-- `lay_two` meets its promise: words that are there have their places.
use Rattle.words.proofs.Kit.{◌≡◌, refl, sym, Bool, true, false, List, [], ◌∷◌, ℕ, ◌+◌, ◌≤◌, ◌<◌, arith, length, set, rules}
use native.Mathlib.Nat.{add-zero}
use native.Mathlib.Numerals.{add-one}
use lib.ListN.{length-set}
use Rattle.words.specs.Tests.{when}
use Rattle.words.specs.Laid.{Laid}
use Rattle.packet_write.specs.Write.{given}
use Rattle.packet_write.proofs.laying.lay_two.Goals as goal

module _ (present : Bool) (out : List ℕ) (at : ℕ) where
  module _ (there : present ≡ true) where
    first_inside : at + when present 2 ≤ length out → at < length out
    first_inside h = let g = rw there at h in omega arith

    second_inside : at + when present 2 ≤ length out → at + 1 < length out
    second_inside h = let g = rw there at h in omega arith

    two_laid : (high low : ℕ) → Laid out at (given present (high ∷ low ∷ [])) (at + 2) (set (set out at high) (at + 1) low)
    two_laid high low = rw there (record { past = refl; kept = rw add-one })

  none_laid : present ≡ false → (words : List ℕ) → Laid out at (given present words) at out
  none_laid absent words = rw absent (record { past = sym (add-zero _); kept = refl })

pub bounds-out-at : goal.bounds-out-at
bounds-out-at c = search first_inside

pub bounds-out-at-then-present : goal.bounds-out-at-then-present
bounds-out-at-then-present c = simp length-set (search second_inside)

pub returns-then-present : goal.returns-then-present
returns-then-present c = search two_laid

pub returns : goal.returns
returns c = search none_laid
