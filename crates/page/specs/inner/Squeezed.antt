-- The held words of a part of the bits: those from `first` down to the one above `past`. The parts one after the other are all held words (`held_parts`,
-- proofs/SqueezeLaws.antt).
use Rattle.std.specs.Prelude.{ℕ, suc, List}
use Rattle.words.specs.SetBits.{bits_of, above}
use Rattle.record.specs.Held.{in_order}
use Rattle.record.specs.Layout.{slot_in}

unfoldable pub held_between : ℕ → ℕ → ℕ → List ℕ → List ℕ
held_between first past held slots = in_order (above past (bits_of (suc first) held)) (λ b. slot_in b slots)
