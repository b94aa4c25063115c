-- The places up to k are filled with what the calls gave.
use Rattle.words.proofs.Kit.{◌≡◌, ℕ, ◌≤◌, ◌<◌}
use Rattle.bitstream.proofs.FilledLaws.{Fills}
use Rattle.payload_unpack.proofs.plain.write_items.Given as goal

abbrev pub invariant-loop-k : goal.invariant-loop-k
invariant-loop-k g l =
    (h : ℕ → ℕ) → ((j x : ℕ) → l.from ≤ j → j < l.n → goal.F-post g l.value j x → x ≡ h j) → Fills l.from l.n l.k h l.initial.items l.items
