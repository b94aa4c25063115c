-- What a loop promises that fills the places from a on, where another has filled those before.
use Rattle.std.specs.Prelude.{◌≡◌, ℕ, ◌≤◌, List, length}
use Rattle.bitstream.specs.Filled.{filled}

-- l has `h 0` to `h (a - 1)` in its first places, and l' then has `h 0` to `h (n - 1)`, both before what else stood in the buffer
abbrev pub FilledOn : (a n : ℕ) (h : ℕ → ℕ) (l l' : List ℕ) → Type 0
FilledOn a n h l l' = (buffer : List ℕ) → n ≤ length buffer → l ≡ filled a h buffer → l' ≡ filled n h buffer
