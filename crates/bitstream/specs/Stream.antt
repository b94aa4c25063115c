-- A stream of bits, in digits of b bits: `g j` is digit j, its leftmost bit first. The same stream may be given in digits of several widths.
use Rattle.std.specs.Prelude.{ℕ, zero, suc, ◌+◌, ◌-◌, ◌*◌, ◌/◌, ◌%◌, ◌^◌}

-- bit i of the stream
unfoldable pub bit : ℕ → (ℕ → ℕ) → ℕ → ℕ
bit b g i = g (i / b) / 2 ^ (b - (i % b + 1)) % 2

-- the number that the n bits from bit p on write, the first at the left
unfoldable pub span : ℕ → (ℕ → ℕ) → ℕ → ℕ → ℕ
span b g p zero = 0
span b g p (suc n) = span b g p n * 2 + bit b g (p + n)
