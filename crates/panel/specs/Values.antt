-- Document 01, 'Readings for the panel': numbers out of held words. "These three are f32 and exact: the promise fixes each f32 by its sign, exponent and
-- fraction as whole numbers, zero being plus zero." Two's complement is that of crate `words`.
use Rattle.std.specs.Prelude.{ℕ, zero, suc, ◌-◌, ◌/◌, ◌%◌, ◌^◌, Bool, true, false, ℤ, pos, negsuc, Float}
use Rattle.std.specs.Int.Count.{count_trailing_zeros}
use Rattle.std.specs.Float.{fin}
use Rattle.std.specs.Float.Ieee.{minus}
use Rattle.words.specs.Word.{bits, high_first}
use Rattle.words.specs.Signed.{twos_complement}

-- ---- frequencies

-- the two words of a frequency, high first, in units of 2 ^ -20 hertz
unfoldable pub units_of : ℕ → ℕ → ℤ
units_of high low = twos_complement 64 (high_first high low)

-- z over m "rounded down": -1 - n over m is -1 - n / m
abbrev pub floor_div : ℤ → ℕ → ℤ
floor_div (pos n) m = pos (n / m)
floor_div (negsuc n) m = negsuc (n / m)

-- and what that leaves: 0 to m - 1
abbrev pub floor_rem : ℤ → ℕ → ℕ
floor_rem (pos n) m = n % m
floor_rem (negsuc n) m = m - suc (n % m)

-- ---- floats

-- n over 2 ^ k with the sign s: the float whose value is fraction * 2 ^ exponent, the fraction being odd; that of 0 is 0 * 2 ^ 0
unfoldable pub share : ℕ → Bool → ℕ → Float
share k s zero = fin s 0 (pos 0)
share k s (suc n) = let t = count_trailing_zeros 24 (suc n) in fin s (suc n / 2 ^ t) (minus t k)

-- z over 2 ^ k: minus below zero, and "zero being plus zero"
unfoldable pub over : ℕ → ℤ → Float
over k (pos n) = share k false n
over k (negsuc n) = share k true (suc n)

-- "the lower half, signed", and the upper
unfoldable pub lower_half : ℕ → ℤ
lower_half w = twos_complement 16 (bits 15 0 w)

unfoldable pub upper_half : ℕ → ℤ
upper_half w = twos_complement 16 (bits 31 16 w)
