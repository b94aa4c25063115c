-- Document 01: "the promise fixes each f32 by its sign, exponent and fraction as whole numbers, zero being plus zero". The three fields of an f32 that is z
-- over 2 ^ k, z being below 2 ^ 24: all are 0 of zero.
use Rattle.std.specs.Prelude.{ℕ, zero, suc, ◌+◌, ◌-◌, ◌*◌, ◌^◌, ℤ, pos, negsuc}
use Rattle.std.specs.Float.Ieee.{size}

-- the sign: 1 below zero
unfoldable pub sign_field : ℤ → ℕ
sign_field (pos n) = 0
sign_field (negsuc n) = 1

-- the exponent, of z without its sign: the place of its first bit, where 127 stands for 2 ^ 0; 0 of zero
unfoldable pub exponent_field : ℕ → ℕ → ℕ
exponent_field k zero = 0
exponent_field k (suc n) = size (suc n) + 126 - k

-- the fraction: the 23 bits after that one; 0 of zero
unfoldable pub fraction_field : ℕ → ℕ
fraction_field zero = 0
fraction_field (suc n) = suc n * 2 ^ (24 - size (suc n)) - 2 ^ 23
