-- The bits that any number of a list has, by which packing tests at once whether all fit; the law `fitting_joined` of `proofs/FitLaws.antt` says so.
use Rattle.std.specs.Prelude.{ℕ, zero, suc, List, get_or}
use Rattle.std.specs.Int.Bits.{bit_or}

-- of its first n numbers
unfoldable pub any_bits : ℕ → List ℕ → ℕ
any_bits zero l = 0
any_bits (suc n) l = bit_or (any_bits n l) (get_or l n 0)
