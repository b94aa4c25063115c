-- Two's complement: numbers of w bits whose first bit is a sign.
use Rattle.std.specs.Prelude.{ℕ, ◌-◌, ◌^◌, ltb, ℤ, pos}
use Rattle.std.proofs.Math.IntN.{sub_ℕ}
use Rattle.words.specs.Tests.{pick}

-- x where its sign bit is 0, and x - 2 ^ w where it is 1
unfoldable pub twos_complement : ℕ → ℕ → ℤ
twos_complement w x = pick (ltb x (2 ^ (w - 1))) (pos x) (sub_ℕ x (2 ^ w))
