-- `power` meets its promise: a shift of 1 stays below 2 ^ 64.
use Rattle.words.proofs.Kit.{rules, ◌≡◌, refl, ap, ◌∙◌, ℕ, ◌*◌, ◌%◌, ◌^◌}
use native.Mathlib.Nat.{one-mul, mod-eq_of_lt, le_of_suc-le-suc}
use lib.Pow.{pow_pos, pow-lt, pow_mono}
use Rattle.words.proofs.inner.powers.power.Goals as goal

pub returns : goal.returns
returns c =
    let n = c.args.n in
    let e : 1 * 2 ^ n % 2 ^ 64 ≡ 2 ^ n = ap (λ (x : ℕ). x % 2 ^ 64) (one-mul (2 ^ n)) ∙ mod-eq_of_lt (pow-lt c.requires) in
    rw e (refl, pow_pos n, pow_mono {i = n} {j = 63} (le_of_suc-le-suc c.requires))
