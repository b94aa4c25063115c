-- Powers of two, and two's complement by the sign bit: below its weight a number is itself, and from there on as far below zero as it is from 2 ^ w.
use Rattle.words.proofs.Kit.{◌≡◌, ap, ◌∙◌, ⊎_elim, ℕ, suc, ◌+◌, ◌-◌, ◌^◌, ◌≤◌, ◌<◌, arith, lt-ltb, le-ltb}
use lib.IntN.{pos, negsuc}
use lib.Pow.{pow-add}
use lib.Signed.{mag}
use Rattle.words.specs.Signed.{twos_complement}
use Rattle.words.proofs.Cases.{le_or_lt}

pub halves : (w : ℕ) → 1 ≤ w → 2 ^ w ≡ 2 ^ (w - 1) + 2 ^ (w - 1)
halves w h = ap (λ (k : ℕ). 2 ^ k) {x = w} {y = w - 1 + 1} (omega arith) ∙ pow-add 2 (w - 1) 1 ∙ omega arith

-- the sign bit is 0
pub signed_low : (w x : ℕ) → x < 2 ^ (w - 1) → twos_complement w x ≡ pos x
unfolding twos_complement
signed_low w x h = rw (lt-ltb x (2 ^ (w - 1)) h)

-- the sign bit is 1
pub signed_high : (w x : ℕ) → 2 ^ (w - 1) ≤ x → x < 2 ^ w → twos_complement w x ≡ negsuc (2 ^ w - suc x)
unfolding twos_complement
signed_high w x h b = simp (le-ltb x (2 ^ (w - 1)) h, lt-ltb x (2 ^ w) b)

-- the range of w bits
pub signed_mag : (w x : ℕ) → 1 ≤ w → x < 2 ^ w → mag (twos_complement w x) < 2 ^ (w - 1)
signed_mag w x h b =
    ⊎_elim (λ (g : 2 ^ (w - 1) ≤ x). rw (signed_high w x g b) (omega (arith, halves w h)))
    (λ (g : x < 2 ^ (w - 1)). rw (signed_low w x g) g)
    (le_or_lt (2 ^ (w - 1)) x)
