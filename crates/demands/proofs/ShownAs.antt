-- What a reading shows, sentence by sentence. The idea: each clause is the definition's row of its bit, and what panel proves of the numbers in it.
use Rattle.words.proofs.Kit.{◌≡◌, refl, sym, ◌∙◌, Bool, not, List, [], ◌∷◌, ℕ, ◌^◌, ◌≤◌, ◌<◌, arith, eqb, get_or}
use native.Mathlib.Nat.{mod-lt}
use lib.IntN.{ℤ, pos, negsuc, nat_abs}
use lib.Dec.{lit≤}
use lib.Signed.{mag}
use Rattle.words.specs.Tests.{pick, among}
use Rattle.words.specs.Word.{bits, high_first}
use Rattle.words.specs.Signed.{twos_complement}
use Rattle.words.specs.All.{all}
use Rattle.words.proofs.Cases.{neither, agreed}
use Rattle.words.proofs.AllLaws.{all_at}
use Rattle.words.proofs.PowerLaws.{signed_mag}
use Rattle.panel.specs.Values.{units_of, floor_div, floor_rem, over, lower_half, upper_half}
use Rattle.panel.specs.Readings.{is_frequency, shown_of}
use Rattle.panel.proofs.ValueLaws.{hertz_and_parts}
use Rattle.panel.proofs.Quotient.{over_exact}
use Rattle.panel.proofs.Pattern.{half_pattern, fields_fit}
use Rattle.demands.specs.ShownAs.{Exactly, frequencies, ShownAs}

near : (z : ℤ) → mag z < 2 ^ 15 → nat_abs z < 2 ^ 24
near (pos n) b = omega arith
near (negsuc n) b = omega arith

-- a signed half over 2 ^ k
half_exactly : (k half : ℕ) → k ≤ 125 → half < 2 ^ 16 → Exactly (over k (twos_complement 16 half)) (twos_complement 16 half) k
half_exactly k half hk h =
    let z = twos_complement 16 half in
    let small : nat_abs z < 2 ^ 24 = near z (signed_mag 16 half (lit≤ tt) h) in
    record { value = over_exact k z (omega arith) small; fields = half_pattern k half hk h; sizes = fields_fit k (nat_abs z) small }

half_small : (w : ℕ) → (bits 15 0 w < 2 ^ 16) × (bits 31 16 w < 2 ^ 16)
half_small w = (mod-lt _ (omega arith), mod-lt _ (omega arith))

-- the row of frequencies is the document's list
row_right : ℕ → Bool
row_right b = pick (among b frequencies) (is_frequency b) (not (is_frequency b))

frequency_row : (b : ℕ) → b < 31 → among b frequencies ≡ is_frequency b
unfolding row_right is_frequency all
frequency_row b h = agreed (among b frequencies) (is_frequency b) (all_at row_right 31 b h refl)

pub shown_as : (ws : List ℕ) → ShownAs ws
unfolding shown_of lower_half upper_half units_of is_frequency
shown_as ws = record {
  hertz = λ b h e.
      let z = twos_complement 64 (high_first (get_or ws 0 0) (get_or ws 1 0)) in
      (floor_div z 1048576, floor_rem z 1048576, rw (sym (frequency_row b h) ∙ e), record { sum = (hertz_and_parts z).0; few = (hertz_and_parts z).1 });
  levels = (_, refl, half_exactly 7 _ (lit≤ tt) (half_small (get_or ws 0 0)).0);
  stages = (_, _, refl, half_exactly 7 _ (lit≤ tt) (half_small (get_or ws 0 0)).0, half_exactly 7 _ (lit≤ tt) (half_small (get_or ws 0 0)).1);
  degrees = (_, refl, half_exactly 6 _ (lit≤ tt) (half_small (get_or ws 0 0)).0);
  others = λ b h e f.
      let p = neither (eqb b 24) (among b (23 ∷ 18 ∷ [])) f in
      let q = neither (eqb b 23) (among b (18 ∷ [])) p.1 in
      let r = neither (eqb b 18) (among b []) q.1 in
      rw (sym (frequency_row b h) ∙ e, p.0, q.0, r.0);
}
