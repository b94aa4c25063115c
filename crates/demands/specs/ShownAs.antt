-- Document 01, 'Readings for the panel', sentence by sentence: what a reading shows of the field of a bit, by its words.
use Rattle.std.specs.Prelude.{◌≡◌, ℕ, ◌+◌, ◌*◌, ◌^◌, ◌<◌, true, false, not, List, [], ◌∷◌, get_or, ℤ, pos, nat_abs, ◌+ℤ◌, ◌*ℤ◌, Float}
use Rattle.std.specs.Int.Signed.{non_neg}
use Rattle.std.specs.Float.{binary32}
use Rattle.std.specs.Float.Ieee.{to_bits}
use Rattle.std.specs.Float.Ieee.Exact.{HasValue}
use Rattle.words.specs.Tests.{among}
use Rattle.words.specs.Word.{high_first}
use Rattle.words.specs.Signed.{twos_complement}
use Rattle.panel.specs.Pattern.{sign_field, exponent_field, fraction_field}
use Rattle.panel.specs.Values.{lower_half, upper_half}
use Rattle.panel.specs.Readings.{frequency, level, gain, temperature, other, shown_of}

-- "Frequencies (29 to 25, 21) are whole hertz rounded down, and 0 to 1,048,575 parts of 2^20": both together are z units of 2 ^ -20 hertz
pub record Hertz (z hertz : ℤ) (parts : ℕ) : Type 0 where
  pub sum : hertz *ℤ pos 1048576 +ℤ pos parts ≡ z
  pub few : parts < 1048576

-- "These three are f32 and exact: the promise fixes each f32 by its sign, exponent and fraction as whole numbers, zero being plus zero": x is z over 2 ^ k
pub record Exactly (x : Float) (z : ℤ) (k : ℕ) : Type 0 where
  pub value : HasValue x (not (non_neg z)) (nat_abs z) (2 ^ k)
  pub fields : to_bits binary32 x ≡ sign_field z * 2 ^ 31 + exponent_field k (nat_abs z) * 2 ^ 23 + fraction_field (nat_abs z)
  pub sizes : (exponent_field k (nat_abs z) < 2 ^ 8) × (fraction_field (nat_abs z) < 2 ^ 23)

-- the fields that show something
abbrev pub frequencies : List ℕ
frequencies = 29 ∷ 28 ∷ 27 ∷ 26 ∷ 25 ∷ 21 ∷ []

pub record ShownAs (ws : List ℕ) : Type 0 where
  pub hertz : (b : ℕ) → b < 31 → among b frequencies ≡ true
      → (whole : ℤ) × (parts : ℕ) × (shown_of b ws ≡ frequency whole parts)
      × Hertz (twos_complement 64 (high_first (get_or ws 0 0) (get_or ws 1 0))) whole parts
  -- "Level is the lower half, signed, over 128"
  pub levels : (x : Float) × (shown_of 24 ws ≡ level x) × Exactly x (lower_half (get_or ws 0 0)) 7
  -- "a gain reading shows both stages together (stage 1 the lower half, stage 2 the upper), each over 128"
  pub stages : (x y : Float) × (shown_of 23 ws ≡ gain x y) × Exactly x (lower_half (get_or ws 0 0)) 7 × Exactly y (upper_half (get_or ws 0 0)) 7
  -- "temperature over 64"
  pub degrees : (x : Float) × (shown_of 18 ws ≡ temperature x) × Exactly x (lower_half (get_or ws 0 0)) 6
  -- "other (held, nothing more said)"
  pub others : (b : ℕ) → b < 31 → among b frequencies ≡ false → among b (24 ∷ 23 ∷ 18 ∷ []) ≡ false → shown_of b ws ≡ other
