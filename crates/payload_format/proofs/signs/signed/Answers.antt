-- `signed` meets its promise: the refusals are lines of the definition, and `sign_zero` and `sign_one` say the value by the sign bit.
use Rattle.words.proofs.Kit.{◌≡◌, ℕ, ◌+◌, ◌-◌, ◌^◌, ◌≤◌, ◌<◌, arith, lt-ltb, le-ltb, le-leb}
use Rattle.words.specs.Numbers.{FORMAT, VALUE}
use Rattle.words.specs.Outcome.{refused, accepted}
use Rattle.words.proofs.PowerLaws.{halves}
use lib.Pow.{pow_pos}
use mir.Syntax.{w64}
use mir.Val.{to_z}
use Rattle.payload_format.specs.Signs.{signed_of}
use Rattle.payload_format.proofs.SignLaws.{sign_zero, sign_one}
use Rattle.payload_format.proofs.signs.signed.Goals as goal

module _ (w x : ℕ) where
  width_none : w < 1 → refused FORMAT ≡ signed_of w x
  unfolding signed_of
  width_none h = rw (lt-ltb w 1 h)

  module _ (some : 1 ≤ w) where
    width_over : 64 < w → refused FORMAT ≡ signed_of w x
    unfolding signed_of
    width_over h = rw (le-ltb w 1 some, lt-ltb 64 w h)

    module _ (few : w ≤ 64) (half : ℕ) (e : half ≡ 2 ^ (w - 1)) where
      item_over : half - 1 + half < x → refused VALUE ≡ signed_of w x
      unfolding signed_of
      item_over h = rw (le-ltb w 1 some, le-ltb 64 w few, le-leb (2 ^ w) x (omega (arith, halves w some)))

      item_low : x < half → accepted (to_z w64 x) ≡ signed_of w x
      item_low h = sign_zero w x some few (omega arith)

      item_high : half ≤ x → x ≤ half - 1 + half → accepted (to_z w64 (2 ^ 64 - 1 - (half - 1 + half - x))) ≡ signed_of w x
      item_high h g = sign_one w x some few (omega arith) (omega (arith, halves w some, pow_pos (w - 1))) (half - 1 + half - x)
          (omega (arith, halves w some, pow_pos (w - 1)))

pub returns-then-width-lt1 : goal.returns-then-width-lt1
returns-then-width-lt1 c = search width_none

pub returns-then-width-gt64 : goal.returns-then-width-gt64
returns-then-width-gt64 c = search width_over

pub returns-then-most-item : goal.returns-then-most-item
returns-then-most-item c = search item_over

pub returns-then-item-half : goal.returns-then-item-half
returns-then-item-half c = search item_low

pub returns : goal.returns
returns c = search item_high
