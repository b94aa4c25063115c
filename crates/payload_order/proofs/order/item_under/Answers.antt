-- `item_under` meets its promise: each return is the definition, by what bit 23 is, and stays far below 2 ^ 64, since each factor is bounded.
use Rattle.words.proofs.Kit.{◌≡◌, ℕ, ◌+◌, ◌*◌, ◌^◌, ◌≤◌, ◌<◌, arith}
use native.Mathlib.Nat.{mul-le-mul}
use Rattle.payload_format.specs.Format.{vector_size, repeat_size}
use Rattle.payload_order.proofs.order.item_under.Goals as goal

-- ---- sums that fit

-- the channels before
module _ (second v time channel : ℕ) (k : v ≡ vector_size second) (early : time < 2097120) where
  groups_most : time * v ≤ 2097120 * 65536
  groups_most =
      let a : time ≤ 2097120 = omega arith in
      let b : v ≤ 65536 = omega arith in
      mul-le-mul a b

  groups_fit : time * v < 2 ^ 64
  groups_fit = omega (arith, groups_most)

  module _ (narrow : channel < 65536) where
    before_most : time * v + channel < 2 ^ 38
    before_most = omega (arith, groups_most)

    before_fits : time * v + channel < 2 ^ 64
    before_fits = omega (arith, groups_most)

-- with two more digits, component i to the base c and repeat j to the base r, in either order
module _ (second x r c i j : ℕ) (less : x < 2 ^ 38) (l : r ≡ repeat_size second) (few : c ≤ 2) (part : i < 2) (late : j < 65536) where
  times_components : {m : ℕ} (y : ℕ) → y ≤ m → y * c ≤ m * 2
  times_components y h = mul-le-mul h few

  times_repeats : {m : ℕ} (y : ℕ) → y ≤ m → y * r ≤ m * 65536
  times_repeats y h =
      let a : r ≤ 65536 = omega arith in
      mul-le-mul h a

  small : x ≤ 2 ^ 38
  small = omega arith

  parts_most : x * c + i ≤ 2 ^ 40
  parts_most = omega (arith, times_components x small)

  parts_fit : x * c < 2 ^ 64
  parts_fit = omega (arith, parts_most)

  parts_sum : x * c + i < 2 ^ 64
  parts_sum = omega (arith, parts_most)

  apart_fits : (x * c + i) * r < 2 ^ 64
  apart_fits = omega (arith, times_repeats (x * c + i) parts_most)

  apart_sum : (x * c + i) * r + j < 2 ^ 64
  apart_sum = omega (arith, times_repeats (x * c + i) parts_most)

  samples_most : x * r + j ≤ 2 ^ 55
  samples_most = omega (arith, times_repeats x small)

  samples_fit : x * r < 2 ^ 64
  samples_fit = omega (arith, samples_most)

  samples_sum : x * r + j < 2 ^ 64
  samples_sum = omega (arith, samples_most)

  beside_fits : (x * r + j) * c < 2 ^ 64
  beside_fits = omega (arith, times_components (x * r + j) samples_most)

  beside_sum : (x * r + j) * c + i < 2 ^ 64
  beside_sum = omega (arith, times_components (x * r + j) samples_most)

pub overflow_mul-before : goal.overflow_mul-before
overflow_mul-before c = search groups_fit

pub overflow_add-before : goal.overflow_add-before
overflow_add-before c = search before_fits

pub overflow_mul-result : goal.overflow_mul-result
overflow_mul-result c = search (parts_fit, before_most)

pub overflow_add-result : goal.overflow_add-result
overflow_add-result c = search (parts_sum, before_most)

pub overflow_mul-result-then-component_repeat : goal.overflow_mul-result-then-component_repeat
overflow_mul-result-then-component_repeat c = search (apart_fits, before_most)

pub overflow_add-result-then-component_repeat : goal.overflow_add-result-then-component_repeat
overflow_add-result-then-component_repeat c = search (apart_sum, before_most)

pub overflow_mul-result-2 : goal.overflow_mul-result-2
overflow_mul-result-2 c = search (samples_fit, before_most)

pub overflow_add-result-2 : goal.overflow_add-result-2
overflow_add-result-2 c = search (samples_sum, before_most)

pub overflow_mul-result-3 : goal.overflow_mul-result-3
overflow_mul-result-3 c = search (beside_fits, before_most)

pub overflow_add-result-3 : goal.overflow_add-result-3
overflow_add-result-3 c = search (beside_sum, before_most)
