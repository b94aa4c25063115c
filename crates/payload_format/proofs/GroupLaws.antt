-- A group of items, multiplied out in either order. The idea: a size is 1 to 2 ^ 16, and a sample has one component or two, so every product on the way is
-- above 0, and 64 bits hold it.
use Rattle.words.proofs.Kit.{◌≡◌, ℕ, ◌*◌, ◌^◌, ◌≤◌, ◌<◌, ◌%◌, true, not, eqb, le-ltb, lt-ltb, arith}
use native.Mathlib.Nat.{mul-le-mul, mul-pos, mul_right_comm}
use Rattle.payload_format.specs.Format.{vector_size, repeat_size, component_count}
use Rattle.payload_format.specs.Count.{group_of, count_bad}

-- ---- the factors
pub record Factor (x : ℕ) : Type 0 where
  some : 0 < x
  most : x ≤ 2 ^ 16

pub vector_factor : (second v : ℕ) → v ≡ vector_size second → Factor v
vector_factor second v e = record { some = omega arith; most = omega arith }

pub repeat_factor : (second r : ℕ) → r ≡ repeat_size second → Factor r
repeat_factor second r e = record { some = omega arith; most = omega arith }

pub component_factor : (c : ℕ) → 0 < c → c ≤ 2 → Factor c
component_factor c some few = record { some = some; most = omega arith }

-- for `search`, beside the laws of products
pub ruleset factors = (vector_factor, repeat_factor, component_factor)

-- ---- their products
module _ (x y : ℕ) (a : Factor x) (b : Factor y) where
  pub two_some : 0 < x * y
  two_some = mul-pos a.some b.some

  pub two_fit : x * y < 2 ^ 64
  two_fit = omega (arith, mul-le-mul a.most b.most)

  module _ (z : ℕ) (c : Factor z) where
    pub three_some : 0 < x * y * z
    three_some = mul-pos two_some c.some

    pub three_fit : x * y * z < 2 ^ 64
    three_fit = omega (arith, mul-le-mul (mul-le-mul a.most b.most) c.most)

-- ---- the group, with the components last or the repeat
module _ (first second v r c : ℕ) (a : v ≡ vector_size second) (b : r ≡ repeat_size second) (e : c ≡ component_count first) where
  pub group_made : v * r * c ≡ group_of first second
  unfolding group_of
  group_made = rw (a, b, e)

  pub group_turned : v * c * r ≡ group_of first second
  group_turned = rw (mul_right_comm v c r) group_made

  -- where nothing is repeated
  pub group_once : r ≡ 1 → v * c ≡ group_of first second
  group_once z =
      let h = rw z at group_turned in
      omega arith

pub ruleset products = (two_fit, three_fit, three_some, group_made)

-- ---- COUNT of n items, by either division
module _ (first second v r c : ℕ) (a : v ≡ vector_size second) (b : r ≡ repeat_size second) (e : c ≡ component_count first) (n : ℕ) where
  pub count_over : 2097120 < n → true ≡ count_bad first second n
  unfolding count_bad
  count_over h = rw (lt-ltb 2097120 n h)

  pub count_items : n ≤ 2097120 → not (eqb (n % (v * c * r)) 0) ≡ count_bad first second n
  unfolding count_bad
  count_items few = rw (group_turned first second v r c a b e, le-ltb 2097120 n few)

  pub count_once : n ≤ 2097120 → r ≡ 1 → not (eqb (n % (v * c)) 0) ≡ count_bad first second n
  unfolding count_bad
  count_once few z = rw (group_once first second v r c a b e z, le-ltb 2097120 n few)

pub ruleset count_laws = (two_some, two_fit, three_some, three_fit, count_over, count_once)
