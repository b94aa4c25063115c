-- Items and coordinates, over both orders and any sizes. The idea: an item is a number of four digits, of which time is the first and channel the second; the
-- two orders differ in which of component and repeat is the last. So all is proved of four digits to any bases (`Digits`), and each order is an instance.
use Rattle.words.proofs.Kit.{◌≡◌, sym, ap, ◌∙◌, subst, Bool, true, false, ⊎_elim, ℕ, ◌+◌, ◌*◌, ◌/◌, ◌%◌, ◌≤◌, ◌<◌, arith}
use native.Mathlib.Nat.{mul_assoc, mul_right_comm, mod-lt, div-add-mod', div-lt_iff_lt-mul, mul-le-mul_right, mul-lt-mul_of_pos_right, lt_of_lt_of_le}
use lib.Arith.{digits_lt, digits_div, digits_mod}
use Rattle.words.proofs.Cases.{le_or_lt}
use Rattle.payload_order.specs.declared.Coordinates.{Coordinates}
use Rattle.payload_order.specs.Order.{item_number, item_coordinates, Inside, instant}

-- ---- a number by four digits t, h, i, j, of which the last three are below v, a, b
module _ (v a b : ℕ) where
  abbrev joined : (t h i j : ℕ) → ℕ
  joined t h i j = ((t * v + h) * a + i) * b + j

  -- the numbers below t of the first digit
  below_first : (t : ℕ) → t * v * a * b ≡ t * (v * a * b)
  below_first t = ap (λ (x : ℕ). x * b) (mul_assoc t v a) ∙ mul_assoc t (v * a) b

  -- its digits come out again
  record Digits (n t h i j : ℕ) : Type 0 where
    first : n / b / a / v ≡ t
    second : n / b / a % v ≡ h
    third : n / b % a ≡ i
    last : n % b ≡ j

  module _ (t h i j : ℕ) (x : h < v) (y : i < a) (z : j < b) where
    digits : Digits (joined t h i j) t h i j
    digits =
        let rest : joined t h i j / b ≡ (t * v + h) * a + i = digits_div ((t * v + h) * a + i) z in
        let front : joined t h i j / b / a ≡ t * v + h = ap (λ (n : ℕ). n / a) rest ∙ digits_div (t * v + h) y in
        record {
          first = ap (λ (n : ℕ). n / v) front ∙ digits_div t x;
          second = ap (λ (n : ℕ). n % v) front ∙ digits_mod t x;
          third = ap (λ (n : ℕ). n % a) rest ∙ digits_mod (t * v + h) y;
          last = digits_mod ((t * v + h) * a + i) z;
        }

    joined_below : (s : ℕ) → t < s → joined t h i j < s * (v * a * b)
    joined_below s l = subst (λ (n : ℕ). joined t h i j < n) (below_first s) (digits_lt (digits_lt (digits_lt l x) y) z)

    joined_above : t * (v * a * b) ≤ joined t h i j
    joined_above =
        let l : t * v ≤ t * v + h = omega arith in
        let m : t * v * a ≤ (t * v + h) * a + i = omega (arith, mul-le-mul_right a l) in
        omega (arith, mul-le-mul_right b m, below_first t)

  joined_again : (n : ℕ) → joined (n / b / a / v) (n / b / a % v) (n / b % a) (n % b) ≡ n
  joined_again n = rw (div-add-mod' (n / b / a) v, div-add-mod' (n / b) a) (div-add-mod' n b)

  first_below : (n s : ℕ) → 0 < v → 0 < a → 0 < b → n < s * (v * a * b) → n / b / a / v < s
  first_below n s some-v some-a some-b l =
      let m : n < s * v * a * b = subst (λ (x : ℕ). n < x) (sym (below_first s)) l in
      (div-lt_iff_lt-mul some-v).1 ((div-lt_iff_lt-mul some-a).1 ((div-lt_iff_lt-mul some-b).1 m))

-- ---- both orders: the last two digits are component and repeat, to the bases c and r, or repeat and component
module _ (v r c : ℕ) where
  -- a group has as many items
  group_same : (t : ℕ) → t * (v * c * r) ≡ t * (v * r * c)
  group_same t = ap (λ (x : ℕ). t * x) (mul_right_comm v c r)

  module _ {groups : ℕ} (at : Coordinates) (inside : Inside groups v r c at) where
    digits_apart : Digits v c r (item_number true v r c at) at.time at.channel at.component at.repeat
    unfolding item_number
    digits_apart = digits v c r at.time at.channel at.component at.repeat inside.channel inside.component inside.repeat

    digits_beside : Digits v r c (item_number false v r c at) at.time at.channel at.repeat at.component
    unfolding item_number
    digits_beside = digits v r c at.time at.channel at.repeat at.component inside.channel inside.repeat inside.component

    -- one-to-one: the coordinates of the item of coordinates are these
    pub item_coordinates_lem : (apart : Bool) → item_coordinates apart v r c (item_number apart v r c at) ≡ at
    unfolding item_coordinates
    item_coordinates_lem true = let d = digits_apart in rw (d.first, d.second, d.third, d.last)
    item_coordinates_lem false = let d = digits_beside in rw (d.first, d.second, d.third, d.last)

    -- the first groups have the first items
    pub item_below : (apart : Bool) (t : ℕ) → at.time < t → item_number apart v r c at < t * (v * r * c)
    unfolding item_number
    item_below true t l = rw (← group_same t) (joined_below v c r _ _ _ _ inside.channel inside.component inside.repeat t l)
    item_below false t l = joined_below v r c _ _ _ _ inside.channel inside.repeat inside.component t l

    groups_before : (apart : Bool) → at.time * (v * r * c) ≤ item_number apart v r c at
    unfolding item_number
    groups_before true = rw (← group_same at.time) (joined_above v c r _ _ _ _ inside.channel inside.component inside.repeat)
    groups_before false = joined_above v r c _ _ _ _ inside.channel inside.repeat inside.component

    -- and no others
    pub below_item : (apart : Bool) (t : ℕ) → item_number apart v r c at < t * (v * r * c) → at.time < t
    below_item apart t l =
        ⊎_elim
        (λ (h : t ≤ at.time). absurd (omega (arith, mul-le-mul_right (v * r * c) h, groups_before apart)))
        (λ (h : at.time < t). h)
        (le_or_lt t at.time)

  -- onto: the item of the coordinates of an item is this one
  pub coordinates_item : (apart : Bool) (i : ℕ) → item_number apart v r c (item_coordinates apart v r c i) ≡ i
  unfolding item_number item_coordinates
  coordinates_item true i = joined_again v c r i
  coordinates_item false i = joined_again v r c i

  -- and these coordinates are in the box
  pub coordinates_inside : (apart : Bool) → 0 < v → 0 < r → 0 < c → (groups i : ℕ) → i < groups * (v * r * c)
      → Inside groups v r c (item_coordinates apart v r c i)
  unfolding item_coordinates
  coordinates_inside true some-v some-r some-c groups i h =
      record {
        time = first_below v c r i groups some-v some-c some-r (rw (group_same groups) h);
        channel = mod-lt (i / r / c) some-v;
        component = mod-lt (i / r) some-c;
        repeat = mod-lt i some-r;
      }
  coordinates_inside false some-v some-r some-c groups i h =
      record {
        time = first_below v r c i groups some-v some-r some-c h;
        channel = mod-lt (i / c / r) some-v;
        component = mod-lt i some-c;
        repeat = mod-lt (i / c) some-r;
      }

  -- ---- one order
  module _ {groups : ℕ} (at : Coordinates) (inside : Inside groups v r c at) where
    -- where nothing is repeated, and where samples have one component, they are the same
    pub same_once : r ≡ 1 → item_number true v r c at ≡ item_number false v r c at
    unfolding item_number
    same_once e =
        let z : at.repeat ≡ 0 = omega (arith, inside.repeat) in
        rw (e, z) (omega arith)

    pub same_real : c ≡ 1 → item_number true v r c at ≡ item_number false v r c at
    unfolding item_number
    same_real e =
        let z : at.component ≡ 0 = omega (arith, inside.component) in
        rw (e, z) (omega arith)

  -- ---- one channel and component in time
  module _ {groups others : ℕ} (a b : Coordinates) (in-a : Inside groups v r c a) (in_b : Inside others v r c b) (channel : a.channel ≡ b.channel)
      (component : a.component ≡ b.component) where
    -- in a group, a later sample stands behind
    same_group : (apart : Bool) → a.time ≡ b.time → a.repeat < b.repeat → item_number apart v r c a < item_number apart v r c b
    unfolding item_number
    same_group true e l = rw (e, channel, component) (omega arith)
    same_group false e l =
        let m : (b.time * v + b.channel) * r + a.repeat < (b.time * v + b.channel) * r + b.repeat = omega arith in
        let some : 0 < c = omega (arith, in_b.component) in
        rw (e, channel, component) (omega (arith, mul-lt-mul_of_pos_right m some))

    module _ (h : instant r a < instant r b) where
      not_later : a.time ≤ b.time
      not_later =
          ⊎_elim
          (λ (l : a.time ≤ b.time). l)
          (λ (l : b.time < a.time). absurd (omega (arith, digits_lt l in_b.repeat)))
          (le_or_lt a.time b.time)

      pub item_rises : (apart : Bool) → item_number apart v r c a < item_number apart v r c b
      item_rises apart =
          ⊎_elim
          (λ (l : b.time ≤ a.time).
          let e : a.time ≡ b.time = omega (arith, not_later) in
          let k = rw e at h in
          same_group apart e (omega arith))
          (λ (l : a.time < b.time). lt_of_lt_of_le (item_below a in-a apart b.time l) (groups_before b in_b apart))
          (le_or_lt b.time a.time)
