-- The answers of the two calls, by what `items_check` found of the format and n; what is let through is small enough for the sums of the code.
use Rattle.words.proofs.Kit.{◌≡◌, refl, sym, ◌∙◌, Bool, true, false, [], ◌∷◌, ℕ, ◌/◌, ◌≤◌, ◌<◌, arith, eqb, leb, le-leb, lt-leb}
use native.Mathlib.Nat.{div-le_self}
use borrow.Author.Tests.{leb-false}
use Rattle.words.specs.Tests.{pick}
use Rattle.words.specs.Outcome.{Outcome, refused, accepted, after}
use Rattle.words.specs.Refusals.{first_given}
use Rattle.words.specs.Numbers.{FORMAT, COUNT, VALUE}
use Rattle.words.proofs.RefusalLaws.{after_first, either_passed}
use Rattle.fields.specs.Format.{real_complex}
use Rattle.payload_format.specs.Format.{vector_size, component_count, format_bad}
use Rattle.payload_format.specs.Count.{group_of, count_bad, needed_list}
use Rattle.payload_format.specs.inner.Checked.{items_check}
use Rattle.payload_format.proofs.FormatLaws.{items_few}
use Rattle.payload_order.specs.declared.Coordinates.{Coordinates}
use Rattle.payload_order.specs.Numbering.{coordinates_under, item_under, coordinates_of, InBox, outside, item_of}

-- ---- the box

-- a sample has one component or two
pub components_few : (first : ℕ) → (0 < component_count first) × (component_count first ≤ 2)
unfolding component_count
components_few first = by_kind (eqb (real_complex first) 0)
  where
    by_kind : (t : Bool) → (0 < pick t 1 2) × (pick t 1 2 ≤ 2)
    by_kind true = (omega arith, omega arith)
    by_kind false = (omega arith, omega arith)

-- coordinates that are not outside are inside, and the other way
pub in_box : (first second n : ℕ) (at : Coordinates) → outside first second n at ≡ false → InBox first second n at
unfolding outside
in_box first second n at e =
    let time = either_passed (leb (n / group_of first second) at.time) _ e in
    let channel = either_passed (leb (vector_size second) at.channel) _ time.1 in
    let component = either_passed (leb (component_count first) at.component) _ channel.1 in
    record {
      time = leb-false _ at.time time.0;
      channel = leb-false _ at.channel channel.0;
      component = leb-false _ at.component component.0;
      repeat = leb-false _ at.repeat component.1;
    }

pub not_outside : (first second n : ℕ) (at : Coordinates) → InBox first second n at → outside first second n at ≡ false
unfolding outside
not_outside first second n at p =
    rw (lt-leb _ at.time p.time, lt-leb _ at.channel p.channel, lt-leb _ at.component p.component, lt-leb _ at.repeat p.repeat) refl

-- ---- the answers
module _ (first second n : ℕ) where
  -- both lists: FORMAT and COUNT of n, which `items_check` asks, and then VALUE
  asked_first : {A : Type 0} (t : Bool) (answer : Outcome A)
      → first_given ((FORMAT, format_bad first) ∷ (COUNT, count_bad first second n) ∷ (VALUE, t) ∷ []) answer
      ≡ after (items_check first second n) (pick t (refused VALUE) answer)
  unfolding items_check
  asked_first t answer = sym (after_first (needed_list first second n) tt (pick t (refused VALUE) answer))

  -- ---- from an item
  module _ (item : ℕ) where
    pub coordinates_asked : (k : ℕ) → refused k ≡ items_check first second n → refused k ≡ coordinates_of first second n item
    unfolding coordinates_of
    coordinates_asked k r = rw (asked_first (leb n item), ← r)

    module _ (fine : accepted tt ≡ items_check first second n) where
      pub no_item : n ≤ item → refused VALUE ≡ coordinates_of first second n item
      unfolding coordinates_of
      no_item h = rw (asked_first (leb n item), ← fine, le-leb n item h)

      pub coordinates_found : item < n → (at : Coordinates) → at ≡ coordinates_under first second item → accepted at ≡ coordinates_of first second n item
      unfolding coordinates_of
      coordinates_found h at is = rw (asked_first (leb n item), ← fine, lt-leb n item h, is)

  -- ---- and back
  module _ (at : Coordinates) where
    pub item_asked : (k : ℕ) → refused k ≡ items_check first second n → refused k ≡ item_of first second n at
    unfolding item_of
    item_asked k r = rw (asked_first (outside first second n at), ← r)

    module _ (fine : accepted tt ≡ items_check first second n) (out : Bool) (o : out ≡ outside first second n at) where
      pub none_there : out ≡ true → refused VALUE ≡ item_of first second n at
      unfolding item_of
      none_there h = rw (asked_first (outside first second n at), ← fine, ← o, h)

      module _ (h : out ≡ false) where
        box : InBox first second n at
        box = in_box first second n at (sym o ∙ h)

        pub time_small : at.time < 2097120
        time_small = omega (arith, box.time, div-le_self n (group_of first second), items_few first second n fine)

        pub channel_small : at.channel < 65536
        channel_small = omega (arith, box.channel)

        pub component_small : at.component < 2
        component_small = omega (arith, box.component, (components_few first).1)

        pub repeat_small : at.repeat < 65536
        repeat_small = omega (arith, box.repeat)

        pub item_found : (item : ℕ) → item ≡ item_under first second at → accepted item ≡ item_of first second n at
        unfolding item_of
        item_found item is = rw (asked_first (outside first second n at), ← fine, ← o, h, is)

-- for `coordinates_of`, and for `item_at`
pub ruleset from_item = (coordinates_asked, no_item, coordinates_found)

pub ruleset back = (item_asked, none_there, time_small, channel_small, component_small, repeat_small, item_found)
