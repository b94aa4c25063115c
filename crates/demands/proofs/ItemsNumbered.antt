-- The items of a payload are numbered one-to-one and onto. The idea: the laws of `OrderLaws` hold over any sizes; the calls add that n items are whole groups,
-- so that an item below n has a time below the number of groups, and the other way.
use Rattle.words.proofs.Kit.{◌≡◌, refl, sym, ap, ◌∙◌, Bool, true, false, ⊎_elim, ℕ, ◌*◌, ◌/◌, ◌<◌, arith, lt-leb}
use mathlib.Core.Logic.{◌⊎◌}
use Rattle.words.specs.Outcome.{accepted}
use Rattle.words.proofs.Cases.{accepted_same}
use Rattle.words.proofs.RefusalLaws.{first_passed, first_same, none_given}
use Rattle.fields.specs.Format.{code_known, code_fits, format_ok}
use Rattle.payload_format.specs.Format.{component_repeat, vector_size, repeat_size, component_count, format_bad, wide_processing}
use Rattle.payload_format.specs.Count.{group_of, count_bad}
use Rattle.payload_format.proofs.FormatLaws.{count_groups, count_none, group_large}
use Rattle.payload_order.specs.declared.Coordinates.{Coordinates}
use Rattle.payload_order.specs.Order.{item_number, item_coordinates}
use Rattle.payload_order.specs.Numbering.{coordinates_under, item_under, coordinates_list, coordinates_of, outside, InBox, item_list, item_of}
use Rattle.payload_order.proofs.OrderLaws.{item_coordinates_lem, item_below, below_item, coordinates_item, coordinates_inside, item_rises, same_once, same_real}
use Rattle.payload_order.proofs.NumberingLaws.{components_few, in_box, not_outside}
use Rattle.demands.specs.Program.{ours}
use Rattle.demands.specs.Samples.{Hold}
use Rattle.demands.specs.ItemsNumbered.{OneToOneOnto, LegalItems, ItemsNumbered, cells, figures}
use Rattle.vrt49.proofs.CallLaws.{◌and◌}

-- ---- over the sizes
over_sizes : (apart : Bool) (v r c groups : ℕ) → 0 < v → 0 < r → 0 < c → OneToOneOnto apart v r c groups
over_sizes apart v r c groups some-v some-r some-c =
    record {
      inside = coordinates_inside v r c apart some-v some-r some-c groups;
      item_back = coordinates_item v r c apart;
      below = λ at inside. item_below v r c at inside apart groups inside.time;
      back = λ at inside. item_coordinates_lem v r c at inside apart;
      first_groups = λ at inside t. (item_below v r c at inside apart t, below_item v r c at inside apart t);
    }

-- ---- of the calls
module _ (first second n : ℕ) (legal : LegalItems first second n) where
  abbrev numbering : OneToOneOnto (component_repeat first) (vector_size second) (repeat_size second) (component_count first) (n / group_of first second)
  numbering = over_sizes _ _ _ _ _ (omega arith) (omega arith) (components_few first).0

  -- n items are those of whole groups
  whole : n / group_of first second * (vector_size second * repeat_size second * component_count first) ≡ n
  unfolding group_of
  whole = count_groups first second n legal.count

  coordinates_given : (item : ℕ) → item < n → coordinates_of first second n item ≡ accepted (coordinates_under first second item)
  unfolding coordinates_of
  coordinates_given item h = none_given (coordinates_list first second n item) _ (legal.format, (legal.count, (lt-leb n item h, tt)))

  item_given : (at : Coordinates) → InBox first second n at → item_of first second n at ≡ accepted (item_under first second at)
  unfolding item_of
  item_given at inside = none_given (item_list first second n at) _ (legal.format, (legal.count, (not_outside first second n at inside, tt)))

  in_groups : (item : ℕ) → item < n → InBox first second n (coordinates_under first second item)
  in_groups item h = numbering.inside item (rw whole h)

  below_n : (at : Coordinates) → InBox first second n at → item_under first second at < n
  below_n at inside = rw (whole) at (numbering.below at inside)

-- what an accepted item says of its coordinates
item_said : (first second n : ℕ) (at : Coordinates) (i : ℕ) → item_of first second n at ≡ accepted i
    → InBox first second n at × (item_under first second at ≡ i)
unfolding item_of
item_said first second n at i e =
    let p = first_passed (item_list first second n at) _ i e in
    (in_box first second n at p.0.1.1.0, accepted_same p.1)

-- ---- bit 23
module _ (first other second n : ℕ) (at : Coordinates) (format : format_bad first ≡ format_bad other)
    (components : component_count first ≡ component_count other)
  where
    same_group : group_of first second ≡ group_of other second
    unfolding group_of
    same_group = rw components

    same_count : count_bad first second n ≡ count_bad other second n
    unfolding count_bad
    same_count = rw same_group

    same_box : outside first second n at ≡ outside other second n at
    unfolding outside
    same_box = rw (same_group, components)

    -- bit 23 is one or the other in each of two formats
    either_order : (v r c : ℕ) (a b : Bool) → item_number true v r c at ≡ item_number false v r c at → item_number a v r c at ≡ item_number b v r c at
    either_order v r c true true e = refl
    either_order v r c true false e = e
    either_order v r c false true e = sym e
    either_order v r c false false e = refl

    same_item : (repeat_size second ≡ 1) ⊎ (component_count first ≡ 1) → InBox first second n at → item_under first second at ≡ item_under other second at
    same_item once inside =
        rw (← components)
        (either_order _ _ _ (component_repeat first) (component_repeat other)
        (⊎_elim
        (λ (r : repeat_size second ≡ 1). same_once _ _ _ at inside r)
        (λ (c : component_count first ≡ 1). same_real _ _ _ at inside c)
        once))

    same_orders : (repeat_size second ≡ 1) ⊎ (component_count first ≡ 1) → item_of first second n at ≡ item_of other second n at
    unfolding item_of
    same_orders once =
        rw (← format, ← same_count, ← same_box)
        (first_same (item_list first second n at) _ _ (λ passed. ap accepted (same_item once (in_box first second n at passed.1.1.0))))

pub numbered : ItemsNumbered ours
numbered = record {
  over_sizes = over_sizes;
  from_item = λ first second n item legal h.
      let at = coordinates_under first second item in
      let inside = in_groups first second n legal item h in (
        at,
        coordinates_given first second n legal item h,
        inside,
        item_given first second n legal at inside ∙ ap accepted ((numbering first second n legal).item_back item),
      );
  from_coordinates = λ first second n at legal inside.
      let item = item_under first second at in
      let h = below_n first second n legal at inside in (
        item,
        item_given first second n legal at inside,
        h,
        coordinates_given first second n legal item h ∙ ap accepted ((numbering first second n legal).back at inside),
      );
  rises = λ first second n a b i j e f channel component h.
      let x = item_said first second n a i e in
      let y = item_said first second n b j f in
      rw (← x.1, ← y.1) (item_rises _ _ _ a b x.0 y.0 channel component h (component_repeat first));
  same_orders = same_orders;
  large = group_large;
  none = count_none;
}

pub as_figures : Hold figures
unfolding figures cells coordinates_of format_bad wide_processing format_ok code_known code_fits count_bad group_of component_count item_coordinates
as_figures = refl and refl and tt
