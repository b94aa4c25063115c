-- The place of a refusal lies inside the packet. The idea: a refusal is given after the tests before it were passed (`row_given`); so the packet fits the
-- words, and the part of which the refusal speaks is there: a class whose bits are not zero, a fraction that is too large, the indicator of type 4, or a broken
-- field of a body that has the words which its fields need.
use Rattle.words.proofs.Kit.{◌≡◌, refl, sym, ap, ◌∙◌, Bool, true, false, not, ⊎_elim, List, ℕ, ◌+◌, ◌^◌, ◌≤◌, ◌<◌, arith, eqb-true, ne_eqb}
use Rattle.words.proofs.Kit.{not-false, ltb-false, eqb, leb, length, get_or}
use native.Mathlib.Nat.{le_refl, mod-lt}
use lib.Pow.{pow_pos}
use Rattle.words.specs.declared.Where.{Where}
use Rattle.words.specs.declared.Where.TheVariants.{Nowhere, Word, Field}
use Rattle.words.specs.Numbers.{EMPTY, TYPE, BITS, SHORT, CUT, CLASS, TIME, INDICATOR, LAYOUT, FIELD, STREAM, TABLE, PAD}
use Rattle.words.specs.Tests.{pick, when, both}
use Rattle.words.specs.Word.{bits}
use Rattle.words.specs.Outcome.{refused, accepted}
use Rattle.words.specs.Told.{place_word, place_bit, place_further}
use Rattle.words.proofs.Cases.{true_or_false, true_is_false, both_left, both_right, both_no}
use Rattle.words.proofs.RefusalLaws.{◌else◌, row_given}
use Rattle.words.proofs.PartLaws.{part_length}
use Rattle.fields.specs.Layout.{body_words, low_bits_set, other_length, rule_broken}
use Rattle.fields.specs.Broken.{broken_of}
use Rattle.fields.proofs.BrokenLaws.{broken_some, broken_inside, broken_bit}
use Rattle.packet.specs.declared.Packet.{Packet}
use Rattle.packet.specs.Header.{type_of, classed, tsf_of, size_of}
use Rattle.packet.specs.Parts.{streamed, has_fraction, class_at, fraction_at, body_at, body_length, required_of, word_if, class_high, fraction_of, body_of}
use Rattle.packet.specs.Read.{time_over, class_bad, governed, list_by, read_by}
use Rattle.packet.specs.Told.{of_header, where_of}
use Rattle.packet.specs.inner.Steps.{FieldFits, Placeable}
use Rattle.packet.proofs.RoomLaws.{Room, room, when_inside}
use Rattle.packet.proofs.ReadLaws.{sized, read_accepts}

-- of any other the place lies inside the packet, and the packet inside the words
abbrev pub Inside : List ℕ → ℕ → Type 0
Inside ws n = of_header n ≡ false → (place_word (where_of ws n) < size_of (get_or ws 0 0)) × (size_of (get_or ws 0 0) ≤ length ws)

-- a place is told with a number: a field's with FIELD, and else a word's
abbrev pub PlaceTold : ℕ → Where → Type 0
PlaceTold n place = place ≡ pick (eqb n FIELD) (Field (place_word place) (place_bit place)) (Word (place_word place))

-- ---- what is refused is there

class_there : (free : Bool) (w : ℕ) (ws : List ℕ) → class_bad free (class_high w ws) ≡ true → classed w ≡ true
unfolding class_bad class_high word_if
class_there free w ws e = present (classed w) e
  where
    present : (t : Bool) → both (not free) (not (eqb (bits 31 24 (when t (get_or ws (class_at w) 0))) 0)) ≡ true → t ≡ true
    present true f = refl
    present false f = sym (both_no (not free)) ∙ f

time_there : (w fraction : ℕ) → time_over (tsf_of w) fraction ≡ true → has_fraction w ≡ true
unfolding time_over has_fraction
time_there w fraction e = rw (eqb-true (tsf_of w) 2 (both_left (eqb (tsf_of w) 2) (leb (10 ^ 12) fraction) e))

module _ (ws : List ℕ) where
  abbrev header : ℕ
  header = get_or ws 0 0

  abbrev size : ℕ
  size = size_of (get_or ws 0 0)

  abbrev body : List ℕ
  body = body_of (get_or ws 0 0) ws

  -- ---- each place, of a packet that fits the words

  module _ (h : required_of (get_or ws 0 0) ≤ size_of (get_or ws 0 0)) (g : size_of (get_or ws 0 0) ≤ length ws) where
    lies : Room header size
    lies = room header size h (le_refl size)

    class_inside : classed header ≡ true → place_word (where_of ws CLASS) < size
    unfolding where_of
    class_inside c = omega (arith, when_inside (classed header) (class_at header) 2 size lies.class c)

    time_inside : has_fraction header ≡ true → place_word (where_of ws TIME) < size
    unfolding where_of
    time_inside f = omega (arith, when_inside (has_fraction header) (fraction_at header) 2 size lies.fraction f)

    pad_inside : place_word (where_of ws PAD) < size
    unfolding where_of
    pad_inside =
        ⊎_elim (λ (c : classed header ≡ true). rw c (omega (arith, when_inside (classed header) (class_at header) 2 size lies.class c)))
        (λ (c : classed header ≡ false). rw c lies.header) (true_or_false (classed header))

    module _ (four : eqb (type_of (get_or ws 0 0)) 4 ≡ true) where
      body_there : body_at header < size
      unfolding required_of
      body_there = let f : body_at header + _ + when (eqb (type_of header) 4) 1 ≤ size = h in let k = rw four at f in omega (arith, k)

      indicator_inside : place_word (where_of ws INDICATOR) < size
      unfolding where_of
      indicator_inside = body_there

      layout_inside : place_word (where_of ws LAYOUT) < size
      unfolding where_of
      layout_inside = body_there

    -- the body has the words which its fields need, and one of them is broken
    body_length_lem : length body ≡ body_length header
    unfolding body_of
    body_length_lem = part_length (body_at header) (body_length header) ws (omega (arith, lies.body))

    field_inside : other_length (body_of (get_or ws 0 0) ws) ≡ false → rule_broken (body_of (get_or ws 0 0) ws) ≡ true → place_word (where_of ws FIELD) < size
    unfolding where_of other_length
    field_inside l b =
        let k = broken_some body b in
        let whole : body_words body ≡ length body = eqb-true (body_words body) (length body) (not-false _ l) in
        rw k.2 (omega (arith, broken_inside body k.0 k.1 k.2 whole, body_length_lem, lies.body))

  -- ---- a refusal of reading, by its number: what holds of each where its test does, and the tests before it were passed

  abbrev Fits : Type 0
  Fits = (required_of (get_or ws 0 0) ≤ size_of (get_or ws 0 0)) × (size_of (get_or ws 0 0) ≤ length ws)

  abbrev Four : Type 0
  Four = eqb (type_of (get_or ws 0 0)) 4 ≡ true

  record Numbered (P : ℕ → Type 0) : Type 0 where
    front : (n : ℕ) → of_header n ≡ true → P n
    class : Fits → classed (get_or ws 0 0) ≡ true → P CLASS
    time : Fits → has_fraction (get_or ws 0 0) ≡ true → P TIME
    indicator : Fits → Four → P INDICATOR
    layout : Fits → Four → P LAYOUT
    field : Fits → other_length (body_of (get_or ws 0 0) ws) ≡ false → rule_broken (body_of (get_or ws 0 0) ws) ≡ true → P FIELD
    pad : Fits → P PAD

  module _ (survey : Bool) (n : ℕ) (e : read_by survey ws ≡ refused n) where
    numbered : (P : ℕ → Type 0) → Numbered P → P n
    unfolding read_by
    numbered P k =
        let free : Bool = governed survey header in
        let kind : Bool = eqb (type_of header) 4 in
        row_given P (list_by survey header ws) _ n
        ((λ _. k.front EMPTY refl) else λ _. (λ _. k.front TYPE refl) else λ _. (λ _. k.front BITS refl) else λ _. (λ _. k.front SHORT refl) else λ s.
        (λ _. k.front CUT refl) else λ c. let h : Fits = (ltb-false _ _ s, ltb-false _ _ c) in
        (λ t. k.class h (class_there free header ws t)) else λ _. (λ t. k.time h (time_there header (fraction_of header ws) t)) else λ _.
        (λ t. k.indicator h (both_left kind (low_bits_set body) t)) else λ _. (λ t. k.layout h (both_left kind (other_length body) t)) else λ l.
        (λ t. k.field h (rw (both_left kind (rule_broken body) t) at l) (both_right kind (rule_broken body) t)) else λ _. (λ _. k.pad h) else λ _. tt)
        e

    -- the place lies inside
    pub place_inside : Inside ws n
    place_inside = numbered (Inside ws) (record {
      front = λ m t f. absurd (true_is_false (sym t ∙ f));
      class = λ h c _. (class_inside h.0 h.1 c, h.1);
      time = λ h f _. (time_inside h.0 h.1 f, h.1);
      indicator = λ h f _. (indicator_inside h.0 h.1 f, h.1);
      layout = λ h f _. (layout_inside h.0 h.1 f, h.1);
      field = λ h l b _. (field_inside h.0 h.1 l b, h.1);
      pad = λ h _. (pad_inside h.0 h.1, h.1);
    })

    -- and so it has sixteen bits
    pub place_small : place_word (where_of ws n) < 2 ^ 16
    unfolding where_of
    place_small =
        ⊎_elim (λ (t : of_header n ≡ true). rw t (omega arith)) (λ (f : of_header n ≡ false). omega (arith, (place_inside f).0, mod-lt header (pow_pos 16)))
        (true_or_false (of_header n))

    -- FIELD is of a packet whose header and size are right
    pub placeable : Placeable n ws
    placeable = record {
      field = numbered (λ m. FieldFits m ws) (record {
        front = λ m t i. absurd (true_is_false (sym t ∙ ap of_header i));
        class = λ h _ _. h;
        time = λ h _ _. h;
        indicator = λ h _ _. h;
        layout = λ h _ _. h;
        field = λ h _ _ _. h;
        pad = λ h _. h;
      });
      small = omega (arith, place_small);
    }

    -- FIELD is of a body in which a rule is broken
    pub field_broken : n ≡ FIELD → rule_broken (body_of (get_or ws 0 0) ws) ≡ true
    field_broken = numbered (λ m. m ≡ FIELD → rule_broken (body_of (get_or ws 0 0) ws) ≡ true) (record {
      front = λ m t i. absurd (true_is_false (sym t ∙ ap of_header i));
      class = λ h c i. absurd (omega (arith, i));
      time = λ h f i. absurd (omega (arith, i));
      indicator = λ h f i. absurd (omega (arith, i));
      layout = λ h f i. absurd (omega (arith, i));
      field = λ h l b i. b;
      pad = λ h i. absurd (omega (arith, i));
    })

    -- a place is told
    pub place_told : PlaceTold n (where_of ws n)
    unfolding where_of
    place_told = numbered (λ m. PlaceTold m (where_of ws m)) (record {
      front = λ m t. rw (t, ne_eqb m FIELD (λ i. true_is_false (sym t ∙ ap of_header i)));
      class = λ h c. refl;
      time = λ h f. refl;
      indicator = λ h f. refl;
      layout = λ h f. refl;
      field = λ h l b. rw (broken_some body b).2;
      pad = λ h. refl;
    })

  -- ---- STREAM's, and the bit of any

  pub stream_place : where_of ws STREAM ≡ Word (when (streamed (get_or ws 0 0)) 1)
  unfolding where_of
  stream_place = refl

  pub stream_told : PlaceTold STREAM (where_of ws STREAM)
  unfolding where_of
  stream_told = refl

  -- of a packet that was read it lies inside too
  pub stream_inside : (survey : Bool) (p : Packet) → read_by survey ws ≡ accepted p
      → (place_word (where_of ws STREAM) < size_of (get_or ws 0 0)) × (size_of (get_or ws 0 0) ≤ length ws)
  stream_inside survey p e =
      let fits = sized header (length ws) (read_accepts survey ws p e).passes.size in
      (rw stream_place (omega (arith, (lies fits.0 fits.1).identifier)), fits.1)

  pub table_place : where_of ws TABLE ≡ Nowhere
  unfolding where_of
  table_place = refl

  pub bit_small : (n : ℕ) → place_bit (where_of ws n) ≤ 30
  unfolding where_of
  bit_small n =
      word_or (of_header n) 0 _ (word_or (eqb n CLASS) _ _ (word_or (eqb n TIME) _ _ (word_or (eqb n INDICATOR) _ _ (word_or (eqb n LAYOUT) _ _
      (field_or (eqb n FIELD) (broken_of body) _ refl (word_or (eqb n PAD) _ _ (word_or (eqb n STREAM) _ Nowhere (omega arith))))))))
    where
      word_or : (t : Bool) (at : ℕ) (place : Where) → place_bit place ≤ 30 → place_bit (pick t (Word at) place) ≤ 30
      word_or true at place h = omega arith
      word_or false at place h = h

      field_or : (t : Bool) (broken place : Where) → broken_of body ≡ broken → place_bit place ≤ 30
          → place_bit (pick t (place_further (body_at header) broken) place) ≤ 30
      field_or true Nowhere place e h = omega arith
      field_or true (Word at) place e h = omega arith
      field_or true (Field at bit) place e h = (broken_bit body at bit e).1
      field_or false broken place e h = h
