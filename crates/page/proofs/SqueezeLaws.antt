-- The held words of a record's slots, laid into a page. The idea: the held words of a part of the bits are those of its upper part and then those of its lower
-- one (`between_parts`). A loop goes along the bits of a part (`Along`), and the held words of those that it has passed are laid (`Squeezing`); a turn lays the
-- slot of its bit, or passes it over.
use Rattle.words.proofs.Kit.{◌≡◌, refl, sym, ap, ap₂, ◌∙◌, true, false, List, [], ◌∷◌, ◌++◌, ℕ, suc, ◌+◌, ◌-◌, ◌/◌, ◌%◌, ◌^◌, ◌≤◌, ◌<◌, arith, eq-eqb, ne_eqb}
use Rattle.words.proofs.Kit.{length}
use mathlib.Core.List.{append-nil}
use native.Mathlib.Nat.{add-zero}
use lib.Bits.{bit_and}
use lib.ListN.{length-append}
use Rattle.words.specs.Word.{has}
use Rattle.words.specs.Part.{part, put}
use Rattle.words.specs.SetBits.{bits_of, above}
use Rattle.words.specs.Laid.{Laid}
use Rattle.words.proofs.LaidLaws.{then, laid_length}
use Rattle.words.proofs.SetBitLaws.{bits_absent, bits_parts, above_none, above_parts, above_next}
use Rattle.fields.specs.Sizes.{field_size, sizes_of}
use Rattle.record.specs.Held.{slot_mask, slot_at, in_order}
use Rattle.record.specs.Layout.{slot_words, slot_in}
use Rattle.record.specs.After.{held_words}
use Rattle.record.proofs.SlotLaws.{in_order_none, in_order_more, in_order_append}
use Rattle.record.proofs.HoldLaws.{within_unset, slot_sized, Along, along_start, along_end, along_slotted, along_slot, along_next}
use Rattle.record.proofs.SqueezeLaws.{held_length}
use Rattle.page.specs.inner.Squeezed.{held_between}
use Rattle.page.proofs.WriteLaws.{laid_part}

-- ---- the held words of a part of the bits

module _ (held : ℕ) (slots : List ℕ) where
  abbrev words : List ℕ → List ℕ
  words bs = in_order bs (λ b. slot_in b slots)

  pub between_none : (first : ℕ) → held_between first first held slots ≡ []
  unfolding held_between
  between_none first = ap words (above_none first (suc first) held (omega arith)) ∙ in_order_none (λ b. slot_in b slots)

  pub between_parts : (first middle past : ℕ) → past ≤ middle → middle ≤ first
      → held_between first past held slots ≡ held_between first middle held slots ++ held_between middle past held slots
  unfolding held_between
  between_parts first middle past l m =
      ap words (above_parts (suc first) held past middle l (omega arith))
      ∙ in_order_append (above middle (bits_of (suc first) held)) (above past (bits_of (suc middle) held)) (λ b. slot_in b slots)

  -- of one bit: its slot, where it is held
  pub between_set : (b : ℕ) → has held (suc b) ≡ true → held_between (suc b) b held slots ≡ slot_in (suc b) slots
  unfolding held_between
  between_set b e =
      let one : above b (bits_of (suc (suc b)) held) ≡ suc b ∷ [] = above_next b held ∙ rw e in
      let f : ℕ → List ℕ = λ x. slot_in x slots in
      ap words one ∙ in_order_more (suc b) [] f ∙ ap (λ (l : List ℕ). f (suc b) ++ l) (in_order_none f) ∙ append-nil (f (suc b))

  pub between_unset : (b : ℕ) → has held (suc b) ≡ false → held_between (suc b) b held slots ≡ []
  unfolding held_between
  between_unset b e = ap words (above_next b held ∙ rw e) ∙ in_order_none (λ x. slot_in x slots)

  -- of all bits that have a slot: no other is held
  pub between_all : bit_and held slot_mask ≡ held → held_between 30 9 held slots ≡ held_words held slots
  unfolding held_between held_words
  between_all w =
      let none : bits_of 10 held ≡ [] = bits_absent 10 held (within_unset held w) in
      ap words (sym (bits_parts 31 held 9 (omega arith) ∙ ap (λ (l : List ℕ). above 9 (bits_of 31 held) ++ l) none ∙ append-nil (above 9 (bits_of 31 held))))

  -- all held words, in three parts
  module _ (w : bit_and held slot_mask ≡ held) (x y : ℕ) (l : 9 ≤ y) (m : y ≤ x) (h : x ≤ 30) where
    pub held_parts : held_between 30 x held slots ++ (held_between x y held slots ++ held_between y 9 held slots) ≡ held_words held slots
    held_parts =
        ap (λ (z : List ℕ). held_between 30 x held slots ++ z) (sym (between_parts x y 9 l m))
        ∙ sym (between_parts 30 x 9 (omega arith) h) ∙ between_all w

    pub held_parts_length : length slots ≡ slot_words
        → length (held_between 30 x held slots) + (length (held_between x y held slots) + length (held_between y 9 held slots)) ≡ sizes_of (bits_of 31 held)
    held_parts_length s =
        ap (λ (n : ℕ). length (held_between 30 x held slots) + n) (sym (length-append (held_between x y held slots) _))
        ∙ sym (length-append (held_between 30 x held slots) _) ∙ ap length held_parts ∙ held_length held w slots s

-- ---- the loop that lays a part: its head, start, turn and end

-- the bits above `bit` are passed, and their held words laid, up to the place `to`
pub record Squeezing (first past held at : ℕ) (slots before page : List ℕ) (bit slot to : ℕ) : Type 0 where
  pub along : Along first past bit slot
  pub sized : length slots ≡ slot_words
  pub laid : Laid before at (held_between first bit held slots) to page

pub squeezing_start : (first past held at slot : ℕ) (slots page : List ℕ) → length slots ≡ slot_words → 9 ≤ past → past ≤ first → first ≤ 30
    → slot ≡ slot_at first → Squeezing first past held at slots page page first slot at
squeezing_start first past held at slot slots page s l m h e = record {
  along = along_start first past slot l m h e;
  sized = s;
  laid = rw (between_none held slots first) (record { past = sym (add-zero at); kept = refl });
}

-- a turn: n is the size of this bit's field
module _ {first past held at bit slot to : ℕ} {slots before page : List ℕ} (p : Squeezing first past held at slots before page bit slot to)
    (more : past < bit) (n : ℕ) (en : n ≡ field_size bit) where
  pub squeezing_slot : slot + n ≤ length slots
  squeezing_slot = omega (arith, p.sized, along_slot p.along more n en)

  one_down : suc (bit - 1) ≡ bit
  one_down = omega arith

  next : held_between first (bit - 1) held slots ≡ held_between first bit held slots ++ held_between bit (bit - 1) held slots
  next = between_parts held slots first bit (bit - 1) (omega arith) p.along.high

  -- this bit is set
  module _ (t : held / 2 ^ bit % 2 ≡ 1) where
    taken : held_between first (bit - 1) held slots ≡ held_between first bit held slots ++ slot_in bit slots
    taken =
        let this = rw one_down at (between_set held slots (bit - 1) (rw one_down (eq-eqb (held / 2 ^ bit % 2) 1 t))) in
        next ∙ ap (λ (l : List ℕ). held_between first bit held slots ++ l) this

    this_length : length (slot_in bit slots) ≡ n
    this_length = slot_sized bit slots p.sized (along_slotted p.along more) ∙ sym en

    module _ (h : at + length (held_between first past held slots) ≤ length before) where
      -- the held words up to this bit's, and these, are some of the part's
      pub squeezing_room : to + n ≤ length page
      squeezing_room =
          let upper = ap length taken ∙ length-append (held_between first bit held slots) (slot_in bit slots) in
          let whole =
          ap length (between_parts held slots first (bit - 1) past (omega arith) (omega (arith, p.along.high)))
          ∙ length-append (held_between first (bit - 1) held slots) (held_between (bit - 1) past held slots) in
          omega (arith, p.laid.past, laid_length p.laid, whole, upper, this_length)

      pub squeezing_fits : length before < 2 ^ 64 → to + n < 2 ^ 64
      squeezing_fits g = omega (arith, squeezing_room, laid_length p.laid)

      pub squeezing_taken : (to' : ℕ) (page' : List ℕ) → page' ≡ put to n (part slot n slots) page → to' ≡ to + n
          → Squeezing first past held at slots before page' (bit - 1) (slot + n) to'
      unfolding slot_in
      squeezing_taken to' page' q et =
          let w : page' ≡ put to n (slot_in bit slots) page = q ∙ ap₂ (λ (i m : ℕ). put to n (part i m slots) page) p.along.here en in
          record {
            along = along_next p.along more n en;
            sized = p.sized;
            laid = rw (et, taken) (then p.laid (laid_part page (slot_in bit slots) page' to n this_length squeezing_room w));
          }

  -- it is not
  pub squeezing_passed : (held / 2 ^ bit % 2 ≡ 1 → ⊥) → (to' : ℕ) (page' : List ℕ) → page' ≡ page → to' ≡ to
      → Squeezing first past held at slots before page' (bit - 1) (slot + n) to'
  squeezing_passed t to' page' e et =
      let this : held_between bit (bit - 1) held slots ≡ [] =
      rw one_down at (between_unset held slots (bit - 1) (rw one_down (ne_eqb (held / 2 ^ bit % 2) 1 t))) in
      rw (e, et) (record {
        along = along_next p.along more n en;
        sized = p.sized;
        laid = rw (next, this, append-nil (held_between first bit held slots)) p.laid;
      })

pub squeezing_end : {first past held at bit slot to : ℕ} {slots before page : List ℕ} → Squeezing first past held at slots before page bit slot to → bit ≤ past
    → Laid before at (held_between first past held slots) to page
squeezing_end p done = rw (along_end p.along done) at p.laid
