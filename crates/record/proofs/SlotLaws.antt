-- Fields and their slots. The idea: `in_order` over the set bits of a number lays each bit's words after those of the bits above it; so the
-- words at a bit's place are its own (`in_order_at`), and words are what stands at the places of their bits (`in_order_parts`). Once over any bits: a
-- record's slots are the bits of `slot_mask`, a page's held words those of a held indicator.
use Rattle.words.proofs.Kit.{◌≡◌, refl, sym, ap, ◌∙◌, Bool, true, false, not, ⊎_elim, List, [], ◌∷◌, ◌++◌, ℕ, zero, suc, ◌+◌, ◌-◌, ◌*◌, ◌/◌, ◌%◌, ◌^◌, ◌≤◌, ◌<◌}
use Rattle.words.proofs.Kit.{arith, not-true, ne_eqb, le-ltb, eqb, ltb, length, drop}
use Rattle.std.proofs.Common.{append_assoc, lt_of_lt_of_le, add-one, length-append, length-drop, take-append-drop, pow_mono}
use Rattle.words.specs.Tests.{pick, both}
use Rattle.words.specs.Word.{has}
use Rattle.words.specs.SetBits.{bits_of, above}
use Rattle.words.specs.Part.{part}
use Rattle.words.specs.All.{all}
use Rattle.words.proofs.AllLaws.{all_at}
use Rattle.words.proofs.Cases.{le_or_lt, true_or_false, true_is_false, both_left, both_no, agreed}
use Rattle.words.proofs.PartLaws.{part_is, part_front, part_past, part_drop}
use Rattle.words.proofs.SetBitLaws.{has_above, bits_zero, bits_yes, bits_no, bits_parts, bits_above, above_none, above_kept, above_parts}
use Rattle.fields.specs.Sizes.{field_size, sizes_of}
use Rattle.fields.proofs.SizeLaws.{sizes_none, sizes_more, sizes_append}
use Rattle.fields.proofs.PlaceLaws.{cleared_small}
use Rattle.fields.proofs.WalkLaws.{none_left}
use Rattle.record.specs.Held.{slot_mask, slotted, slot_bits, slot_at, held_mask, holds, in_order}
use Rattle.record.specs.Layout.{slot_words}

-- ---- places

-- where the words of bit b begin among those of the set bits of n below k
abbrev pub placed : ℕ → ℕ → ℕ → ℕ
placed k n b = sizes_of (above b (bits_of k n))

pub placed_first : (k n : ℕ) → placed (suc k) n k ≡ 0
placed_first k n = ap sizes_of (above_none k (suc k) n (omega arith)) ∙ sizes_none

placed_yes : (k n b : ℕ) → has n k ≡ true → b < k → placed (suc k) n b ≡ field_size k + placed k n b
unfolding bits_of
placed_yes k n b e h = ap sizes_of (above_kept (has n k) b k (bits_of k n) h) ∙ rw e (sizes_more k (above b (bits_of k n)))

placed_no : (k n b : ℕ) → has n k ≡ false → placed (suc k) n b ≡ placed k n b
placed_no k n b e = ap (λ (l : List ℕ). sizes_of (above b l)) (bits_no k n e)

-- the words of the bits up to b stand after those above it
pub placed_rest : (k n b : ℕ) → b < k → sizes_of (bits_of k n) ≡ placed k n b + sizes_of (bits_of (suc b) n)
placed_rest k n b h = ap sizes_of (bits_parts k n b h) ∙ sizes_append (above b (bits_of k n)) (bits_of (suc b) n)

-- from the place of a higher bit x on, the words of the bits from x down to the one above b stand before those of b
pub placed_between : (k n b x : ℕ) → b ≤ x → x < k → placed k n b ≡ placed k n x + placed (suc x) n b
placed_between k n b x h g = ap sizes_of (above_parts k n b x h g) ∙ sizes_append (above x (bits_of k n)) (above b (bits_of (suc x) n))

-- those of the bits below b, after b's own
pub placed_split : (k n b : ℕ) → b < k → has n b ≡ true → sizes_of (bits_of k n) ≡ placed k n b + (field_size b + sizes_of (bits_of b n))
placed_split k n b h e =
    placed_rest k n b h ∙ ap (λ (m : ℕ). placed k n b + m) (ap sizes_of (bits_yes b n e) ∙ sizes_more b (bits_of b n))

-- a place that runs along: from a bit to the next below it, the words of the one that is passed are added, and nothing where it is not set
pub placed_past : (k n b : ℕ) → suc b < k → has n (suc b) ≡ true → placed k n b ≡ placed k n (suc b) + field_size (suc b)
placed_past k n b h e = omega (arith, placed_rest k n b (omega arith), placed_split k n (suc b) h e)

pub placed_over : (k n b : ℕ) → suc b < k → has n (suc b) ≡ false → placed k n b ≡ placed k n (suc b)
placed_over k n b h e = omega (arith, placed_rest k n b (omega arith), placed_rest k n (suc b) h, ap sizes_of (bits_no (suc b) n e))

pub placed_inside : (k n b : ℕ) → b < k → has n b ≡ true → placed k n b + field_size b ≤ sizes_of (bits_of k n)
placed_inside k n b h e = omega (arith, placed_split k n b h e)

-- those of a higher bit end before those of a lower one begin
pub placed_apart : (k n b x : ℕ) → b < x → x < k → has n b ≡ true → has n x ≡ true → placed k n x + field_size x ≤ placed k n b
placed_apart k n b x h g e f = omega (arith, placed_split k n x g f, placed_split k n b (omega arith) e, placed_split x n b h e)

-- ---- words in order

pub in_order_none : (f : ℕ → List ℕ) → in_order [] f ≡ []
unfolding in_order
in_order_none f = refl

pub in_order_more : (b : ℕ) (bs : List ℕ) (f : ℕ → List ℕ) → in_order (b ∷ bs) f ≡ f b ++ in_order bs f
unfolding in_order
in_order_more b bs f = refl

pub in_order_append : (xs ys : List ℕ) (f : ℕ → List ℕ) → in_order (xs ++ ys) f ≡ in_order xs f ++ in_order ys f
unfolding in_order
in_order_append [] ys f = refl
in_order_append (x ∷ xs) ys f = ap (λ (l : List ℕ). f x ++ l) (in_order_append xs ys f) ∙ sym (append_assoc (f x) (in_order xs f) (in_order ys f))

-- the words of each set bit are the same
pub in_order_same : (k n : ℕ) (f g : ℕ → List ℕ) → ((b : ℕ) → b < k → has n b ≡ true → f b ≡ g b) → in_order (bits_of k n) f ≡ in_order (bits_of k n) g
in_order_same zero n f g h = rw (bits_zero n) (in_order_none f ∙ sym (in_order_none g))
in_order_same (suc k) n f g h =
    let rest : in_order (bits_of k n) f ≡ in_order (bits_of k n) g = in_order_same k n f g (λ b l. h b (omega arith)) in
    ⊎_elim
    (λ e. rw (bits_yes k n e, in_order_more k (bits_of k n) f, in_order_more k (bits_of k n) g, h k (omega arith) e, rest))
    (λ e. rw (bits_no k n e) rest)
    (true_or_false (has n k))

-- each set bit has the words of its field
abbrev pub Sized : ℕ → ℕ → (ℕ → List ℕ) → Type 0
Sized k n f = (b : ℕ) → b < k → has n b ≡ true → length (f b) ≡ field_size b

pub in_order_length : (k n : ℕ) (f : ℕ → List ℕ) → Sized k n f → length (in_order (bits_of k n) f) ≡ sizes_of (bits_of k n)
in_order_length zero n f h = rw (bits_zero n, in_order_none f, sizes_none)
in_order_length (suc k) n f h =
    let rest : length (in_order (bits_of k n) f) ≡ sizes_of (bits_of k n) = in_order_length k n f (λ b l. h b (omega arith)) in
    ⊎_elim
    (λ e. rw (bits_yes k n e, in_order_more k (bits_of k n) f, sizes_more k (bits_of k n), length-append, h k (omega arith) e, rest))
    (λ e. rw (bits_no k n e) rest)
    (true_or_false (has n k))

-- the words at a bit's place are its own
pub in_order_at : (k n b : ℕ) (f : ℕ → List ℕ) → Sized k n f → b < k → has n b ≡ true → part (placed k n b) (field_size b) (in_order (bits_of k n) f) ≡ f b
in_order_at zero n b f h l e = absurd (omega arith)
in_order_at (suc k) n b f h l e =
    ⊎_elim
    (λ (g : k ≤ b).
    let i : b ≡ k = omega arith in
    let e' : has n k ≡ true = rw i at e in
    rw (i, placed_first k n, bits_yes k n e', in_order_more k (bits_of k n) f)
    (part_front (field_size k) (f k) (in_order (bits_of k n) f) (h k (omega arith) e')))
    (λ (g : b < k).
    let rest = in_order_at k n b f (λ x m. h x (omega arith)) g e in
    ⊎_elim
    (λ t. rw (placed_yes k n b t g, bits_yes k n t, in_order_more k (bits_of k n) f)
    (part_past (field_size k) (placed k n b) (field_size b) (f k) (in_order (bits_of k n) f) (h k (omega arith) t) ∙ rest))
    (λ t. rw (placed_no k n b t, bits_no k n t) rest)
    (true_or_false (has n k)))
    (le_or_lt k b)

-- words are what stands at the places of their bits
pub in_order_parts : (k n : ℕ) (ws : List ℕ) → length ws ≡ sizes_of (bits_of k n) → in_order (bits_of k n) (λ b. part (placed k n b) (field_size b) ws) ≡ ws
in_order_parts zero n ws l =
    rw (bits_zero n) (in_order_none _ ∙ sym (none_left ws (omega (arith, l, ap sizes_of (bits_zero n), sizes_none))))
in_order_parts (suc k) n ws l =
    ⊎_elim
    (λ t.
    let m : length ws ≡ field_size k + sizes_of (bits_of k n) = l ∙ ap sizes_of (bits_yes k n t) ∙ sizes_more k (bits_of k n) in
    let d : length (drop (field_size k) ws) ≡ sizes_of (bits_of k n) = length-drop (field_size k) ws ∙ omega arith in
    ap (λ (l : List ℕ). in_order l (at_place (suc k))) (bits_yes k n t)
    ∙ in_order_more k (bits_of k n) (at_place (suc k))
    ∙ ap (λ (z : ℕ). part z (field_size k) ws ++ in_order (bits_of k n) (at_place (suc k))) (placed_first k n)
    ∙ ap (λ (z : List ℕ). part 0 (field_size k) ws ++ z)
    (in_order_same k n (at_place (suc k)) (λ b. part (placed k n b) (field_size b) (drop (field_size k) ws))
    (λ b g e. ap (λ (z : ℕ). part z (field_size b) ws) (placed_yes k n b t g) ∙ sym (part_drop (placed k n b) (field_size b) (field_size k) ws))
    ∙ in_order_parts k n (drop (field_size k) ws) d)
    ∙ ap (λ (z : List ℕ). z ++ drop (field_size k) ws) (part_is 0 (field_size k) ws) ∙ take-append-drop (field_size k) ws)
    (λ t.
    in_order_same (suc k) n (at_place (suc k)) (at_place k) (λ b g e. ap (λ (z : ℕ). part z (field_size b) ws) (placed_no k n b t))
    ∙ rw (bits_no k n t) (in_order_parts k n ws (l ∙ ap sizes_of (bits_no k n t))))
    (true_or_false (has n k))
  where
    at_place : ℕ → ℕ → List ℕ
    at_place m b = part (placed m n b) (field_size b) ws

-- ---- the fields that have a slot: bits 30 to 10

pub slots_small : slot_mask < 2 ^ 31
unfolding slot_mask
slots_small = omega arith

outside : ℕ → Bool
outside b = not (slotted b)

inside : ℕ → Bool
inside b = pick (ltb b 10) true (slotted b)

pub slotted_not : (b : ℕ) → b < 10 → slotted b ≡ false
unfolding all outside slotted slot_mask
slotted_not b h = not-true (slotted b) (all_at outside 10 b h refl)

pub slotted_low : (b : ℕ) → slotted b ≡ true → 10 ≤ b
slotted_low b e = ⊎_elim (λ h. h) (λ (h : b < 10). absurd (true_is_false (sym e ∙ slotted_not b h))) (le_or_lt 10 b)

pub slotted_high : (b : ℕ) → slotted b ≡ true → b < 31
unfolding slotted
slotted_high b e =
    ⊎_elim (λ (h : 31 ≤ b). absurd (true_is_false (sym e ∙ has_above slot_mask b (lt_of_lt_of_le slots_small (pow_mono h))))) (λ h. h) (le_or_lt 31 b)

pub slotted_all : (b : ℕ) → 10 ≤ b → b < 31 → slotted b ≡ true
unfolding all inside slotted slot_mask
slotted_all b h g = rw (le-ltb b 10 h) at (all_at inside 31 b g refl)

-- ---- the held fields: those but 22

as_held : ℕ → Bool
as_held b = pick (holds b) (both (slotted b) (not (eqb b 22))) (not (both (slotted b) (not (eqb b 22))))

held_is : (b : ℕ) → b < 31 → holds b ≡ both (slotted b) (not (eqb b 22))
unfolding all as_held holds held_mask slotted slot_mask
held_is b h = agreed (holds b) (both (slotted b) (not (eqb b 22))) (all_at as_held 31 b h refl)

pub held_small : held_mask < 2 ^ 31
unfolding held_mask slot_mask
held_small = omega arith

pub held_slotted : (b : ℕ) → holds b ≡ true → slotted b ≡ true
unfolding holds
held_slotted b e =
    ⊎_elim (λ (h : 31 ≤ b). absurd (true_is_false (sym e ∙ has_above held_mask b (lt_of_lt_of_le held_small (pow_mono h)))))
    (λ (h : b < 31). both_left (slotted b) (not (eqb b 22)) (sym (held_is b h) ∙ e)) (le_or_lt 31 b)

pub held_but : (b : ℕ) → slotted b ≡ true → (b ≡ 22 → ⊥) → holds b ≡ true
held_but b e n = held_is b (slotted_high b e) ∙ rw (e, ne_eqb b 22 n)

pub never_held : holds 22 ≡ false
never_held = held_is 22 (omega arith) ∙ both_no (slotted 22)

-- ---- the slots

-- "Bits 30 to 10 are 21 fields of 74 words together"
pub slots_whole : sizes_of slot_bits ≡ slot_words
unfolding slot_bits slot_mask bits_of sizes_of field_size
slots_whole = refl

-- a place that runs along the slots in field order: it begins with bit 30, and passes a slot by its field's words
pub slot_first : slot_at 30 ≡ 0
unfolding slot_at slot_bits
slot_first = placed_first 30 slot_mask

pub slot_next : (b slot n : ℕ) → slotted b ≡ true → slot ≡ slot_at b → n ≡ field_size b → slot + n ≡ slot_at (b - 1)
unfolding slot_at slot_bits slotted
slot_next b slot n o e f =
    let c : suc (b - 1) ≡ b = omega (arith, slotted_low b o) in
    let past = placed_past 31 slot_mask (b - 1) (omega (arith, slotted_high b o)) (rw c o) in
    omega (arith, rw c at past)

-- the same place from the end, after the slot of bit 10: it goes back over a slot by its field's words
pub slot_last : slot_at 9 ≡ slot_words
unfolding slot_at slot_bits slot_mask bits_of above sizes_of field_size
slot_last = refl

pub slot_before : (b slot n : ℕ) → slotted b ≡ true → slot ≡ slot_at (b - 1) → n ≡ field_size b → (n ≤ slot) × (slot - n ≡ slot_at b)
slot_before b slot n o e f = let next = slot_next b (slot_at b) n o refl f in (omega (arith, next, e), omega (arith, next, e))

-- by the words of the higher bits, as a program clears the others
pub slot_counted : (b n : ℕ) → n ≡ sizes_of (bits_of 31 (slot_mask / 2 ^ (b + 1) * 2 ^ (b + 1) % 2 ^ 32)) → n ≡ slot_at b
unfolding slot_at slot_bits
slot_counted b n e = e ∙ rw (cleared_small slot_mask (b + 1) (omega (arith, slots_small)), add-one b, bits_above 31 b slot_mask)
