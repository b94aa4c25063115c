-- A record and its body. The idea: their first words are the same; the rest of a body is the held words of the record's slots, and crate record's laws of
-- squeezing say that slots give the words again and words the slots (`record_body`, `body_record`).
use Rattle.words.proofs.Kit.{◌≡◌, refl, sym, ap, ap₂, ◌∙◌, ⊎_elim, Bool, true, false, List, ◌++◌, ℕ, ◌+◌, ◌≤◌, ◌<◌}
use Rattle.words.proofs.Kit.{arith, eqb-true, eqb, length, drop, get_or}
use native.Mathlib.Nat.{zero-add}
use lib.Bits.{bit_and}
use lib.ListN.{replicate, length-append, length-drop, length-replicate, take-append-drop}
use lib.Seq.{drop_at, ext_get_or}
use Rattle.words.specs.Tests.{pick, both}
use Rattle.words.specs.Word.{has}
use Rattle.words.specs.Part.{part}
use Rattle.words.specs.SetBits.{bits_of}
use Rattle.words.proofs.Cases.{both_left, true_or_false}
use Rattle.words.proofs.PartLaws.{get_d_part, part_length, part_front, part_past, part_whole, part_is}
use Rattle.fields.specs.Sizes.{field_size, sizes_of}
use Rattle.fields.proofs.SizeLaws.{sizes_within, sizes_most}
use Rattle.record.specs.Held.{slot_mask, slotted, slot_bits, slot_at, held_mask}
use Rattle.record.specs.Layout.{head_words, slot_words, record_words, held_of, count_words, last_of, slot_in, slots_of, slot_of}
use Rattle.record.specs.After.{refilled, held_words}
use Rattle.record.specs.Good.{record_good, held_good}
use Rattle.record.proofs.SlotLaws.{placed, placed_inside, in_order_length, in_order_at, slots_whole, slotted_high}
use Rattle.record.proofs.HoldLaws.{slot_inside, within_bits, held_within}
use Rattle.record.proofs.GoodLaws.{zero_at, good_of}
use Rattle.record.proofs.SqueezeLaws.{refilled_drop, held_length, refilled_held, held_refilled}
use Rattle.page.specs.Body.{page_body, page_body_words, record_of}
use Rattle.words.proofs.PieceLaws.{part_join}

-- ---- the first words

-- a word of the first ones, where words follow them
front_word : (i : ℕ) (x rest : List ℕ) → i < head_words → head_words ≤ length x → get_or (part 0 head_words x ++ rest) i 0 ≡ get_or x i 0
front_word i x rest h g =
    let l : length (part 0 head_words x) ≡ head_words = part_length 0 head_words x g in
    rw zero-add at
    (sym (get_d_part 0 head_words i (part 0 head_words x ++ rest) h)
    ∙ ap (λ (z : List ℕ). get_or z i 0) (part_front head_words (part 0 head_words x) rest l)
    ∙ get_d_part 0 head_words i x h)

pub body_word : (r : List ℕ) (i : ℕ) → i < head_words → head_words ≤ length r → get_or (page_body r) i 0 ≡ get_or r i 0
unfolding page_body
body_word r i h g = front_word i r _ h g

pub record_word : (b : List ℕ) (i : ℕ) → i < head_words → head_words ≤ length b → get_or (record_of b) i 0 ≡ get_or b i 0
unfolding record_of
record_word b i h g = front_word i b _ h g

-- first words that are good hold no bit but those of held fields; and so a good record
pub head_within : (r : List ℕ) (rest : Bool) → both (held_good (held_of r) (last_of (count_words 2 r))) rest ≡ true → bit_and (held_of r) held_mask ≡ held_of r
unfolding held_good
head_within r rest e =
    eqb-true _ _ (both_left (eqb (bit_and (held_of r) held_mask) (held_of r)) _ (both_left (held_good (held_of r) (last_of (count_words 2 r))) rest e))

pub good_within : (r : List ℕ) → record_good r ≡ true → bit_and (held_of r) held_mask ≡ held_of r
unfolding record_good
good_within r e = head_within r _ e

-- ---- zeroed slots

zero_slot : (b : ℕ) → slotted b ≡ true → slot_in b (replicate slot_words 0) ≡ replicate (field_size b) 0
unfolding slot_in
zero_slot b o =
    let l : length (replicate {A = ℕ} slot_words 0) ≡ slot_words = length-replicate {A = ℕ} slot_words 0 in
    let m : length (part (slot_at b) (field_size b) (replicate slot_words 0)) ≡ field_size b = part_length (slot_at b) (field_size b) (replicate slot_words 0)
    (omega (arith, slot_inside b o)) in
    ext_get_or 0 _ (replicate (field_size b) 0) (m ∙ sym (length-replicate (field_size b) 0))
    (λ i h.
    get_d_part (slot_at b) (field_size b) i (replicate slot_words 0) (omega arith)
    ∙ zero_at slot_words (slot_at b + i) ∙ sym (zero_at (field_size b) i))

-- ---- a record's body, and its record again

module _ (r : List ℕ) (l : length r ≡ record_words) (e : record_good r ≡ true) where
  head_length : length (part 0 head_words r) ≡ head_words
  head_length = part_length 0 head_words r (omega arith)

  slots_length : length (slots_of r) ≡ slot_words
  unfolding slots_of
  slots_length = part_length head_words slot_words r (omega arith)

  pub body_length_lem : length (page_body r) ≡ page_body_words (held_of r)
  unfolding page_body page_body_words
  body_length_lem =
      length-append (part 0 head_words r) _
      ∙ omega (arith, head_length, held_length (held_of r) (held_within (held_of r) (good_within r e)) (slots_of r) slots_length)

  slots_back : refilled (held_of r) 0 (held_words (held_of r) (slots_of r)) (replicate slot_words 0) ≡ slots_of r
  unfolding slot_of
  slots_back =
      refilled_held (held_of r) (held_within (held_of r) (good_within r e)) (slots_of r) (replicate slot_words 0) slots_length
      (λ b o n. zero_slot b o ∙ sym ((good_of r l e).unheld b o n))

  pub record_body : record_of (page_body r) ≡ r
  unfolding record_of page_body slots_of
  record_body =
      let rest : List ℕ = held_words (held_of r) (slots_of r) in
      let h : held_of (page_body r) ≡ held_of r = body_word r 1 (omega arith) (omega arith) in
      let f : part 0 head_words (page_body r) ≡ part 0 head_words r = part_front head_words (part 0 head_words r) rest head_length in
      let d : drop head_words (page_body r) ≡ rest = drop_at (part 0 head_words r) rest head_words head_length in
      let s : refilled (held_of (page_body r)) head_words (page_body r) (replicate slot_words 0) ≡ slots_of r =
      refilled_drop (held_of (page_body r)) head_words (page_body r) (replicate slot_words 0) ∙ rw (d, h) slots_back in
      ap₂ (λ (a b : List ℕ). a ++ b) f s ∙ part_join 0 head_words slot_words r ∙ rw l at (part_whole r)

-- ---- how long a body is

pub words_most : (held : ℕ) → page_body_words held ≤ record_words
unfolding page_body_words
words_most held = omega (arith, sizes_most held)

-- those that are held have 73
held_size : sizes_of (bits_of 31 held_mask) ≡ 73
unfolding bits_of held_mask slot_mask sizes_of field_size
held_size = refl

pub body_most : (held : ℕ) → bit_and held held_mask ≡ held → page_body_words held ≤ 88
unfolding page_body_words
body_most held w = omega (arith, sizes_within 31 held held_mask (λ b h y. within_bits held_mask held w b y), held_size)

-- as a program adds them: n is the words of the held fields
module _ (held n : ℕ) (e : n ≡ sizes_of (bits_of 31 held)) where
  pub words_added : head_words + n ≡ page_body_words held
  unfolding page_body_words
  words_added = ap (λ (m : ℕ). head_words + m) e

  pub added_most : head_words + n ≤ record_words
  added_most = omega (arith, words_added, words_most held)

-- ---- slots that words are put into

module _ (held : ℕ) (ws blank : List ℕ) (l : length ws ≡ sizes_of (bits_of 31 held)) (m : length blank ≡ slot_words) where
  refilled_sized : (b : ℕ) → b < 31 → slotted b ≡ true → length (pick (has held b) (part (0 + placed 31 held b) (field_size b) ws) (slot_in b blank))
      ≡ field_size b
  unfolding slot_in
  refilled_sized b g o =
      ⊎_elim (λ (y : has held b ≡ true). rw y (part_length (0 + placed 31 held b) (field_size b) ws (omega (arith, placed_inside 31 held b g y))))
      (λ (n : has held b ≡ false). rw n (part_length (slot_at b) (field_size b) blank (omega (arith, slot_inside b o)))) (true_or_false (has held b))

  refilled_length : length (refilled held 0 ws blank) ≡ slot_words
  unfolding refilled slot_bits slotted
  refilled_length = in_order_length 31 slot_mask _ refilled_sized ∙ slots_whole

-- ---- a body's record, and its body again

module _ (b : List ℕ) (l : length b ≡ page_body_words (held_of b)) where
  pub body_some : head_words ≤ length b
  unfolding page_body_words
  body_some = omega (arith, l)

  rest_length : length (drop head_words b) ≡ sizes_of (bits_of 31 (held_of b))
  unfolding page_body_words
  rest_length = length-drop head_words b ∙ omega (arith, l)

  front_length : length (part 0 head_words b) ≡ head_words
  front_length = part_length 0 head_words b body_some

  zeros_length : length (replicate {A = ℕ} slot_words 0) ≡ slot_words
  zeros_length = length-replicate {A = ℕ} slot_words 0

  refilled_here : length (refilled (held_of b) head_words b (replicate slot_words 0)) ≡ slot_words
  refilled_here =
      ap length (refilled_drop (held_of b) head_words b (replicate slot_words 0))
      ∙ refilled_length (held_of b) (drop head_words b) (replicate slot_words 0) rest_length zeros_length

  pub record_length : length (record_of b) ≡ record_words
  unfolding record_of
  record_length = length-append (part 0 head_words b) _ ∙ omega (arith, front_length, refilled_here)

  -- the slots of its record
  record_slots : slots_of (record_of b) ≡ refilled (held_of b) 0 (drop head_words b) (replicate slot_words 0)
  unfolding record_of slots_of
  record_slots =
      let rest : List ℕ = refilled (held_of b) head_words b (replicate slot_words 0) in
      let m : length rest ≡ slot_words = refilled_here in
      part_past head_words 0 slot_words (part 0 head_words b) rest front_length ∙ rw m at (part_whole rest)
      ∙ refilled_drop (held_of b) head_words b (replicate slot_words 0)

  -- a slot has the words of its field where the body holds it, and is else zero
  pub record_slot : (x : ℕ) → slotted x ≡ true
      → slot_of x (record_of b) ≡ pick (has (held_of b) x) (part (placed 31 (held_of b) x) (field_size x) (drop head_words b)) (replicate (field_size x) 0)
  unfolding slot_of slot_in slot_at refilled slot_bits slotted
  record_slot x o =
      let ws : List ℕ = drop head_words b in
      ap (slot_in x) record_slots
      ∙ in_order_at 31 slot_mask x _ (refilled_sized (held_of b) ws (replicate slot_words 0) rest_length zeros_length) (slotted_high x o) o
      ∙ ap₂ (λ (n : ℕ) (z : List ℕ). pick (has (held_of b) x) (part n (field_size x) ws) z) (zero-add (placed 31 (held_of b) x)) (zero_slot x o)

  pub body_record : bit_and (held_of b) slot_mask ≡ held_of b → page_body (record_of b) ≡ b
  unfolding record_of page_body
  body_record w =
      let rest : List ℕ = refilled (held_of b) head_words b (replicate slot_words 0) in
      let h : held_of (record_of b) ≡ held_of b = record_word b 1 (omega arith) body_some in
      let f : part 0 head_words (record_of b) ≡ part 0 head_words b = part_front head_words (part 0 head_words b) rest front_length in
      let q : held_words (held_of (record_of b)) (slots_of (record_of b)) ≡ drop head_words b =
      rw (h, record_slots) (held_refilled (held_of b) w (drop head_words b) (replicate slot_words 0) rest_length zeros_length) in
      ap₂ (λ (x y : List ℕ). x ++ y) f q ∙ rw part_is (take-append-drop head_words b)
