-- A record after a packet, part by part. The idea: a count changes its three words alone, and holding changes the slots and the held indicator alone; the
-- slots after a packet are read by `in_order_at`.
use Rattle.words.proofs.Kit.{◌≡◌, refl, sym, ap, ap₂, ◌∙◌, Bool, true, false, ⊎_elim, List, [], ◌∷◌, ◌++◌, ℕ, ◌+◌, ◌-◌, ◌^◌, ◌≤◌, ◌<◌, arith, eqb-true}
use Rattle.words.proofs.Kit.{ne_eqb, eqb, length, take, drop, get_or, set}
use Rattle.std.proofs.Common.{lt_of_le_of_lt, length-set, get_or-set_other, get_or-set_same}
use lib.Bits.{bit_and, bit_or, and_le_r}
use Rattle.words.specs.Tests.{pick, both}
use Rattle.words.specs.Word.{has}
use Rattle.words.specs.SetBits.{bits_of, above}
use Rattle.words.specs.Part.{part, put}
use Rattle.words.specs.Outcome.{accepted}
use Rattle.words.proofs.Cases.{le_or_lt, same_or_not, true_or_false, both_left, both_yes, both_no, both_twice}
use Rattle.words.proofs.BitLaws.{has_and, has_or, word_same}
use Rattle.words.proofs.SetBitLaws.{above_agree}
use Rattle.words.proofs.PartLaws.{seen, lent_to, part_length, part_word, set_put, put_length, part_put, part_put_before, part_put_after, part_set_before}
use Rattle.words.proofs.PartLaws.{get_d_part, get_d_put_before}
use Rattle.fields.specs.Sizes.{field_size, sizes_of}
use Rattle.fields.specs.Layout.{indicator_of, field_of, body_words, context_of}
use Rattle.fields.proofs.SizeLaws.{words_fixed}
use Rattle.fields.proofs.BodyLaws.{context_fits, from_field, field_inside, field_length, place_fixed, field_fixed}
use Rattle.record.specs.Held.{slot_mask, slotted, slot_bits, slot_at, held_mask, holds, in_order}
use Rattle.record.specs.State.{state_after}
use Rattle.record.specs.Layout.{head_words, slot_words, record_words, identifier_of, held_of, count_at, count_words, choice_of, slot_in, slots_of, slot_of}
use Rattle.record.specs.Counts.{counted_of, count_record}
use Rattle.record.specs.After.{slot_after, slot_after_body, slots_after, held_after, hold_record, refilled, Inside}
use Rattle.record.proofs.SlotLaws.{in_order_same, in_order_length, in_order_at, in_order_parts, slots_small, slotted_low, slotted_high, slotted_all}
use Rattle.record.proofs.SlotLaws.{slots_whole, held_but, never_held}
use Rattle.record.proofs.StateLaws.{state_same}
use Rattle.record.proofs.HoldLaws.{slot_sized, slot_put, slot_put_other, within_slotted}

-- ---- the carried bits of fields that have a slot

masked_small : (n : ℕ) → bit_and n slot_mask < 2 ^ 31
masked_small n = lt_of_le_of_lt (and_le_r n slot_mask) slots_small

pub masked_within : (n : ℕ) → bit_and (bit_and n slot_mask) slot_mask ≡ bit_and n slot_mask
masked_within n =
    word_same 31 _ _ (masked_small (bit_and n slot_mask)) (masked_small n)
    (λ i h. rw (has_and (bit_and n slot_mask) slot_mask i, has_and n slot_mask i) (both_twice (has n i) (has slot_mask i)))

pub masked_has : (n b : ℕ) → slotted b ≡ true → has (bit_and n slot_mask) b ≡ has n b
unfolding slotted
masked_has n b e = has_and n slot_mask b ∙ rw e (both_yes (has n b))

pub masked_place : (n b : ℕ) → 9 ≤ b → above b (bits_of 31 (bit_and n slot_mask)) ≡ above b (bits_of 31 n)
masked_place n b h = above_agree 31 b (bit_and n slot_mask) n (λ x g l. masked_has n x (slotted_all x (omega arith) l))

-- ---- fields 22 and 16: each has one word

over_range_size : field_size 22 ≡ 1
unfolding field_size
over_range_size = refl

state_size : field_size 16 ≡ 1
unfolding field_size
state_size = refl

module _ (slots : List ℕ) (l : length slots ≡ slot_words) where
  over_range_word : slot_in 22 slots ≡ get_or slots 13 0 ∷ []
  unfolding slot_in slot_at slot_bits slot_mask bits_of above sizes_of field_size
  over_range_word = part_word 13 slots (omega arith)

  pub state_word : slot_in 16 slots ≡ get_or slots 22 0 ∷ []
  unfolding slot_in slot_at slot_bits slot_mask bits_of above sizes_of field_size
  state_word = part_word 22 slots (omega arith)

-- ---- the fields of an accepted body, as `refill` finds them

module _ (body : List ℕ) (ok : context_of body ≡ accepted tt) where
  abbrev kept : ℕ
  kept = bit_and (indicator_of body) slot_mask

  carries : (b : ℕ) → has kept b ≡ true → has (indicator_of body) b ≡ true
  carries b e = both_left (has (indicator_of body) b) (has slot_mask b) (sym (has_and (indicator_of body) slot_mask b) ∙ e)

  pub packet_inside : Inside (bit_and (indicator_of body) slot_mask) 1 body
  packet_inside b e =
      let o : slotted b ≡ true = within_slotted kept (masked_within (indicator_of body)) b e in
      let l : 10 ≤ b = slotted_low b o in
      let f = field_inside b body (slotted_high b o) (carries b e) (context_fits body ok) in
      let same = ap sizes_of (masked_place (indicator_of body) b (omega arith)) in
      omega (arith, f, words_fixed b (from_field b body) l, place_fixed b body (omega arith), same)

  -- the slots with each carried field put in whole
  abbrev all_filled : List ℕ → List ℕ
  all_filled slots = in_order slot_bits (λ b. pick (has (indicator_of body) b) (field_of b body) (slot_in b slots))

  packet_fields : (slots : List ℕ) → refilled (bit_and (indicator_of body) slot_mask) 1 body slots ≡ all_filled slots
  unfolding refilled slot_bits slotted
  packet_fields slots =
      in_order_same 31 slot_mask _ _
      (λ b h e.
      let place = masked_place (indicator_of body) b (omega (arith, slotted_low b e)) in
      let field = ap (λ (l : List ℕ). part (1 + sizes_of l) (field_size b) body) place ∙ sym (field_fixed b body (slotted_low b e)) in
      rw (masked_has (indicator_of body) b e) (ap (λ (ws : List ℕ). pick (has (indicator_of body) b) ws (slot_in b slots)) field))

  -- ---- the slots after a packet

  module _ (slots : List ℕ) (l : length slots ≡ slot_words) where
    carried_sized : (b : ℕ) → slotted b ≡ true → has (indicator_of body) b ≡ true → length (field_of b body) ≡ field_size b
    carried_sized b o e = field_length b body (slotted_high b o) e (context_fits body ok) ∙ words_fixed b (from_field b body) (slotted_low b o)

    filled_sized : (b : ℕ) → slotted b ≡ true → length (pick (has (indicator_of body) b) (field_of b body) (slot_in b slots)) ≡ field_size b
    filled_sized b o = ⊎_elim (λ e. rw e (carried_sized b o e)) (λ e. rw e (slot_sized b slots l o)) (true_or_false (has (indicator_of body) b))

    filled_length : length (all_filled slots) ≡ slot_words
    unfolding slot_bits slotted
    filled_length = in_order_length 31 slot_mask _ (λ b h o. filled_sized b o) ∙ slots_whole

    filled_at : (b : ℕ) → slotted b ≡ true → slot_in b (all_filled slots) ≡ pick (has (indicator_of body) b) (field_of b body) (slot_in b slots)
    unfolding slot_bits slot_at slot_in slotted
    filled_at b o = in_order_at 31 slot_mask b _ (λ x h e. filled_sized x e) (slotted_high b o) o

    after_sized : (b : ℕ) → slotted b ≡ true → length (slot_after_body b body (slot_in b slots)) ≡ field_size b
    unfolding slot_after
    after_sized b o =
        ⊎_elim
        (λ (y : both (has (indicator_of body) b) (holds b) ≡ true).
        ⊎_elim (λ (s : eqb b 16 ≡ true). rw (y, s) (sym (ap field_size (eqb-true b 16 s) ∙ state_size)))
        (λ (s : eqb b 16 ≡ false). rw (y, s) (carried_sized b o (both_left (has (indicator_of body) b) (holds b) y))) (true_or_false (eqb b 16)))
        (λ (n : both (has (indicator_of body) b) (holds b) ≡ false). rw n (slot_sized b slots l o)) (true_or_false (both (has (indicator_of body) b) (holds b)))

    pub slots_length : length (slots_after body slots) ≡ slot_words
    unfolding slots_after slot_bits slotted
    slots_length = in_order_length 31 slot_mask _ (λ b h o. after_sized b o) ∙ slots_whole

    pub slots_at : (b : ℕ) → slotted b ≡ true → slot_in b (slots_after body slots) ≡ slot_after_body b body (slot_in b slots)
    unfolding slots_after slot_bits slot_at slot_in slotted
    slots_at b o = in_order_at 31 slot_mask b _ (λ x h e. after_sized x e) (slotted_high b o) o

    -- as a program makes them: each carried field is put in whole, to give `mid`; then field 22 has the word that it had, `count`, and field 16 the word r that
    -- its new one makes of the one that it had, `state`
    module _ (count state : ℕ) (mid : List ℕ) (ec : count ≡ get_or slots 13 0) (es : state ≡ get_or slots 22 0)
        (em : mid ≡ refilled (bit_and (indicator_of body) slot_mask) 1 body slots) where
      mid_filled : mid ≡ all_filled slots
      mid_filled = em ∙ packet_fields slots

      mid_length : length mid ≡ slot_words
      mid_length = ap length mid_filled ∙ filled_length

      -- field 16 has its word, also after a store
      pub state_slot_there : (i v : ℕ) → 22 < length (set mid i v)
      state_slot_there i v = simp length-set (omega (arith, mid_length))

      mid_at : (b : ℕ) → slotted b ≡ true → slot_in b mid ≡ pick (has (indicator_of body) b) (field_of b body) (slot_in b slots)
      mid_at b o = ap (slot_in b) mid_filled ∙ filled_at b o

      abbrev back : List ℕ
      back = set mid 13 count

      back_put : back ≡ put (slot_at 22) (field_size 22) (count ∷ []) mid
      unfolding slot_at slot_bits slot_mask bits_of above sizes_of field_size
      back_put = set_put 13 count mid (omega (arith, mid_length))

      back_length : length (set mid 13 count) ≡ slot_words
      back_length = simp length-set mid_length

      -- field 22 is as it was, and no other changes
      back_count : slot_in 22 back ≡ slot_in 22 slots
      back_count =
          ap (slot_in 22) back_put ∙ slot_put 22 (count ∷ []) mid mid_length (slotted_all 22 (omega arith) (omega arith)) (sym over_range_size)
          ∙ ap (λ (n : ℕ). n ∷ []) ec ∙ sym (over_range_word slots l)

      back_other : (b : ℕ) → slotted b ≡ true → (b ≡ 22 → ⊥) → slot_in b back ≡ pick (has (indicator_of body) b) (field_of b body) (slot_in b slots)
      back_other b o n =
          ap (slot_in b) back_put
          ∙ slot_put_other 22 (count ∷ []) mid mid_length (slotted_all 22 (omega arith) (omega arith)) (sym over_range_size) b o n ∙ mid_at b o

      module _ (word r : ℕ) (ew : word ≡ get_or mid 22 0) (er : r ≡ state_after word state) (small : state < 2 ^ 32) where
        abbrev done : List ℕ
        done = set back 22 r

        done_put : done ≡ put (slot_at 16) (field_size 16) (r ∷ []) back
        unfolding slot_at slot_bits slot_mask bits_of above sizes_of field_size
        done_put = set_put 22 r back (omega (arith, back_length))

        done_other : (b : ℕ) → slotted b ≡ true → (b ≡ 16 → ⊥) → slot_in b done ≡ slot_in b back
        done_other b o n =
            ap (slot_in b) done_put
            ∙ slot_put_other 16 (r ∷ []) back back_length (slotted_all 16 (omega arith) (omega arith)) (sym state_size) b o n

        -- the word of field 16 in its slot
        word_is : word ≡ get_or (pick (has (indicator_of body) 16) (field_of 16 body) (slot_in 16 slots)) 0 0
        word_is =
            ew ∙ ap (λ (ws : List ℕ). get_or ws 0 0) (sym (state_word mid mid_length) ∙ mid_at 16 (slotted_all 16 (omega arith) (omega arith)))

        old_is : state ≡ get_or (slot_in 16 slots) 0 0
        old_is = es ∙ ap (λ (ws : List ℕ). get_or ws 0 0) (sym (state_word slots l))

        state_made : (carried : Bool) → has (indicator_of body) 16 ≡ carried → r ∷ [] ≡ slot_after_body 16 body (slot_in 16 slots)
        unfolding slot_after
        state_made true e =
            rw (e, held_but 16 (slotted_all 16 (omega arith) (omega arith)) (λ x. omega arith))
            (ap (λ (n : ℕ). n ∷ []) (er ∙ ap₂ state_after (rw e at word_is) old_is))
        state_made false e =
            rw e
            (ap (λ (n : ℕ). n ∷ []) (er ∙ ap (λ (n : ℕ). state_after n state) (rw e at word_is ∙ sym old_is) ∙ state_same state small ∙ es)
            ∙ sym (state_word slots l))

        done_state : slot_in 16 done ≡ slot_after_body 16 body (slot_in 16 slots)
        done_state =
            ap (slot_in 16) done_put
            ∙ slot_put 16 (r ∷ []) back back_length (slotted_all 16 (omega arith) (omega arith)) (sym state_size)
            ∙ state_made (has (indicator_of body) 16) refl

        done_count : slot_in 22 done ≡ slot_after_body 22 body (slot_in 22 slots)
        unfolding slot_after
        done_count =
            done_other 22 (slotted_all 22 (omega arith) (omega arith)) (λ e. omega arith)
            ∙ back_count ∙ sym (rw (never_held, both_no (has (indicator_of body) 22)))

        done_whole : (b : ℕ) → slotted b ≡ true → (b ≡ 22 → ⊥) → (b ≡ 16 → ⊥) → slot_in b done ≡ slot_after_body b body (slot_in b slots)
        unfolding slot_after
        done_whole b o n m =
            done_other b o m ∙ back_other b o n ∙ sym (rw (held_but b o n, both_yes (has (indicator_of body) b), ne_eqb b 16 m))

        done_at : (b : ℕ) → slotted b ≡ true → slot_in b done ≡ slot_after_body b body (slot_in b slots)
        done_at b o =
            ⊎_elim (λ (e : b ≡ 16). rw e done_state)
            (λ (m : b ≡ 16 → ⊥). ⊎_elim (λ (e : b ≡ 22). rw e done_count) (λ (n : b ≡ 22 → ⊥). done_whole b o n m) (same_or_not b 22))
            (same_or_not b 16)

        pub slots_made : set (set mid 13 count) 22 r ≡ slots_after body slots
        unfolding slots_after slot_in slot_at slot_bits slotted
        slots_made =
            sym (in_order_parts 31 slot_mask done (simp length-set mid_length ∙ sym slots_whole)) ∙ in_order_same 31 slot_mask _ _ (λ b h o. done_at b o)

-- it has its indicator
pub body_some : (body : List ℕ) → context_of body ≡ accepted tt → 0 < length body
unfolding body_words
body_some body e = omega (arith, (context_fits body e).whole)

-- ---- a record whose slots are lent

module _ (body r : List ℕ) where
  pub slots_long : length r ≡ record_words → length (take (record_words - head_words) (drop head_words r)) ≡ slot_words
  slots_long l = rw (seen head_words record_words slot_words r refl) (part_length head_words slot_words r (omega arith))

  pub slots_lent : (last : List ℕ) → last ≡ slots_after body (take (record_words - head_words) (drop head_words r))
      → set (take head_words r ++ (last ++ drop (record_words - head_words) (drop head_words r))) 1 (bit_or (held_of r) (bit_and (indicator_of body) held_mask))
      ≡ hold_record body r
  unfolding hold_record held_after slots_of
  slots_lent last f =
      ap (λ (t : List ℕ). set t 1 (bit_or (held_of r) (bit_and (indicator_of body) held_mask)))
      (lent_to head_words record_words slot_words (slots_after body) last r refl f)

-- ---- a record after a Context packet

module _ (body r : List ℕ) (l : length r ≡ record_words) (ok : context_of body ≡ accepted tt) where
  old_slots : length (slots_of r) ≡ slot_words
  unfolding slots_of
  old_slots = part_length head_words slot_words r (omega arith)

  fits : head_words + slot_words ≤ length r
  fits = omega arith

  abbrev new : List ℕ
  new = slots_after body (slots_of r)

  new_slots : length (slots_after body (slots_of r)) ≡ slot_words
  new_slots = slots_length body ok (slots_of r) old_slots

  put_whole : length (put head_words slot_words new r) ≡ record_words
  put_whole = put_length head_words slot_words new r fits new_slots ∙ l

  pub hold_length : length (hold_record body r) ≡ record_words
  unfolding hold_record
  hold_length = simp length-set put_whole

  pub hold_slots : slots_of (hold_record body r) ≡ slots_after body (slots_of r)
  unfolding hold_record slots_of
  hold_slots =
      part_set_before head_words slot_words 1 _ (put head_words slot_words (slots_after body (part head_words slot_words r)) r) (omega arith)
      ∙ part_put head_words slot_words (slots_after body (part head_words slot_words r)) r fits new_slots

  -- a slot is as `slot_after` has it
  pub hold_slot : (b : ℕ) → slotted b ≡ true → slot_of b (hold_record body r) ≡ slot_after_body b body (slot_of b r)
  unfolding slot_of
  hold_slot b o = ap (slot_in b) hold_slots ∙ slots_at body ok (slots_of r) old_slots b o

  -- the held indicator gains the carried bits of held fields
  pub hold_held : held_of (hold_record body r) ≡ held_after (indicator_of body) (held_of r)
  unfolding hold_record
  hold_held = get_or-set_same (put head_words slot_words new r) 1 _ 0 (omega (arith, put_whole))

  -- the identifier, the choice and the counts are as they were
  pub hold_identifier : identifier_of (hold_record body r) ≡ identifier_of r
  unfolding hold_record
  hold_identifier =
      get_or-set_other (put head_words slot_words new r) 1 0 _ 0 (λ e. omega arith)
      ∙ get_d_put_before head_words slot_words new r fits new_slots 0 (omega arith)

  pub hold_choice : choice_of (hold_record body r) ≡ choice_of r
  unfolding hold_record
  hold_choice =
      get_or-set_other (put head_words slot_words new r) 1 14 _ 0 (λ e. omega arith)
      ∙ get_d_put_before head_words slot_words new r fits new_slots 14 (omega arith)

  pub hold_count : (k : ℕ) → k < 4 → count_words k (hold_record body r) ≡ count_words k r
  unfolding hold_record count_words
  hold_count k h =
      part_set_before (count_at k) 3 1 _ (put head_words slot_words new r) (omega arith)
      ∙ part_put_before head_words slot_words new r fits new_slots (count_at k) 3 (omega arith)

-- a bit is held after a packet where it was, or the packet carries it and it is one of those held
pub held_bit : (indicator held b : ℕ) → has (held_after indicator held) b ≡ pick (has held b) true (both (has indicator b) (holds b))
unfolding held_after holds
held_bit indicator held b = has_or held (bit_and indicator held_mask) b ∙ ap (pick (has held b) true) (has_and indicator held_mask b)

-- ---- a record after a count

module _ (k count : ℕ) (r : List ℕ) (l : length r ≡ record_words) (h : k < 4) where
  three : length (counted_of count (count_words k r)) ≡ 3
  unfolding counted_of
  three = refl

  within : count_at k + 3 ≤ length r
  within = omega arith

  pub count_length : length (count_record k count r) ≡ record_words
  unfolding count_record
  count_length = put_length (count_at k) 3 (counted_of count (count_words k r)) r within three ∙ l

  pub count_count : count_words k (count_record k count r) ≡ counted_of count (count_words k r)
  unfolding count_record count_words
  count_count = part_put (count_at k) 3 (counted_of count (part (count_at k) 3 r)) r within three

  -- the counts of the other types are as they were
  pub count_other : (j : ℕ) → j < 4 → (j ≡ k → ⊥) → count_words j (count_record k count r) ≡ count_words j r
  unfolding count_record count_words
  count_other j g n =
      ⊎_elim (λ (i : j ≤ k). part_put_before (count_at k) 3 _ r within three (count_at j) 3 (omega arith))
      (λ (i : k < j). part_put_after (count_at k) 3 _ r within three (count_at j) 3 (omega arith)) (le_or_lt j k)

  pub count_slot : (b : ℕ) → slot_of b (count_record k count r) ≡ slot_of b r
  unfolding count_record slot_of slots_of
  count_slot b = ap (slot_in b) (part_put_after (count_at k) 3 _ r within three head_words slot_words (omega arith))

  pub count_held : held_of (count_record k count r) ≡ held_of r
  unfolding count_record
  count_held = get_d_put_before (count_at k) 3 (counted_of count (count_words k r)) r within three 1 (omega arith)

  pub count_identifier : identifier_of (count_record k count r) ≡ identifier_of r
  unfolding count_record
  count_identifier = get_d_put_before (count_at k) 3 (counted_of count (count_words k r)) r within three 0 (omega arith)

  pub count_choice : choice_of (count_record k count r) ≡ choice_of r
  unfolding count_record
  count_choice =
      sym (get_d_part 14 1 0 (put (count_at k) 3 (counted_of count (count_words k r)) r) (omega arith))
      ∙ ap (λ (ws : List ℕ). get_or ws 0 0) (part_put_after (count_at k) 3 _ r within three 14 1 (omega arith)) ∙ get_d_part 14 1 0 r (omega arith)
