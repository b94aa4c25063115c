-- One packet more, in the record of its stream. The idea: what a record holds of a thing afterwards is what the packet carried of it, and else what it held
-- (`held_after_lem`): of a field by `comes`, of an indicator by `lights`; the count of the packet's type goes on, and the others stay (`count_after`).
use Rattle.words.proofs.Kit.{◌≡◌, refl, sym, ap, ◌∙◌, Bool, true, false, not, ⊎_elim, List, [], ◌∷◌, ℕ, zero, suc, ◌+◌, ◌-◌, ◌≤◌, arith, eq-eqb}
use Rattle.words.proofs.Kit.{ne_eqb, le-leb, not-true, eqb, leb, length, get_or}
use mathlib.Core.Option.{none, some}
use borrow.Author.Tests.{leb-true}
use lib.Pow.{pow_pos}
use Rattle.words.specs.Tests.{pick, when, both, among}
use Rattle.words.specs.Word.{has}
use Rattle.words.specs.Part.{part}
use Rattle.words.proofs.Cases.{same_test, true_or_false, true_is_false, same_or_not, both_left, both_right, both_true, both_no}
use Rattle.words.proofs.SetBitLaws.{has_above}
use Rattle.fields.specs.Sizes.{field_size}
use Rattle.fields.specs.Layout.{indicator_of, field_of}
use Rattle.record.specs.Held.{slotted, holds}
use Rattle.record.specs.State.{state_after}
use Rattle.record.specs.Layout.{record_words, held_of, counted_types, order_of, count_words, slot_of}
use Rattle.record.specs.Counts.{counted_of}
use Rattle.record.specs.After.{slot_after, slot_after_body, held_after, record_after}
use Rattle.record.specs.Good.{record_good, Good}
use Rattle.record.proofs.SlotLaws.{slotted_low, slotted_high, slotted_all, held_slotted, held_but, never_held}
use Rattle.record.proofs.StateLaws.{state_enable, state_value, state_user}
use Rattle.record.proofs.AfterLaws.{held_bit}
use Rattle.record.proofs.CountLaws.{by_types}
use Rattle.record.proofs.GoodLaws.{zero_at, good_of}
use Rattle.record.proofs.PacketLaws.{order_small, after_slot, after_held, after_count, after_other}
use Rattle.table.specs.Start.{fresh_record}
use Rattle.demands.specs.Listing.{Listing}
use Rattle.demands.specs.Things.{Thing, whole_field, state_indicator, user_bits, field_bit, kept, replaced, persistent, tells_of}
use Rattle.demands.specs.Trace.{Arrival, value_carried, or_else}
use Rattle.demands.specs.Right.{held_in}
use Rattle.demands.proofs.HearingLaws.{Heeded}

-- ---- the types that are counted

type_at : ℕ → ℕ
type_at zero = 1
type_at (suc zero) = 3
type_at (suc (suc zero)) = 4
type_at (suc (suc (suc k))) = 5

type_back : (kind : ℕ) → among kind counted_types ≡ true → type_at (order_of kind) ≡ kind
unfolding type_at order_of
type_back = by_types (λ k. type_at (order_of k) ≡ k) refl refl refl refl

-- each has its own place
orders_apart : (k j : ℕ) → among k counted_types ≡ true → among j counted_types ≡ true → (j ≡ k → ⊥) → order_of k ≡ order_of j → ⊥
orders_apart k j e f n o = n (sym (type_back j f) ∙ ap type_at (sym o) ∙ type_back k e)

-- ---- the fields that are kept

pub bit_same : (b : ℕ) → field_bit b ≡ slotted b
bit_same b =
    same_test (field_bit b) (slotted b)
    (λ k.
    let h : b ≤ 30 = leb-true b 30 (both_right (leb 10 b) (leb b 30) k) in
    slotted_all b (leb-true 10 b (both_left (leb 10 b) (leb b 30) k)) (omega arith))
    (λ e. let h : b ≤ 30 = omega (arith, slotted_high b e) in rw (le-leb 10 b (slotted_low b e), le-leb b 30 h))

pub kept_same : (b : ℕ) → kept b ≡ holds b
kept_same b =
    same_test (kept b) (holds b)
    (λ k.
    held_but b (sym (bit_same b) ∙ both_left (field_bit b) (not (eqb b 22)) k)
    (λ e. true_is_false (sym (both_right (field_bit b) (not (eqb b 22)) k) ∙ ap not (eq-eqb b 22 e))))
    (λ e. both_true _ _ (bit_same b ∙ held_slotted b e) (ap not (ne_eqb b 22 (λ i. true_is_false (sym e ∙ ap holds i ∙ never_held)))))

-- a field that is replaced whole is held, and is not 16
whole_held : (b : ℕ) → replaced b ≡ true → holds b ≡ true
whole_held b w = sym (kept_same b) ∙ both_left (kept b) (not (eqb b 16)) w

whole_other : (b : ℕ) → replaced b ≡ true → eqb b 16 ≡ false
whole_other b w = not-true (eqb b 16) (both_right (kept b) (not (eqb b 16)) w)

-- field 16 has a slot, and is held
pub state_slotted : slotted 16 ≡ true
state_slotted = slotted_all 16 (omega arith) (omega arith)

state_holds : holds 16 ≡ true
state_holds = held_but 16 state_slotted (λ e. omega arith)

-- ---- what fields tell of a thing

-- no more is looked at than the bits and the words of fields that have a slot
told_same : (x : Thing) (i j : ℕ) (f g : ℕ → List ℕ) → ((b : ℕ) → has i b ≡ has j b) → ((b : ℕ) → slotted b ≡ true → f b ≡ g b) → tells_of x i f
    ≡ tells_of x j g
told_same (whole_field b) i j f g e h =
    ⊎_elim (λ (w : replaced b ≡ true). rw (w, e b, h b (held_slotted b (whole_held b w)))) (λ (w : replaced b ≡ false). rw w) (true_or_false (replaced b))
told_same (state_indicator k) i j f g e h = rw (e 16, h 16 state_slotted)
told_same user_bits i j f g e h = rw (e 16, h 16 state_slotted)

-- a field comes from a packet whose indicator has its bit, and else was there before
comes : (bit before : Bool) (new old : List ℕ)
    → pick (both true (pick before true (both bit true))) (some (pick (both bit true) new old)) none
    ≡ or_else (pick (both true bit) (some new) none) (pick (both true before) (some old) none)
comes true true new old = refl
comes true false new old = refl
comes false true new old = refl
comes false false new old = refl

-- an indicator, where the packet has a state word: n and o are whether it is enabled in the packet's word and in the held one, u and v its values there, and
-- `before` is whether a state word was held
lights : (n o u v before : Bool) → o ≡ both before o
    → pick (both true (both true (pick n true o))) (some (when (pick n u v) 1 ∷ [])) none
    ≡ or_else (pick (both true (both true n)) (some (when u 1 ∷ [])) none) (pick (both true (both before o)) (some (when v 1 ∷ [])) none)
lights true o u v before e = refl
lights false o u v before e = rw (← e)

held_true : (t : Bool) → pick t true (both true true) ≡ true
held_true true = refl
held_true false = refl

held_stays : (t : Bool) (c : Bool) → pick t true (both false c) ≡ t
held_stays true c = refl
held_stays false c = refl

-- a Context packet with this body, and a record that is good: what the record holds of a thing afterwards is what the packet tells of it, and else what it held
module _ (body r : List ℕ) (good : Good r) where
  abbrev fields : ℕ
  fields = indicator_of body

  abbrev word : ℕ
  word = get_or (field_of 16 body) 0 0

  abbrev old : ℕ
  old = get_or (slot_of 16 r) 0 0

  -- where no state word is held its slot is zero
  dark : (i : ℕ) → has old i ≡ both (has (held_of r) 16) (has old i)
  dark i =
      ⊎_elim (λ h. rw h)
      (λ h. rw h
      (ap (λ (ws : List ℕ). has (get_or ws 0 0) i) (good.unheld 16 state_slotted h) ∙ ap (λ (n : ℕ). has n i) (zero_at (field_size 16) 0)
      ∙ has_above 0 i (pow_pos i)))
      (true_or_false (has (held_of r) 16))

  -- with a state word, and without one
  word_then : has fields 16 ≡ true → slot_after_body 16 body (slot_of 16 r) ≡ state_after word old ∷ []
  unfolding slot_after
  word_then c = rw (c, state_holds)

  word_stays : has fields 16 ≡ false → slot_after_body 16 body (slot_of 16 r) ≡ slot_of 16 r
  unfolding slot_after
  word_stays c = rw c

  held_then_lem : has fields 16 ≡ true → has (held_after fields (held_of r)) 16 ≡ true
  held_then_lem c = held_bit fields (held_of r) 16 ∙ rw (c, state_holds) (held_true (has (held_of r) 16))

  held_as_before : has fields 16 ≡ false → has (held_after fields (held_of r)) 16 ≡ has (held_of r) 16
  held_as_before c = held_bit fields (held_of r) 16 ∙ rw c (held_stays (has (held_of r) 16) (holds 16))

  indicator_after : (e : ℕ) → persistent e ≡ true → has fields 16 ≡ true
      → pick (both true (both true (has (state_after word old) e))) (some (when (has (state_after word old) (e - 12)) 1 ∷ [])) none
      ≡ or_else (pick (both true (both true (has word e))) (some (when (has word (e - 12)) 1 ∷ [])) none)
      (pick (both true (both (has (held_of r) 16) (has old e))) (some (when (has old (e - 12)) 1 ∷ [])) none)
  indicator_after e p c =
      let low : 26 ≤ e = leb-true 26 e (both_left (leb 26 e) (leb e 31) p) in
      let high : e ≤ 31 = leb-true e 31 (both_right (leb 26 e) (leb e 31) p) in
      let back : e - 12 + 12 ≡ e = omega arith in
      let value = state_value word old (e - 12) (omega arith) (omega arith) ∙ ap (λ (i : ℕ). pick (has word i) (has word (e - 12)) (has old (e - 12))) back in
      rw (state_enable word old e low (omega arith), value)
      (lights (has word e) (has old e) (has word (e - 12)) (has old (e - 12)) (has (held_of r) 16) (dark e))

  field_after : (b : ℕ) → replaced b ≡ true → slot_after_body b body (slot_of b r) ≡ pick (both (has fields b) true) (field_of b body) (slot_of b r)
  unfolding slot_after
  field_after b w = rw (whole_held b w, whole_other b w)

  told_after : (x : Thing) → tells_of x (held_after fields (held_of r)) (λ b. slot_after_body b body (slot_of b r))
      ≡ or_else (tells_of x fields (λ b. field_of b body)) (held_in x r)
  told_after (whole_field b) =
      ⊎_elim
      (λ (w : replaced b ≡ true).
      rw (w, held_bit fields (held_of r) b, whole_held b w, field_after b w)
      (comes (has fields b) (has (held_of r) b) (field_of b body) (slot_of b r)))
      (λ (w : replaced b ≡ false). rw w) (true_or_false (replaced b))
  told_after (state_indicator e) =
      ⊎_elim
      (λ (p : persistent e ≡ true).
      ⊎_elim (λ (c : has fields 16 ≡ true). rw (p, held_then_lem c, word_then c, c) (indicator_after e p c))
      (λ (c : has fields 16 ≡ false). rw (p, held_as_before c, word_stays c, c)) (true_or_false (has fields 16)))
      (λ (p : persistent e ≡ false). rw p) (true_or_false (persistent e))
  told_after user_bits =
      ⊎_elim (λ (c : has fields 16 ≡ true). rw (held_then_lem c, word_then c, c, state_user word old))
      (λ (c : has fields 16 ≡ false). rw (held_as_before c, word_stays c, c)) (true_or_false (has fields 16))

module _ (list : Listing) (a : Arrival) (f : Heeded list a) (r : List ℕ) (l : length r ≡ record_words) where
  abbrev next : List ℕ
  next = record_after a.kind a.count a.body r

  -- of a packet that is not Context nothing is told, and nothing changes
  held_same : (eqb a.kind 4 ≡ false) → (x : Thing) → held_in x next ≡ held_in x r
  held_same k x =
      told_same x (held_of next) (held_of r) (λ b. slot_of b next) (λ b. slot_of b r)
      (λ b. ap (λ (n : ℕ). has n b) (after_held a.kind a.count a.body r l f.body ∙ rw k))
      (λ b o. after_slot a.kind a.count a.body r l f.body b o ∙ rw k)

  held_context : eqb a.kind 4 ≡ true → (x : Thing)
      → held_in x next ≡ tells_of x (held_after (indicator_of a.body) (held_of r)) (λ b. slot_after_body b a.body (slot_of b r))
  held_context k x =
      told_same x (held_of next) _ (λ b. slot_of b next) (λ b. slot_after_body b a.body (slot_of b r))
      (λ b. ap (λ (n : ℕ). has n b) (after_held a.kind a.count a.body r l f.body ∙ rw k))
      (λ b o. after_slot a.kind a.count a.body r l f.body b o ∙ rw k)

  pub held_after_lem : record_good r ≡ true → (x : Thing) → held_in x (record_after a.kind a.count a.body r) ≡ or_else (value_carried x a) (held_in x r)
  held_after_lem g x =
      ⊎_elim (λ (k : eqb a.kind 4 ≡ true). held_context k x ∙ told_after a.body r (good_of r l g) x ∙ rw k)
      (λ (k : eqb a.kind 4 ≡ false). held_same k x ∙ rw k) (true_or_false (eqb a.kind 4))

  pub count_after : (kind : ℕ) → among kind counted_types ≡ true
      → count_words (order_of kind) (record_after a.kind a.count a.body r)
      ≡ pick (eqb a.kind kind) (counted_of a.count (count_words (order_of kind) r)) (count_words (order_of kind) r)
  count_after kind k =
      ⊎_elim
      (λ (e : a.kind ≡ kind).
      rw (eq-eqb a.kind kind e)
      (ap (λ (j : ℕ). count_words (order_of j) next) (sym e)
      ∙ after_count a.kind a.count a.body r l f.body
      ∙ ap (λ (j : ℕ). counted_of a.count (count_words (order_of j) r)) e))
      (λ (n : a.kind ≡ kind → ⊥).
      rw (ne_eqb a.kind kind n)
      (after_other a.kind a.count a.body r l f.body (order_of kind) (order_small kind) (λ o. orders_apart kind a.kind k f.kind n o)))
      (same_or_not a.kind kind)

-- ---- a fresh record

pub fresh_held : (i c : ℕ) (x : Thing) → held_in x (fresh_record i c) ≡ none
unfolding fresh_record
fresh_held i c (whole_field b) = rw (has_above 0 b (pow_pos b), both_no (replaced b))
fresh_held i c (state_indicator e) = rw (both_no (persistent e))
fresh_held i c user_bits = refl

pub fresh_count : (i c kind : ℕ) → among kind counted_types ≡ true → count_words (order_of kind) (fresh_record i c) ≡ 0 ∷ 0 ∷ 0 ∷ []
unfolding fresh_record count_words order_of part
fresh_count i c = by_types (λ k. count_words (order_of k) (fresh_record i c) ≡ 0 ∷ 0 ∷ 0 ∷ []) refl refl refl refl
