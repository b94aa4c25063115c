-- A record after an accepted packet, as the crates above use it. The idea: of a packet that is not Context only its type's count changes; a Context packet's
-- fields are held besides. Each law goes by whether the type is 4.
use Rattle.words.proofs.Kit.{◌≡◌, ap, ◌∙◌, Bool, true, false, ⊎_elim, List, ℕ, ◌+◌, ◌≤◌, ◌<◌, arith, eq-eqb, ne_eqb, eqb, length}
use Rattle.words.specs.Tests.{pick}
use Rattle.words.specs.Outcome.{accepted}
use Rattle.words.proofs.Cases.{same_or_not}
use Rattle.fields.specs.Layout.{indicator_of, context_of}
use Rattle.record.specs.Held.{slotted}
use Rattle.record.specs.Layout.{record_words, identifier_of, held_of, order_of, count_words, last_of, choice_of, slot_of}
use Rattle.record.specs.Counts.{counted_of, count_record, added_to}
use Rattle.record.specs.After.{slot_after_body, held_after, hold_record, record_after, added_by}
use Rattle.record.specs.Good.{record_good, Good}
use Rattle.record.proofs.AfterLaws.{count_length, count_count, count_other, count_slot, count_held, count_identifier, count_choice}
use Rattle.record.proofs.AfterLaws.{hold_length, hold_slot, hold_held, hold_count, hold_identifier, hold_choice}
use Rattle.record.proofs.GoodLaws.{good_of, of_good, count_good_lem, hold_good}

pub order_small : (kind : ℕ) → order_of kind < 4
unfolding order_of
order_small kind = below (eqb kind 1) (omega arith) (below (eqb kind 3) (omega arith) (below (eqb kind 4) (omega arith) (omega arith)))
  where
    below : {a b n : ℕ} (t : Bool) → a < n → b < n → pick t a b < n
    below true h g = h
    below false h g = g

order_context : (kind : ℕ) → kind ≡ 4 → order_of kind ≡ 2
unfolding order_of
order_context kind e = rw e

-- the last count of a good record is at most 15
pub last_most : (r : List ℕ) (k : ℕ) → length r ≡ record_words → k < 4 → record_good r ≡ true → last_of (count_words k r) ≤ 16
last_most r k l h g = ((good_of r l g).counts k h).most

pub context_most : (r : List ℕ) → length r ≡ record_words → record_good r ≡ true → last_of (count_words 2 r) ≤ 16
context_most r l g = last_most r 2 l (omega arith) g

-- the body matters to type 4 alone
pub after_body : (kind count : ℕ) (body other r : List ℕ) → (kind ≡ 4 → ⊥) → record_after kind count body r ≡ record_after kind count other r
unfolding record_after
after_body kind count body other r n = rw (ne_eqb kind 4 n)

-- of a packet that is not Context: `order` is its type's
module _ (kind count order : ℕ) (r : List ℕ) (o : order ≡ order_of kind) where
  pub data_adds : (more : ℕ) → more ≡ added_to order count r → more ≡ added_by kind count r
  unfolding added_by
  data_adds more m = m ∙ rw o

  pub data_leaves : (body last : List ℕ) → (kind ≡ 4 → ⊥) → last ≡ count_record order count r → last ≡ record_after kind count body r
  unfolding record_after
  data_leaves body last n e = e ∙ rw (o, ne_eqb kind 4 n)

-- of a Context packet: it is counted, and then its fields are held
module _ (count : ℕ) (r : List ℕ) where
  pub context_adds : (more : ℕ) → more ≡ added_to 2 count r → more ≡ added_by 4 count r
  unfolding added_by order_of
  context_adds more m = m

  pub context_leaves : (body mid last : List ℕ) → mid ≡ count_record 2 count r → last ≡ hold_record body mid → last ≡ record_after 4 count body r
  unfolding record_after order_of
  context_leaves body mid last e f = f ∙ ap (hold_record body) e

module _ (kind count : ℕ) (body r : List ℕ) (l : length r ≡ record_words) (ok : kind ≡ 4 → context_of body ≡ accepted tt) where
  abbrev counted : List ℕ
  counted = count_record (order_of kind) count r

  whole : length counted ≡ record_words
  whole = count_length (order_of kind) count r l (order_small kind)

  after_context : kind ≡ 4 → record_after kind count body r ≡ hold_record body (count_record (order_of kind) count r)
  unfolding record_after
  after_context e = rw (eq-eqb kind 4 e)

  after_data : (kind ≡ 4 → ⊥) → record_after kind count body r ≡ count_record (order_of kind) count r
  unfolding record_after
  after_data n = rw (ne_eqb kind 4 n)

  -- what holds of the record after both cases holds of it
  by_kind : {A : Type 0} (f : List ℕ → A) (a : A) → (kind ≡ 4 → f (hold_record body (count_record (order_of kind) count r)) ≡ a)
      → f (count_record (order_of kind) count r) ≡ a → f (record_after kind count body r) ≡ a
  by_kind f a h d = ⊎_elim (λ e. ap f (after_context e) ∙ h e) (λ n. ap f (after_data n) ∙ d) (same_or_not kind 4)

  pub after_length : length (record_after kind count body r) ≡ record_words
  after_length = by_kind length record_words (λ e. hold_length body counted whole (ok e)) whole

  pub after_identifier : identifier_of (record_after kind count body r) ≡ identifier_of r
  after_identifier =
      let i = count_identifier (order_of kind) count r l (order_small kind) in
      by_kind identifier_of (identifier_of r) (λ e. hold_identifier body counted whole (ok e) ∙ i) i

  pub after_choice : choice_of (record_after kind count body r) ≡ choice_of r
  after_choice =
      let i = count_choice (order_of kind) count r l (order_small kind) in
      by_kind choice_of (choice_of r) (λ e. hold_choice body counted whole (ok e) ∙ i) i

  -- its type is counted
  pub after_count : count_words (order_of kind) (record_after kind count body r) ≡ counted_of count (count_words (order_of kind) r)
  after_count =
      let i = count_count (order_of kind) count r l (order_small kind) in
      by_kind (count_words (order_of kind)) _ (λ e. hold_count body counted whole (ok e) (order_of kind) (order_small kind) ∙ i) i

  -- the counts of the other types are as they were
  pub after_other : (k : ℕ) → k < 4 → (k ≡ order_of kind → ⊥) → count_words k (record_after kind count body r) ≡ count_words k r
  after_other k h n =
      let i = count_other (order_of kind) count r l (order_small kind) k h n in
      by_kind (count_words k) _ (λ e. hold_count body counted whole (ok e) k h ∙ i) i

  -- a slot is as `slot_after` has it after a Context packet, and else as it was
  pub after_slot : (b : ℕ) → slotted b ≡ true → slot_of b (record_after kind count body r)
      ≡ pick (eqb kind 4) (slot_after_body b body (slot_of b r)) (slot_of b r)
  after_slot b o =
      let i = count_slot (order_of kind) count r l (order_small kind) b in
      ⊎_elim (λ e. rw (eq-eqb kind 4 e) (ap (slot_of b) (after_context e) ∙ hold_slot body counted whole (ok e) b o ∙ ap (slot_after_body b body) i))
      (λ n. rw (ne_eqb kind 4 n) (ap (slot_of b) (after_data n) ∙ i)) (same_or_not kind 4)

  -- the held indicator gains what a Context packet carries
  pub after_held : held_of (record_after kind count body r) ≡ pick (eqb kind 4) (held_after (indicator_of body) (held_of r)) (held_of r)
  after_held =
      let i = count_held (order_of kind) count r l (order_small kind) in
      ⊎_elim (λ e. rw (eq-eqb kind 4 e) (ap held_of (after_context e) ∙ hold_held body counted whole (ok e) ∙ ap (held_after (indicator_of body)) i))
      (λ n. rw (ne_eqb kind 4 n) (ap held_of (after_data n) ∙ i)) (same_or_not kind 4)

  -- type 4 has started, once it is counted
  began : kind ≡ 4 → last_of (count_words 2 (count_record (order_of kind) count r)) ≡ 0 → ⊥
  unfolding counted_of
  began e z =
      let i : last_of (count_words (order_of kind) counted) ≡ count + 1 = ap last_of (count_count (order_of kind) count r l (order_small kind)) in
      omega (arith, i, ap (λ (k : ℕ). last_of (count_words k counted)) (order_context kind e))

  -- a good record stays good
  pub after_good : count < 16 → record_good r ≡ true → record_good (record_after kind count body r) ≡ true
  after_good c g =
      let p : Good counted = count_good_lem (order_of kind) count r l (order_small kind) c (good_of r l g) in
      by_kind record_good true (λ e. of_good _ (hold_good body counted whole (ok e) (λ z. began e z) p)) (of_good counted p)
