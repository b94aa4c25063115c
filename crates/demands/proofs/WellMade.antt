-- Well-made tables and pages, clause by clause. The idea: the tests say what `WellMade` and `Good` say in facts (`well_of`, `of_well`), and these are the
-- clauses, once types stand for their order and bits for the held fields; a page by `page_exact`.
use Rattle.words.proofs.Kit.{◌≡◌, refl, sym, ap, ◌∙◌, Bool, true, false, not, ⊎_elim, List, ◌++◌, ℕ, zero, suc, ◌+◌, ◌-◌, ◌/◌, ◌%◌, ◌^◌, ◌≤◌, ◌<◌, arith}
use Rattle.words.proofs.Kit.{eqb-true, le-leb, eqb, leb, ltb, length, drop, get_or}
use borrow.Author.Tests.{leb-true}
use native.Mathlib.Nat.{mod-lt}
use lib.Pow.{pow_pos, pow_mono}
use Rattle.words.specs.Numbers.{ROOM, PAGE}
use Rattle.words.specs.Tests.{pick, among}
use Rattle.words.specs.Word.{has}
use Rattle.words.specs.Outcome.{refused, accepted, number_of, Done}
use Rattle.words.proofs.Cases.{le_or_lt, true_or_false, true_is_false, both_left, both_right, both_true, pick_true}
use Rattle.words.proofs.BitLaws.{has_low, word_same}
use Rattle.words.proofs.SetBitLaws.{has_above}
use Rattle.fields.specs.Rules.{rule_of, state_rule}
use Rattle.record.specs.Held.{slotted}
use Rattle.record.specs.State.{spoken, state_good}
use Rattle.record.specs.Layout.{held_of, counted_types, order_of, count_words, seen_of, missing_of, last_of, slot_of}
use Rattle.record.specs.Good.{held_rule, GoodCount, Good}
use Rattle.record.proofs.PacketLaws.{order_small}
use Rattle.record.proofs.SlotLaws.{slotted_not, slotted_all, held_slotted, held_but, never_held}
use Rattle.record.proofs.StateLaws.{spoken_user, spoken_enable, spoken_value, spoken_none, spoken_not, state_good_lem, reserved_zero}
use Rattle.record.proofs.StateLaws.{held_word, held_silent, held_enabled}
use Rattle.table.specs.Layout.{layout_words}
use Rattle.table.specs.Well.{well_made}
use Rattle.table.proofs.WellLaws.{well_of, of_well}
use Rattle.page.specs.Layout.{bodies_in, table_of}
use Rattle.page.specs.Good.{page_good}
use Rattle.page.specs.PutBack.{put_back_of}
use Rattle.page.proofs.Exact.{page_exact}
use Rattle.index.proofs.GoodLaws.{index_of, of_index}
use Rattle.demands.specs.Things.{persistent, passing}
use Rattle.demands.specs.WellMade.{state_in, RecordClauses, TableClauses, SavedBySome, Judged}
use Rattle.demands.proofs.RecordLaws.{bit_same, state_slotted}
use Rattle.demands.proofs.Resumed.{saves_as, saved_page}

-- ---- the held indicator

none_set : (b : ℕ) → has 0 b ≡ false
none_set b = has_above 0 b (pow_pos b)

-- no bit is set but 30 to 10, and so in numbers
low_zero : (n : ℕ) → ((b : ℕ) → has n b ≡ true → slotted b ≡ true) → n % 2 ^ 10 ≡ 0
low_zero n f =
    word_same 10 (n % 2 ^ 10) 0 (mod-lt n (pow_pos 10)) (pow_pos 10)
    (λ i h.
    has_low n 10 i h
    ∙ ⊎_elim (λ (e : has n i ≡ true). absurd (true_is_false (sym (f i e) ∙ slotted_not i h))) (λ (e : has n i ≡ false). e) (true_or_false (has n i))
    ∙ sym (none_set i))

zero_low : (n : ℕ) → n < 2 ^ 31 → n % 2 ^ 10 ≡ 0 → (b : ℕ) → has n b ≡ true → slotted b ≡ true
zero_low n s z b e =
    ⊎_elim
    (λ (low : 10 ≤ b).
    ⊎_elim
    (λ (high : 31 ≤ b). absurd (true_is_false (sym e ∙ has_above n b (omega (arith, pow_mono {i = 31} {j = b} high)))))
    (λ (high : b < 31). slotted_all b low high) (le_or_lt 31 b))
    (λ (low : b < 10). absurd (true_is_false (sym e ∙ sym (has_low n 10 b low) ∙ ap (λ (m : ℕ). has m b) z ∙ none_set b)))
    (le_or_lt 10 b)

-- ---- counts, by their types

count_clauses : (r : List ℕ) (g : RecordClauses r) (kind : ℕ) → among kind counted_types ≡ true
    → GoodCount (seen_of (count_words (order_of kind) r)) (missing_of (count_words (order_of kind) r)) (last_of (count_words (order_of kind) r))
count_clauses r g kind o = record { unstarted = g.unstarted kind o; most = most (last_of (count_words (order_of kind) r)) (g.small kind o) }
  where
    most : (last : ℕ) → ((n : ℕ) → last ≡ n + 1 → n ≤ 15) → last ≤ 16
    most zero f = omega arith
    most (suc n) f = omega (arith, f n (omega arith))

by_order : (r : List ℕ) (g : RecordClauses r) (k : ℕ) → k < 4
    → GoodCount (seen_of (count_words k r)) (missing_of (count_words k r)) (last_of (count_words k r))
unfolding order_of
by_order r g zero h = count_clauses r g 1 refl
by_order r g (suc zero) h = count_clauses r g 3 refl
by_order r g (suc (suc zero)) h = count_clauses r g 4 refl
by_order r g (suc (suc (suc zero))) h = count_clauses r g 5 refl
by_order r g (suc (suc (suc (suc k)))) h = absurd (omega arith)

-- ---- the state word

module _ (r : List ℕ) (good : state_good (state_in r) ≡ true) where
  state_unlit : (e : ℕ) → passing e ≡ true → (has (state_in r) e ≡ false) × (has (state_in r) (e - 12) ≡ false)
  state_unlit e p =
      let a : 24 ≤ e = leb-true 24 e (both_left (leb 24 e) (leb e 25) p) in
      let b : e ≤ 25 = leb-true e 25 (both_right (leb 24 e) (leb e 25) p) in (
        held_silent (state_in r) good e (omega arith) (spoken_not (state_in r) e (omega arith) (omega arith)),
        held_silent (state_in r) good (e - 12) (omega arith) (spoken_none (state_in r) (e - 12) (omega arith) (omega arith)),
      )

  state_enabled : (e : ℕ) → persistent e ≡ true → has (state_in r) (e - 12) ≡ true → has (state_in r) e ≡ true
  state_enabled e p y =
      let low : 26 ≤ e = leb-true 26 e (both_left (leb 26 e) (leb e 31) p) in
      let high : e ≤ 31 = leb-true e 31 (both_right (leb 26 e) (leb e 31) p) in
      let back : e - 12 + 12 ≡ e = omega arith in
      ap (has (state_in r)) (sym back) ∙ held_enabled (state_in r) good (e - 12) (omega arith) (omega arith) y

-- a bit that is set is neither reserved nor over-range or sample loss, and a value has its enable
module _ (r : List ℕ) (c : RecordClauses r) (h : has (held_of r) 16 ≡ true) where
  abbrev w : ℕ
  w = state_in r

  free : state_rule (slot_of 16 r) ≡ true
  unfolding rule_of
  free = c.obeys 16 refl h

  zero_from : (k i : ℕ) → w / 2 ^ k % 2 ^ 4 ≡ 0 → k ≤ i → i < k + 4 → has w i ≡ true → spoken w i ≡ true
  zero_from k i z a b y = absurd (true_is_false (sym y ∙ reserved_zero k i w z a b))

  dark : (e : ℕ) → 24 ≤ e → e ≤ 25 → (has (state_in r) e ≡ false) × (has (state_in r) (e - 12) ≡ false)
  dark e a b = c.unlit h e (both_true _ _ (le-leb 24 e a) (le-leb e 25 b))

  state_spoken : (i : ℕ) → i < 32 → has (state_in r) i ≡ true → spoken (state_in r) i ≡ true
  unfolding state_rule
  state_spoken i s y =
      let high : w / 2 ^ 20 % 2 ^ 4 ≡ 0 = eqb-true _ 0 (both_left (eqb (w / 2 ^ 20 % 2 ^ 4) 0) (eqb (w / 2 ^ 8 % 2 ^ 4) 0) free) in
      let low : w / 2 ^ 8 % 2 ^ 4 ≡ 0 = eqb-true _ 0 (both_right (eqb (w / 2 ^ 20 % 2 ^ 4) 0) (eqb (w / 2 ^ 8 % 2 ^ 4) 0) free) in
      let back : i + 12 - 12 ≡ i = omega arith in
      ⊎_elim
      (λ (a : 20 ≤ i).
      ⊎_elim (λ (b : 26 ≤ i). spoken_enable w i b ∙ y)
      (λ (b : i < 26).
      ⊎_elim (λ (d : 24 ≤ i). absurd (true_is_false (sym y ∙ (dark i d (omega arith)).0))) (λ (d : i < 24). zero_from 20 i high a d y) (le_or_lt 24 i))
      (le_or_lt 26 i))
      (λ (a : i < 20).
      ⊎_elim
      (λ (b : 14 ≤ i).
      spoken_value w i b a ∙ c.enabled h (i + 12) (both_true _ _ (le-leb 26 (i + 12) (omega arith)) (le-leb (i + 12) 31 (omega arith))) (ap (has w) back ∙ y))
      (λ (b : i < 14).
      ⊎_elim (λ (d : 12 ≤ i). absurd (true_is_false (sym y ∙ sym (ap (has w) back) ∙ (dark (i + 12) (omega arith) (omega arith)).1)))
      (λ (d : i < 12).
      ⊎_elim (λ (e : 8 ≤ i). zero_from 8 i low e d y) (λ (e : i < 8). spoken_user w i e) (le_or_lt 8 i)) (le_or_lt 12 i))
      (le_or_lt 14 i))
      (le_or_lt 20 i)

  state_clauses : state_good (state_in r) ≡ true
  state_clauses = state_good_lem w (c.word h) state_spoken

-- ---- a record

record_clauses : (r : List ℕ) → Good r → RecordClauses r
unfolding order_of held_rule
record_clauses r g =
    let state : has (held_of r) 16 ≡ true → state_good (state_in r) ≡ true = λ h. both_right (rule_of 16 (slot_of 16 r)) _ (g.obeys 16 state_slotted h) in
    record {
      unheld = λ b k n. g.unheld b (sym (bit_same b) ∙ k) n;
      meaningless = (g.small, low_zero (held_of r) (λ b e. held_slotted b (g.bits b e)));
      obeys = λ b k y. both_left (rule_of b (slot_of b r)) _ (g.obeys b (sym (bit_same b) ∙ k) y);
      never = ⊎_elim (λ h. absurd (true_is_false (sym (g.bits 22 h) ∙ never_held))) (λ h. h) (true_or_false (has (held_of r) 22));
      unlit = λ h. state_unlit r (state h);
      enabled = λ h. state_enabled r (state h);
      word = λ h. held_word (state_in r) (state h);
      unstarted = λ kind o. (g.counts (order_of kind) (order_small kind)).unstarted;
      small = λ kind o last e. omega (arith, (g.counts (order_of kind) (order_small kind)).most, e);
      choice = g.choice;
      started = g.started;
    }

clauses_good : (r : List ℕ) → RecordClauses r → Good r
unfolding order_of held_rule
clauses_good r c = record {
  bits = λ b e.
      held_but b (zero_low (held_of r) c.meaningless.0 c.meaningless.1 b e)
      (λ i. true_is_false (sym e ∙ ap (has (held_of r)) i ∙ c.never));
  small = c.meaningless.0;
  started = c.started;
  counts = by_order r c;
  choice = c.choice;
  unheld = λ b o n. c.unheld b (bit_same b ∙ o) n;
  obeys = λ b o y.
      both_true _ _ (c.obeys b (bit_same b ∙ o) y)
      (pick_true (eqb b 16) (state_good (get_or (slot_of b r) 0 0))
      (λ e. let i : b ≡ 16 = eqb-true b 16 e in rw i (state_clauses r c (rw i at y))));
}

-- ---- a table and a page

table_clauses : (t : List ℕ) → well_made t ≡ true → TableClauses t
table_clauses t e =
    let w = well_of t e in
    record {
      whole = w.whole;
      some = w.list.some;
      few = w.list.few;
      apart = w.list.apart;
      records = λ s h. record_clauses _ (w.records s h);
    }

clauses_table : (t : List ℕ) → TableClauses t → well_made t ≡ true
clauses_table t c =
    of_well t (record {
      whole = c.whole;
      list = record { some = c.some; few = c.few; apart = c.apart };
      records = λ s h. clauses_good _ (c.records s h);
    })

page_clauses : (p : List ℕ) → page_good p ≡ true → SavedBySome p
page_clauses p e = let x = (page_exact p).0 e in (x.0, table_clauses x.0 x.1, rw x.2 at (saves_as x.0 x.1))

clauses_page : (p : List ℕ) → SavedBySome p → page_good p ≡ true
clauses_page p x = let w = clauses_table x.0 x.1 in (page_exact p).1 (x.0, w, saved_page x.0 p w x.2)

-- PAGE alone comes of the first test
page_given : (good short : Bool) (d : Done ℕ (List ℕ)) → pick (not good) (refused PAGE) (pick short (refused ROOM) (accepted d)) ≡ refused PAGE → good ≡ false
page_given true true d e = let z : ROOM ≡ PAGE = ap number_of e in absurd (omega (arith, z))
page_given true false d e = let z : 0 ≡ PAGE = ap number_of e in absurd (omega (arith, z))
page_given false short d e = refl

pub judged : Judged
unfolding put_back_of
judged = record {
  tables = λ t. (table_clauses t, clauses_table t);
  pages = λ p. (page_clauses p, clauses_page p);
  contents = λ ix. (index_of ix, of_index ix);
  put_back = λ p t. (
    λ e x.
        let n = layout_words (bodies_in p) in
        let no = page_given (page_good p) (ltb (length t) n) (record { says = n; leaves = table_of p ++ drop n t }) e in
        true_is_false (sym (clauses_page p x) ∙ no),
    λ none.
        ⊎_elim (λ (g : page_good p ≡ true). absurd (none (page_clauses p g))) (λ (g : page_good p ≡ false). rw g) (true_or_false (page_good p)),
  );
}
