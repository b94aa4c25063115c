-- What is held of a state word. The idea: all is said of one bit. The bits that a word speaks of are its enables, these again 12 bits down, and the user bits
-- (`spoken_mask`, by one test over the bit that computes); a held word has at each bit what the last word that spoke of it had (`state_bit_lem`).
use Rattle.words.proofs.Kit.{◌≡◌, refl, sym, ap, ◌∙◌, Bool, true, false, not, ⊎_elim, List, ℕ, ◌+◌, ◌-◌, ◌/◌, ◌%◌, ◌^◌, ◌≤◌, ◌<◌, arith}
use Rattle.words.proofs.Kit.{eq-eqb, eqb-true, lt-ltb, le-ltb, le-leb, lt-leb, eqb, leb, ltb, get_or}
use Rattle.std.proofs.Common.{lt_of_le_of_lt, mod-lt, add_comm, pow_pos}
use lib.Bits.{bit_and, bit_or, bit_xor, and_le_l, and_le_r, or_lt, xor_lt}
use Rattle.words.specs.Tests.{pick, both}
use Rattle.words.specs.Word.{has, marked}
use Rattle.words.specs.All.{all}
use Rattle.words.proofs.Cases.{true_or_false, true_is_false, le_or_lt, both_true, agreed, pick_same}
use Rattle.words.proofs.AllLaws.{all_at}
use Rattle.words.proofs.BitLaws.{has_and, has_or, has_low, has_down, merged_bit, word_same, marked_small, marked_has}
use Rattle.words.proofs.SetBitLaws.{has_above}
use Rattle.fields.specs.Rules.{rule_of, state_rule}
use Rattle.record.specs.State.{spoken, state_after, state_good}

-- ---- the bits that a word speaks of

-- bit i, by whether the word has bit i and bit i + 12: as the definition says it, and as a program masks it
abbrev said : ℕ → Bool → Bool → Bool
said i here there = pick (ltb i 8) true (pick (leb 26 i) here (both (both (leb 14 i) (ltb i 20)) there))

abbrev masked : ℕ → Bool → Bool → Bool
masked i here there = pick (pick (both here (has 0xFC000000 i)) true (both there (has 0xFC000000 (12 + i)))) true (has 0xFF i)

agrees : Bool → Bool → ℕ → Bool
agrees here there i = pick (masked i here there) (said i here there) (not (said i here there))

all_agree : (here there : Bool) → all 32 (agrees here there) ≡ true
unfolding all agrees
all_agree true true = refl
all_agree true false = refl
all_agree false true = refl
all_agree false false = refl

module _ (w : ℕ) where
  abbrev enables : ℕ
  enables = bit_and w 0xFC000000

  mask_bit : (i : ℕ) → i < 32 → has (bit_or (bit_or (bit_and w 0xFC000000) (bit_and w 0xFC000000 / 2 ^ 12)) 0xFF) i ≡ spoken w i
  unfolding spoken agrees
  mask_bit i h =
      has_or (bit_or enables (enables / 2 ^ 12)) 0xFF i
      ∙ rw (has_or enables (enables / 2 ^ 12) i, has_down enables 12 i, has_and w 0xFC000000 i, has_and w 0xFC000000 (12 + i))
      (agreed (masked i (has w i) (has w (12 + i))) (said i (has w i) (has w (12 + i)))
      (all_at (agrees (has w i) (has w (12 + i))) 32 i h (all_agree (has w i) (has w (12 + i))))
      ∙ ap (λ (j : ℕ). said i (has w i) (has w j)) (add_comm 12 i))

  mask_small : bit_or (bit_or (bit_and w 0xFC000000) (bit_and w 0xFC000000 / 2 ^ 12)) 0xFF < 2 ^ 32
  mask_small =
      let e : enables ≤ 0xFC000000 = and_le_r w 0xFC000000 in
      or_lt 32 _ 0xFF (or_lt 32 enables (enables / 2 ^ 12) (omega (arith, e)) (omega (arith, e))) (omega arith)

  pub spoken_mask : (r : ℕ) → r ≡ bit_or (bit_or (bit_and w 0xFC000000) (bit_and w 0xFC000000 / 2 ^ 12)) 0xFF → r ≡ marked 32 (spoken w)
  spoken_mask r e = e ∙ word_same 32 _ _ mask_small (marked_small 32 (spoken w)) (λ i h. mask_bit i h ∙ sym (marked_has 32 (spoken w) i h))

  -- row by row
  pub spoken_user : (i : ℕ) → i < 8 → spoken w i ≡ true
  unfolding spoken
  spoken_user i h = rw (lt-ltb i 8 h)

  pub spoken_enable : (i : ℕ) → 26 ≤ i → spoken w i ≡ has w i
  unfolding spoken
  spoken_enable i h = rw (le-ltb i 8 (omega arith), le-leb 26 i h)

  pub spoken_value : (i : ℕ) → 14 ≤ i → i < 20 → spoken w i ≡ has w (i + 12)
  unfolding spoken
  spoken_value i h g = rw (le-ltb i 8 (omega arith), lt-leb 26 i (omega arith), le-leb 14 i h, lt-ltb i 20 g)

  pub spoken_none : (i : ℕ) → 8 ≤ i → i < 14 → spoken w i ≡ false
  unfolding spoken
  spoken_none i h g = rw (le-ltb i 8 h, lt-leb 26 i (omega arith), lt-leb 14 i g)

  pub spoken_not : (i : ℕ) → 20 ≤ i → i < 26 → spoken w i ≡ false
  unfolding spoken
  spoken_not i h g = rw (le-ltb i 8 (omega arith), lt-leb 26 i g, le-leb 14 i (omega arith), le-ltb i 20 h)

-- ---- a held word after a state word

module _ (w h : ℕ) where
  -- each bit of it is that of the new word where this speaks of it, and else stays
  pub state_bit_lem : (i : ℕ) → i < 32 → has (state_after w h) i ≡ pick (spoken w i) (has w i) (has h i)
  unfolding state_after
  state_bit_lem i l = marked_has 32 _ i l

  pub state_small : state_after w h < 2 ^ 32
  unfolding state_after
  state_small = marked_small 32 _

  -- as a program merges them: m has the bits that w speaks of
  pub state_merged : (m r : ℕ) → w < 2 ^ 32 → h < 2 ^ 32 → m ≡ marked 32 (spoken w) → r ≡ bit_xor h (bit_and (bit_xor h w) m) → r ≡ state_after w h
  state_merged m r a b e f =
      let d : bit_and (bit_xor h w) m < 2 ^ 32 = lt_of_le_of_lt (and_le_l (bit_xor h w) m) (xor_lt 32 h w b a) in
      f ∙ word_same 32 _ _ (xor_lt 32 h _ b d) state_small
      (λ i l.
      merged_bit m w h i ∙ ap (λ (t : Bool). pick t (has w i) (has h i)) (ap (λ (n : ℕ). has n i) e ∙ marked_has 32 (spoken w) i l)
      ∙ sym (state_bit_lem i l))

  -- the enable of an indicator, its value, and the user bits
  pub state_enable : (e : ℕ) → 26 ≤ e → e < 32 → has (state_after w h) e ≡ pick (has w e) true (has h e)
  state_enable e l g = state_bit_lem e g ∙ rw (spoken_enable w e l) (set_or_old (has w e))
    where
      set_or_old : (t : Bool) → pick t t (has h e) ≡ pick t true (has h e)
      set_or_old true = refl
      set_or_old false = refl

  pub state_value : (i : ℕ) → 14 ≤ i → i < 20 → has (state_after w h) i ≡ pick (has w (i + 12)) (has w i) (has h i)
  state_value i l g = state_bit_lem i (omega arith) ∙ rw (spoken_value w i l g)

  pub state_user : state_after w h % 2 ^ 8 ≡ w % 2 ^ 8
  state_user =
      word_same 8 _ _ (mod-lt _ (pow_pos 8)) (mod-lt w (pow_pos 8))
      (λ i l. has_low _ 8 i l ∙ state_bit_lem i (omega arith) ∙ rw (spoken_user w i l) (sym (has_low w 8 i l)))

-- a word that is already held changes nothing of itself
pub state_same : (h : ℕ) → h < 2 ^ 32 → state_after h h ≡ h
state_same h s = word_same 32 _ h (state_small h h) s (λ i l. state_bit_lem h h i l ∙ pick_same (spoken h i) (has h i))

-- ---- a word that can be held

module _ (w : ℕ) where
  -- as a program tests it: m has the bits that w speaks of
  pub state_tested : (m : ℕ) (r : Bool) → w < 2 ^ 32 → m ≡ marked 32 (spoken w) → r ≡ eqb (bit_and w m) w → r ≡ state_good w
  unfolding state_good
  state_tested m r s e f =
      f ∙ ap (λ (n : ℕ). eqb n w)
      (word_same 32 (bit_and w m) (state_after w 0) (lt_of_le_of_lt (and_le_l w m) s) (state_small w 0)
      (λ i l.
      has_and w m i ∙ rw (e, marked_has 32 (spoken w) i l) (only (has w i) (spoken w i))
      ∙ sym (state_bit_lem w 0 i l ∙ ap (pick (spoken w i) (has w i)) (has_above 0 i (pow_pos i)))))
    where
      only : (a b : Bool) → both a b ≡ pick b a false
      only true true = refl
      only true false = refl
      only false true = refl
      only false false = refl

  module _ (t : state_good w ≡ true) where
    pub state_again : state_after w 0 ≡ w
    unfolding state_good
    state_again = eqb-true _ w t

    pub held_word : w < 2 ^ 32
    held_word = rw state_again at (state_small w 0)

    -- it speaks of each bit that it has, and so has none that it does not speak of
    pub held_spoken : (i : ℕ) → i < 32 → has w i ≡ true → spoken w i ≡ true
    held_spoken i l y =
        ⊎_elim (λ e. e)
        (λ (n : spoken w i ≡ false).
        absurd (true_is_false (sym y ∙ ap (λ (m : ℕ). has m i) (sym state_again) ∙ state_bit_lem w 0 i l ∙ rw n (has_above 0 i (pow_pos i)))))
        (true_or_false (spoken w i))

    pub held_silent : (i : ℕ) → i < 32 → spoken w i ≡ false → has w i ≡ false
    held_silent i l n =
        ⊎_elim (λ (y : has w i ≡ true). absurd (true_is_false (sym (held_spoken i l y) ∙ n))) (λ f. f) (true_or_false (has w i))

    -- a value that it has, its enable too
    pub held_enabled : (i : ℕ) → 14 ≤ i → i < 20 → has w i ≡ true → has w (i + 12) ≡ true
    held_enabled i a b y = sym (spoken_value w i a b) ∙ held_spoken i (omega arith) y

    -- it obeys the rule of field 16: reserved bits are not spoken of
    reserved : (k : ℕ) → k + 4 ≤ 32 → ((i : ℕ) → i < 4 → spoken w (k + i) ≡ false) → w / 2 ^ k % 2 ^ 4 ≡ 0
    reserved k s f =
        word_same 4 _ 0 (mod-lt (w / 2 ^ k) (pow_pos 4)) (pow_pos 4)
        (λ i l. has_low (w / 2 ^ k) 4 i l ∙ has_down w k i ∙ held_silent (k + i) (omega arith) (f i l) ∙ sym (has_above 0 i (pow_pos i)))

    pub state_ruled : (ws : List ℕ) → get_or ws 0 0 ≡ w → rule_of 16 ws ≡ true
    unfolding rule_of state_rule
    state_ruled ws e =
        rw e
        (both_true _ _ (eq-eqb _ 0 (reserved 20 (omega arith) (λ i l. spoken_not w (20 + i) (omega arith) (omega arith))))
        (eq-eqb _ 0 (reserved 8 (omega arith) (λ i l. spoken_none w (8 + i) (omega arith) (omega arith)))))

-- the rule of field 16, bit by bit
pub reserved_zero : (k i w : ℕ) → w / 2 ^ k % 2 ^ 4 ≡ 0 → k ≤ i → i < k + 4 → has w i ≡ false
reserved_zero k i w e a b =
    let j : k + (i - k) ≡ i = omega arith in
    ap (has w) (sym j) ∙ sym (has_down w k (i - k)) ∙ sym (has_low (w / 2 ^ k) 4 (i - k) (omega arith)) ∙ ap (λ (n : ℕ). has n (i - k)) e
    ∙ has_above 0 (i - k) (pow_pos (i - k))

pub state_none : state_good 0 ≡ true
unfolding state_good state_after spoken marked
state_none = refl

-- and so is a word that speaks of each bit that it has
pub state_good_lem : (w : ℕ) → w < 2 ^ 32 → ((i : ℕ) → i < 32 → has w i ≡ true → spoken w i ≡ true) → state_good w ≡ true
unfolding state_good
state_good_lem w s f =
    eq-eqb _ w
    (word_same 32 _ w (state_small w 0) s
    (λ i l.
    state_bit_lem w 0 i l
    ∙ ⊎_elim (λ (y : has w i ≡ true). rw (f i l y))
    (λ (n : has w i ≡ false).
    ap (λ (t : Bool). pick (spoken w i) t (has 0 i)) n ∙ ap (pick (spoken w i) false) (has_above 0 i (pow_pos i)) ∙ pick_same (spoken w i) false ∙ sym n)
    (true_or_false (has w i))))

-- what is held stays such a word
module _ (w h : ℕ) (t : state_good h ≡ true) where
  abbrev next : ℕ
  next = state_after w h

  -- a bit that w does not speak of was held
  was : (i : ℕ) → i < 32 → spoken w i ≡ false → has next i ≡ true → spoken h i ≡ true
  was i l n y = held_spoken h t i l (sym (state_bit_lem w h i l ∙ rw n) ∙ y)

  value_stays : (i : ℕ) → 14 ≤ i → i < 20 → has next i ≡ true → spoken next i ≡ true
  value_stays i a b y =
      let there = spoken_value next i a b ∙ state_enable w h (i + 12) (omega arith) (omega arith) in
      ⊎_elim (λ (c : has w (i + 12) ≡ true). there ∙ rw c)
      (λ (c : has w (i + 12) ≡ false).
      there ∙ rw c (sym (spoken_value h i a b) ∙ was i (omega arith) (spoken_value w i a b ∙ c) y))
      (true_or_false (has w (i + 12)))

  -- no word speaks of a reserved bit, of over-range or of sample loss
  never : (i : ℕ) → i < 32 → ((v : ℕ) → spoken v i ≡ false) → has next i ≡ true → spoken next i ≡ true
  never i l n y = absurd (true_is_false (sym (was i l (n w) y) ∙ n h))

  bit_stays : (i : ℕ) → i < 32 → has next i ≡ true → spoken next i ≡ true
  bit_stays i l y =
      ⊎_elim
      (λ (a : 14 ≤ i).
      ⊎_elim
      (λ (b : 20 ≤ i).
      ⊎_elim (λ (c : 26 ≤ i). spoken_enable next i c ∙ y) (λ (c : i < 26). never i l (λ v. spoken_not v i b c) y) (le_or_lt 26 i))
      (λ (b : i < 20). value_stays i a b y) (le_or_lt 20 i))
      (λ (a : i < 14).
      ⊎_elim (λ (b : 8 ≤ i). never i l (λ v. spoken_none v i b a) y) (λ (b : i < 8). spoken_user next i b) (le_or_lt 8 i))
      (le_or_lt 14 i)

  pub state_stays_good : state_good (state_after w h) ≡ true
  state_stays_good = state_good_lem next (state_small w h) bit_stays
