-- A field and its things. The idea: what a good record holds of a field is what its things make of it (`field_held_lem`): a whole field is its one thing, and
-- the state word is that of its user bits and indicators, bit by bit, since it has no other bit (`held_silent`).
use Rattle.words.proofs.Kit.{◌≡◌, refl, sym, ap, ◌∙◌, Bool, true, false, ⊎_elim, List, [], ◌∷◌, ℕ, ◌+◌, ◌-◌, ◌≤◌, ◌<◌, arith}
use Rattle.words.proofs.Kit.{leb, ne_eqb, lt-ltb, le-ltb, le-leb, lt-leb, eqb, length, get_or}
use mathlib.Core.Option.{Option, none, some}
use Rattle.words.specs.Tests.{pick, when, both}
use Rattle.words.specs.Word.{has}
use Rattle.words.specs.Part.{part}
use Rattle.words.proofs.Cases.{true_or_false, le_or_lt, same_or_not, both_no, both_right}
use Rattle.words.proofs.BitLaws.{has_low, word_same, marked_small, marked_has, marked_same}
use Rattle.words.proofs.PartLaws.{part_length}
use Rattle.record.specs.Layout.{head_words, slot_words, record_words, held_of, slots_of, slot_of}
use Rattle.record.specs.State.{state_good}
use Rattle.record.specs.Good.{held_rule, Good}
use Rattle.record.proofs.StateLaws.{held_word, held_silent, held_enabled, spoken_none, spoken_not}
use Rattle.record.proofs.AfterLaws.{state_word}
use Rattle.fields.specs.Rules.{rule_of}
use Rattle.demands.specs.Things.{Thing, whole_field, state_indicator, user_bits, replaced, is_there, word_by, state_bit, state_of, field_by}
use Rattle.demands.specs.Right.{held_in}
use Rattle.demands.proofs.RecordLaws.{kept_same, state_slotted}

-- ---- things that are the same make the same field

pub field_same : (b : ℕ) (f g : Thing → Option (List ℕ)) → ((x : Thing) → f x ≡ g x) → field_by b f ≡ field_by b g
unfolding state_of
field_same b f g e =
    let word = marked_same 32 (state_bit f) (state_bit g) (λ i l. rw (e user_bits, e (state_indicator (i + 12)), e (state_indicator i))) in
    rw (e user_bits, e (whole_field b), word)

-- the value of the field of bit b that a record holds, if it does
abbrev pub field_held : ℕ → List ℕ → Option (List ℕ)
field_held b r = pick (has (held_of r) b) (some (slot_of b r)) none

pub there_pick : {A : Type 0} (t : Bool) (a : A) → is_there (pick t (some a) none) ≡ t
there_pick true a = refl
there_pick false a = refl

-- the value of an indicator: e is whether it is enabled, and v its value bit, which is not set without the enable
lit : (e v : Bool) → (v ≡ true → e ≡ true) → eqb (word_by (pick e (some (when v 1 ∷ [])) none)) 1 ≡ v
lit true true f = refl
lit true false f = refl
lit false true f = f refl
lit false false f = refl

-- ---- what a good record holds

module _ (r : List ℕ) (l : length r ≡ record_words) (g : Good r) where
  abbrev held : Thing → Option (List ℕ)
  held x = held_in x r

  abbrev state : ℕ
  state = get_or (slot_of 16 r) 0 0

  -- a field that is held, but for 16, is replaced whole
  whole_there : (b : ℕ) → (b ≡ 16 → ⊥) → both (replaced b) (has (held_of r) b) ≡ has (held_of r) b
  whole_there b n =
      ⊎_elim (λ (h : has (held_of r) b ≡ true). rw (h, kept_same b ∙ g.bits b h, ne_eqb b 16 n))
      (λ (h : has (held_of r) b ≡ false). rw (h, both_no (replaced b))) (true_or_false (has (held_of r) b))

  -- the slot of field 16 is one word
  slot_word : slot_of 16 r ≡ get_or (slot_of 16 r) 0 0 ∷ []
  unfolding slot_of slots_of
  slot_word =
      let w = state_word (part head_words slot_words r) (part_length head_words slot_words r (omega (arith, l))) in
      w ∙ sym (ap (λ (ws : List ℕ). get_or ws 0 0 ∷ []) w)

  module _ (h : has (held_of r) 16 ≡ true) where
    good_state : state_good state ≡ true
    unfolding held_rule
    good_state = both_right (rule_of 16 (slot_of 16 r)) _ (g.obeys 16 state_slotted h)

    -- bit by bit
    user_bit : (i : ℕ) → i < 8 → has (word_by (held user_bits)) i ≡ has state i
    user_bit i s = rw h (has_low state 8 i s)

    value_bit : (i : ℕ) → 14 ≤ i → i < 20 → state_bit held i ≡ has state i
    value_bit i m s =
        let back : i + 12 - 12 ≡ i = omega arith in
        rw (le-ltb i 8 (omega arith), le-leb 26 (i + 12) (omega arith), le-leb (i + 12) 31 (omega arith), h, back)
        (lit (has state (i + 12)) (has state i) (held_enabled state good_state i m s))

    enable_bit : (i : ℕ) → 26 ≤ i → i < 32 → state_bit held i ≡ has state i
    enable_bit i m s =
        rw (le-ltb i 8 (omega arith), lt-leb (i + 12) 31 (omega arith), both_no (leb 26 (i + 12)), le-leb 26 i m, le-leb i 31 (omega arith), h)
        (there_pick (has state i) _)

    -- no word that can be held has another
    low_bit : (i : ℕ) → 8 ≤ i → i < 14 → state_bit held i ≡ has state i
    low_bit i m s =
        rw (le-ltb i 8 m, lt-leb 26 (i + 12) (omega arith), lt-leb 26 i (omega arith))
        (sym (held_silent state good_state i (omega arith) (spoken_none state i m s)))

    high_bit : (i : ℕ) → 20 ≤ i → i < 26 → state_bit held i ≡ has state i
    high_bit i m s =
        rw (le-ltb i 8 (omega arith), lt-leb (i + 12) 31 (omega arith), both_no (leb 26 (i + 12)), lt-leb 26 i s)
        (sym (held_silent state good_state i (omega arith) (spoken_not state i m s)))

    each_bit : (i : ℕ) → i < 32 → state_bit held i ≡ has state i
    each_bit i s =
        ⊎_elim
        (λ (a : 14 ≤ i).
        ⊎_elim
        (λ (b : 20 ≤ i). ⊎_elim (λ (c : 26 ≤ i). enable_bit i c s) (λ (c : i < 26). high_bit i b c) (le_or_lt 26 i))
        (λ (b : i < 20). value_bit i a b) (le_or_lt 20 i))
        (λ (a : i < 14). ⊎_elim (λ (b : 8 ≤ i). low_bit i b a) (λ (b : i < 8). rw (lt-ltb i 8 b) (user_bit i b)) (le_or_lt 8 i))
        (le_or_lt 14 i)

    state_is : state_of held ≡ state
    unfolding state_of
    state_is =
        word_same 32 _ state (marked_small 32 _) (held_word state good_state) (λ i s. marked_has 32 (state_bit held) i s ∙ each_bit i s)

    slot_is : slot_of 16 r ≡ state_of held ∷ []
    slot_is = slot_word ∙ ap (λ (n : ℕ). n ∷ []) (sym state_is)

  pub field_held_lem : (b : ℕ) → field_held b r ≡ field_by b (λ x. held_in x r)
  field_held_lem b =
      ⊎_elim
      (λ (e : b ≡ 16).
      rw (e)
      (⊎_elim (λ (h : has (held_of r) 16 ≡ true). rw h (ap some (slot_is h))) (λ (h : has (held_of r) 16 ≡ false). rw h)
      (true_or_false (has (held_of r) 16))))
      (λ (n : b ≡ 16 → ⊥).
      ap (λ (t : Bool). pick t (some (slot_of b r)) none) (sym (whole_there b n))
      ∙ sym (ap (λ (t : Bool). pick t (pick (is_there (held user_bits)) (some (state_of held ∷ [])) none) (held (whole_field b))) (ne_eqb b 16 n)))
      (same_or_not b 16)
