-- What a field shows, read where it stands in its record. The idea: a word of the record from the slot's place on is a word of the slot, so that each return of
-- `show_in` is one of `show`; first and low are the words as the program read them, h is whether the field is held, and q whether it is a frequency.
use Rattle.words.proofs.Kit.{◌≡◌, refl, sym, ◌∙◌, Bool, true, false, not, List, ℕ, ◌+◌, ◌%◌, ◌/◌, ◌^◌, ◌≤◌, ◌<◌, arith, eqb, eqb-true, not-false, length}
use Rattle.words.proofs.Kit.{get_or}
use native.Mathlib.Nat.{add-zero}
use lib.IntN.{ℤ}
use lib.Ieee.{Float}
use lib.Signed.{mag}
use mir.Syntax.{w64}
use mir.Val.{to_z, of_z}
use Rattle.words.specs.Tests.{pick}
use Rattle.words.specs.Signed.{twos_complement}
use Rattle.words.specs.All.{all}
use Rattle.words.proofs.AllLaws.{all_at}
use Rattle.words.proofs.PartLaws.{get_d_part}
use Rattle.fields.specs.Sizes.{field_size}
use Rattle.fields.proofs.SizeLaws.{size_some}
use Rattle.record.specs.Held.{slot_at}
use Rattle.record.specs.Layout.{head_words, record_words, slot_of, is_held}
use Rattle.record.proofs.HeldWordsLaws.{slot_is, slot_most}
use Rattle.panel.specs.Values.{units_of, floor_div, over}
use Rattle.panel.specs.Readings.{Reading, frequency, level, gain, temperature, other, is_frequency, shown_of, record_shows}
use Rattle.panel.proofs.ShowLaws.{shown_frequency, shown_level, shown_gain, shown_temperature, shown_other}

-- a frequency has two words
frequency_words : (b : ℕ) → b ≤ 30 → is_frequency b ≡ true → field_size b ≡ 2
unfolding all is_frequency field_size
frequency_words b h e =
    eqb-true (field_size b) 2 (rw e at (all_at (λ i. pick (is_frequency i) (eqb (field_size i) 2) true) 31 b (omega arith) refl))

module _ (r : List ℕ) (b at : ℕ) (l : length r ≡ record_words) (lo : 10 ≤ b) (hi : b ≤ 30) (ea : at ≡ slot_at b) where
  -- the place of the slot's first word, and of those behind it; no field has more than 13 words
  pub first_fits : head_words + at < 2 ^ 64
  first_fits = omega (arith, l, slot_most r b at (field_size b) l lo hi ea refl)

  pub later_fits : (i : ℕ) → i < 13 → head_words + at + i < 2 ^ 64
  later_fits i h = omega (arith, l, slot_most r b at (field_size b) l lo hi ea refl)

  slot_word : (i : ℕ) → i < field_size b → get_or r (head_words + at + i) 0 ≡ get_or (slot_of b r) i 0
  slot_word i h = rw (slot_is r b at (field_size b) l lo hi ea refl) (sym (get_d_part (head_words + at) (field_size b) i r h))

  slot_word_first : get_or r (head_words + at) 0 ≡ get_or (slot_of b r) 0 0
  slot_word_first = rw (add-zero (head_words + at)) at (slot_word 0 (size_some b lo (omega arith)))

  module _ (h : Bool) (eh : h ≡ is_held b r) (n : not h ≡ false) (q : Bool) (e : q ≡ is_frequency b) (first : ℕ) (f : first ≡ get_or r (head_words + at) 0)
    where
      shows_here : (s : Reading) → s ≡ shown_of b (slot_of b r) → s ≡ record_shows b r
      unfolding record_shows
      shows_here s p = rw (← eh, not-false h n) p

      pub here_frequency : (low : ℕ) (z hertz : ℤ) → q ≡ true → low ≡ get_or r (head_words + at + 1) 0 → first < 2 ^ 32 → low < 2 ^ 32 → z ≡ units_of first low
          → mag z < 2 ^ 63 → hertz ≡ floor_div (to_z w64 (of_z w64 z)) 1048576 → mag hertz < 2 ^ 63
          → frequency (to_z w64 (of_z w64 hertz)) (low % 1048576) ≡ record_shows b r
      here_frequency low z hertz t g hf hl ez hz eh' hh =
          let two = frequency_words b hi (sym e ∙ t) in
          shows_here _ (shown_frequency b (slot_of b r) q e first low z hertz t (f ∙ slot_word_first) (g ∙ slot_word 1 (omega (arith, two))) hf hl ez hz eh' hh)

      module _ (m : q ≡ false) where
        pub here_level : (x : Float) → b ≡ 24 → x ≡ over 7 (twos_complement 16 (first % 65536)) → level x ≡ record_shows b r
        here_level x i d = shows_here _ (shown_level b (slot_of b r) q e m first x (f ∙ slot_word_first) i d)

        pub here_gain : (x y : Float) → b ≡ 23 → x ≡ over 7 (twos_complement 16 (first % 65536))
            → y ≡ over 7 (twos_complement 16 (first / 65536 % 65536)) → gain x y ≡ record_shows b r
        here_gain x y j d u = shows_here _ (shown_gain b (slot_of b r) q e m first x y (f ∙ slot_word_first) j d u)

        pub here_temperature : (x : Float) → b ≡ 18 → x ≡ over 6 (twos_complement 16 (first % 65536))
            → temperature x ≡ record_shows b r
        here_temperature x k d = shows_here _ (shown_temperature b (slot_of b r) q e m first x (f ∙ slot_word_first) k d)

        pub here_other : (b ≡ 24 → ⊥) → (b ≡ 23 → ⊥) → (b ≡ 18 → ⊥) → other ≡ record_shows b r
        here_other i j k = shows_here _ (shown_other b (slot_of b r) q e m i j k)
