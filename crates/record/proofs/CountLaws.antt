-- Counts. The idea: the wrapping difference, reduced modulo 16, is document 01's (`added_next`); a count is three words of a record, lent as a part, so a
-- record after a count differs in them alone.
use Rattle.words.proofs.Kit.{◌≡◌, refl, sym, ◌∙◌, Bool, true, false, ⊎_elim, List, [], ◌∷◌, ◌++◌, ℕ, ◌+◌, ◌-◌, ◌*◌, ◌/◌, ◌%◌, ◌^◌, ◌≤◌, ◌<◌, arith}
use Rattle.words.proofs.Kit.{eq-eqb, ne_eqb, eqb, length, take, drop, get_or, set}
use Rattle.words.specs.Tests.{pick, among}
use Rattle.words.proofs.Cases.{same_or_not, true_is_false}
use Rattle.words.proofs.LaidLaws.{sets_all}
use Rattle.words.proofs.PartLaws.{seen, lent_to, part_length}
use Rattle.record.specs.Layout.{record_words, counted_types, order_of, count_at, count_words, last_of}
use Rattle.record.specs.Counts.{missed_of, added_of, counted_of, count_record, added_to}

-- ---- what a packet adds to missing

pub added_first : (last count : ℕ) → last ≡ 0 → 0 ≡ added_of last count
unfolding added_of
added_first last count e = rw (eq-eqb last 0 e)

-- r is the wrapping difference of the count and last plus one
pub added_next : (last count r : ℕ) → (last ≡ 0 → ⊥) → last ≤ 16 → count < 16 → r < 2 ^ 32 → (r + last) % 2 ^ 32 ≡ count → r % 16 ≡ added_of last count
unfolding added_of missed_of
added_next last count r n h g f e = rw (ne_eqb last 0 n) (omega arith)

-- ---- the three words of a count

pub count_stored : (ws : List ℕ) (count more seen missing : ℕ) → length ws ≡ 3 → more ≡ added_of (get_or ws 2 0) count
    → seen ≡ (get_or ws 0 0 + 1) % 2 ^ 32 → missing ≡ (get_or ws 1 0 + more) % 2 ^ 32
    → set (set (set ws 0 seen) 1 missing) 2 (count + 1) ≡ counted_of count ws
unfolding counted_of
count_stored ws count more seen missing l e es em = sets_all (seen ∷ missing ∷ (count + 1) ∷ []) ws l ∙ rw (es, em, e)

-- ---- a record of which the count of order k is lent, from `at` on

module _ (k at : ℕ) (r : List ℕ) (e : at ≡ count_at k) where
  count_seen : take (at + 3 - at) (drop at r) ≡ count_words k r
  unfolding count_words
  count_seen = rw e (seen (count_at k) (count_at k + 3) 3 r refl)

  pub count_three : length r ≡ record_words → k < 4 → length (take (at + 3 - at) (drop at r)) ≡ 3
  unfolding count_words
  count_three l h = rw count_seen (part_length (count_at k) 3 r (omega arith))

  pub count_small : last_of (count_words k r) ≤ 16 → last_of (take (at + 3 - at) (drop at r)) ≤ 16
  count_small h = rw count_seen h

  module _ (count : ℕ) where
    pub count_adds : (more : ℕ) → more ≡ added_of (last_of (take (at + 3 - at) (drop at r))) count → more ≡ added_to k count r
    unfolding added_to
    count_adds more m = rw count_seen at m

    pub count_lent : (last : List ℕ) → last ≡ counted_of count (take (at + 3 - at) (drop at r))
        → take at r ++ (last ++ drop (at + 3 - at) (drop at r)) ≡ count_record k count r
    unfolding count_record count_words
    count_lent last f = rw (← e) (lent_to at (at + 3) 3 (counted_of count) last r refl f)

-- ---- the types that are counted

-- a number is one of four, or none of them
pub by_types : (C : ℕ → Type 0) → C 1 → C 3 → C 4 → C 5 → (kind : ℕ) → among kind counted_types ≡ true → C kind
by_types C x y z w kind e =
    ⊎_elim (λ (h : kind ≡ 1). rw h x)
    (λ h. ⊎_elim (λ (i : kind ≡ 3). rw i y)
    (λ i. ⊎_elim (λ (j : kind ≡ 4). rw j z)
    (λ j. ⊎_elim (λ (k : kind ≡ 5). rw k w)
    (λ k.
    let n : among kind counted_types ≡ false = rw (ne_eqb kind 1 h, ne_eqb kind 3 i, ne_eqb kind 4 j, ne_eqb kind 5 k) in
    absurd (true_is_false (sym e ∙ n)))
    (same_or_not kind 5)) (same_or_not kind 4)) (same_or_not kind 3)) (same_or_not kind 1)

-- their order, by the square
pub type_square : (kind : ℕ) → among kind counted_types ≡ true → kind * kind ≤ 25
type_square = by_types (λ n. n * n ≤ 25) (omega arith) (omega arith) (omega arith) (omega arith)

pub type_order : (kind : ℕ) → among kind counted_types ≡ true → kind * kind / 8 ≡ order_of kind
unfolding order_of
type_order = by_types (λ n. n * n / 8 ≡ order_of n) refl refl refl refl

-- those other than 4
abbrev data_kinds : List ℕ
data_kinds = 1 ∷ 3 ∷ 5 ∷ []

pub data_counted : (kind : ℕ) → among kind data_kinds ≡ true → among kind counted_types ≡ true
data_counted kind t = four_more (eqb kind 1) (eqb kind 3) (eqb kind 4) (eqb kind 5) t
  where
    four_more : (one three four five : Bool) → pick one true (pick three true (pick five true false)) ≡ true
        → pick one true (pick three true (pick four true (pick five true false))) ≡ true
    four_more true three four five t = refl
    four_more false true four five t = refl
    four_more false false true five t = refl
    four_more false false false five t = t

pub data_not : (kind : ℕ) → among kind data_kinds ≡ true → kind ≡ 4 → ⊥
data_not kind t e = true_is_false (sym t ∙ rw e)
