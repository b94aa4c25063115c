-- The sizes of fields. The idea: what holds of the rows at every bit is one test that computes, and `words_of` looks only at the first two words, and
-- at none from bit 10 up. A bit is in one group at most, so the words of any set bits are the counts of ones in the groups, each times its words, by one
-- induction over the width (`size_grouped`, `sizes_counted`).
use Rattle.words.proofs.Kit.{◌≡◌, refl, sym, ap, ◌∙◌, Bool, true, false, not, ⊎_elim, List, [], ◌∷◌, ◌++◌, ℕ, zero, suc, ◌+◌, ◌-◌, ◌*◌, ◌/◌, ◌%◌, ◌^◌, ◌≤◌}
use Rattle.words.proofs.Kit.{◌<◌, arith, le-ltb, ne_eqb, eqb-true, not-true, eqb, ltb, leb, length}
use native.Mathlib.Nat.{mul-le-mul_left, zero-add, add-zero, mod-lt, mod-eq_of_lt, lt_of_le_of_lt}
use borrow.Author.Tests.{leb-true}
use lib.Bits.{bit_and, and_le_r}
use lib.Count.{ones, ones_cat, ones-le}
use lib.Pow as Pow
use lib.Pow.{pow_pos}
use Rattle.words.specs.Tests.{pick, when, both}
use Rattle.words.specs.Word.{has}
use Rattle.words.specs.SetBits.{bits_of, above}
use Rattle.words.specs.All.{all}
use Rattle.words.proofs.Cases.{true_or_false, both_left, both_right, both_no}
use Rattle.words.proofs.AllLaws.{all_at}
use Rattle.words.proofs.BitLaws.{has_and, has_low, word_same}
use Rattle.words.proofs.SetBitLaws.{bits_zero, bits_yes, bits_no, bits_parts, bits_counted, bits_few, bits_none, has_above}
use Rattle.fields.specs.Sizes.{field_size, sizes_of, words_of}
use Rattle.fields.specs.Layout.{carried}
use Rattle.fields.specs.inner.Groups.{one_word, two_words, eleven_words, thirteen_words, from_fifteen, last_five, ten_alone}

small : ℕ → Bool
small b = leb (field_size b) 13

-- no field of fixed size is longer than 13 words
pub size_small : (b : ℕ) → b < 32 → field_size b ≤ 13
unfolding small field_size all
size_small b h = leb-true (field_size b) 13 (all_at small 32 b h refl)

some : ℕ → Bool
some b = pick (ltb b 10) true (leb 1 (field_size b))

-- each field of bits 30 to 10 has a word
pub size_some : (b : ℕ) → 10 ≤ b → b < 31 → 1 ≤ field_size b
unfolding some field_size all
size_some b h g = leb-true 1 (field_size b) (rw (le-ltb b 10 h) at (all_at some 31 b g refl))

-- bits below 10 have none of fixed size
none : ℕ → Bool
none b = eqb (field_size b) 0

pub size_none : (b : ℕ) → b < 10 → field_size b ≡ 0
unfolding none field_size all
size_none b h = eqb-true (field_size b) 0 (all_at none 10 b h refl)

-- ---- fields of fixed size

-- document 01: "Bits 30 to 10 are 21 fields of 74 words together"; an indicator with every bit of 30 to 0 set carries them all
pub fixed_fields : (length (above 9 (carried (2 ^ 31 - 1))) ≡ 21) × (sizes_of (above 9 (carried (2 ^ 31 - 1))) ≡ 74)
unfolding bits_of above field_size sizes_of
fixed_fields = (refl, refl)

-- from bit 10 up a field has the words of its row, whatever it holds
pub words_fixed : (b : ℕ) (ws : List ℕ) → 10 ≤ b → words_of b ws ≡ field_size b
unfolding words_of
words_fixed b ws h = rw (ne_eqb b 9 (λ e. omega arith), ne_eqb b 8 (λ e. omega arith))

-- below bit 8 it has none
pub words_none : (b : ℕ) (ws : List ℕ) → b < 8 → words_of b ws ≡ 0
unfolding words_of
words_none b ws h = rw (ne_eqb b 9 (λ e. omega arith), ne_eqb b 8 (λ e. omega arith)) (size_none b (omega arith))

pub sizes_none : sizes_of [] ≡ 0
unfolding sizes_of
sizes_none = refl

pub sizes_more : (b : ℕ) (bs : List ℕ) → sizes_of (b ∷ bs) ≡ field_size b + sizes_of bs
unfolding sizes_of
sizes_more b bs = refl

pub sizes_append : (fs bs : List ℕ) → sizes_of (fs ++ bs) ≡ sizes_of fs + sizes_of bs
unfolding sizes_of
sizes_append [] bs = sym (zero-add (sizes_of bs))
sizes_append (f ∷ fs) bs = omega (arith, sizes_append fs bs)

-- ---- the groups of document 01, and counts of ones

-- the words of a bit, as a program asks for its group: every bit from 15 up is in the first two; and as a sum over the groups
abbrev asked_group : ℕ → ℕ
asked_group b =
    pick (ltb 14 b) (1 + two_words / 2 ^ b % 2)
    (pick (has eleven_words b) 11
    (pick (has thirteen_words b) 13
    (ten_alone / 2 ^ b % 2)))

abbrev all_groups : ℕ → ℕ
all_groups b = when (has one_word b) 1 + 2 * when (has two_words b) 1 + 11 * when (has eleven_words b) 1 + 13 * when (has thirteen_words b) 1

grouped : ℕ → Bool
grouped b = both (eqb (field_size b) (asked_group b)) (eqb (field_size b) (all_groups b))

-- the groups are document 01's rows
rows_grouped : all 31 grouped ≡ true
unfolding grouped field_size all
rows_grouped = refl

pub size_asked : (b : ℕ) → b < 31
    → field_size b
    ≡ pick (ltb 14 b) (1 + two_words / 2 ^ b % 2) (pick (has eleven_words b) 11 (pick (has thirteen_words b) 13 (ten_alone / 2 ^ b % 2)))
unfolding grouped
size_asked b h = eqb-true _ _ (both_left _ (eqb (field_size b) (all_groups b)) (all_at grouped 31 b h rows_grouped))

pub size_grouped : (b : ℕ) → b < 31
    → field_size b ≡ when (has one_word b) 1 + 2 * when (has two_words b) 1 + 11 * when (has eleven_words b) 1 + 13 * when (has thirteen_words b) 1
unfolding grouped
size_grouped b h = eqb-true _ _ (both_right (eqb (field_size b) (asked_group b)) _ (all_at grouped 31 b h rows_grouped))

-- one bit more of a group, where n has it and where not
counted_step : (t : Bool) (k : ℕ) (l : List ℕ) → length (pick t (k ∷ l) l) ≡ when t 1 + length l
counted_step true k l = omega arith
counted_step false k l = omega arith

counted_yes : (k n g : ℕ) → has n k ≡ true → length (bits_of (suc k) (bit_and n g)) ≡ when (has g k) 1 + length (bits_of k (bit_and n g))
unfolding bits_of
counted_yes k n g e = rw (has_and n g k, e) (counted_step (has g k) k (bits_of k (bit_and n g)))

counted_no : (k n g : ℕ) → has n k ≡ false → length (bits_of (suc k) (bit_and n g)) ≡ length (bits_of k (bit_and n g))
counted_no k n g e = ap length (bits_no k (bit_and n g) (has_and n g k ∙ rw e))

pub sizes_counted : (k n : ℕ) → k ≤ 31
    → sizes_of (bits_of k n) ≡ length (bits_of k (bit_and n one_word)) + 2 * length (bits_of k (bit_and n two_words))
    + 11 * length (bits_of k (bit_and n eleven_words)) + 13 * length (bits_of k (bit_and n thirteen_words))
unfolding bits_of
sizes_counted zero n h = sizes_none
sizes_counted (suc k) n h =
    let lower = sizes_counted k n (omega arith) in
    ⊎_elim
    (λ (y : has n k ≡ true).
    omega (
      arith,
      lower,
      ap sizes_of (bits_yes k n y),
      sizes_more k (bits_of k n),
      size_grouped k (omega arith),
      counted_yes k n one_word y,
      counted_yes k n two_words y,
      counted_yes k n eleven_words y,
      counted_yes k n thirteen_words y,
    ))
    (λ (y : has n k ≡ false).
    omega (
      arith,
      lower,
      ap sizes_of (bits_no k n y),
      counted_no k n one_word y,
      counted_no k n two_words y,
      counted_no k n eleven_words y,
      counted_no k n thirteen_words y,
    ))
    (true_or_false (has n k))

-- as a program counts them
pub group_ones : (n g : ℕ) → g < 2 ^ 31 → ones (bit_and n g) ≡ length (bits_of 31 (bit_and n g))
group_ones n g h = sym (bits_counted 31 (bit_and n g) ∙ ap ones (mod-eq_of_lt (lt_of_le_of_lt (and_le_r n g) h)))

pub group_few : (n g : ℕ) → g < 2 ^ 31 → ones (bit_and n g) ≤ 31
group_few n g h = rw (group_ones n g h) (bits_few 31 (bit_and n g))

-- the bits of the first two groups are those from 15 up, and 10
apart : ℕ → Bool
apart b = eqb (when (has from_fifteen b) 1 + when (has ten_alone b) 1) (when (has one_word b) 1 + when (has two_words b) 1)

first_two : (b : ℕ) → b < 31 → when (has from_fifteen b) 1 + when (has ten_alone b) 1 ≡ when (has one_word b) 1 + when (has two_words b) 1
unfolding apart all
first_two b h = eqb-true _ _ (all_at apart 31 b h refl)

high_joined : (k n : ℕ) → k ≤ 31
    → length (bits_of k (bit_and n from_fifteen)) + length (bits_of k (bit_and n ten_alone))
    ≡ length (bits_of k (bit_and n one_word)) + length (bits_of k (bit_and n two_words))
unfolding bits_of
high_joined zero n h = refl
high_joined (suc k) n h =
    let lower = high_joined k n (omega arith) in
    ⊎_elim
    (λ (y : has n k ≡ true).
    omega (
      arith,
      lower,
      first_two k (omega arith),
      counted_yes k n from_fifteen y,
      counted_yes k n ten_alone y,
      counted_yes k n one_word y,
      counted_yes k n two_words y,
    ))
    (λ (y : has n k ≡ false).
    omega (arith, lower, counted_no k n from_fifteen y, counted_no k n ten_alone y, counted_no k n one_word y, counted_no k n two_words y))
    (true_or_false (has n k))

-- a group that has no bit below 15, counted from there on
abbrev Above15 : ℕ → Type 0
Above15 g = (b : ℕ) → b < 15 → has g b ≡ false

module _ (n g : ℕ) (none : Above15 g) where
  low_zero : bit_and n g % 2 ^ 15 ≡ 0
  low_zero =
      word_same 15 _ 0 (mod-lt (bit_and n g) (pow_pos 15)) (pow_pos 15)
      (λ b l.
      has_low (bit_and n g) 15 b l ∙ has_and n g b ∙ ap (both (has n b)) (none b l) ∙ both_no (has n b) ∙ sym (has_above 0 b (pow_pos b)))

  high_whole : bit_and n g / 2 ^ 15 * 2 ^ 15 ≡ bit_and n g
  high_whole = omega (arith, Pow.split (bit_and n g) 15, low_zero)

  high_down : ones (bit_and n g / 2 ^ 15) ≡ ones (bit_and n g)
  unfolding ones
  high_down =
      let whole : bit_and n g ≡ bit_and n g / 2 ^ 15 * 2 ^ 15 + 0 = omega (arith, high_whole) in
      sym (ap ones whole ∙ ones_cat 15 (bit_and n g / 2 ^ 15) 0 (pow_pos 15) ∙ add-zero (ones (bit_and n g / 2 ^ 15)))

  pub high_beside : (r : ℕ) → r < 2 ^ 15 → ones (bit_and n g + r) ≡ ones (bit_and n g) + ones r
  high_beside r h =
      ap (λ (m : ℕ). ones (m + r)) (sym high_whole) ∙ ones_cat 15 (bit_and n g / 2 ^ 15) r h ∙ ap (λ (m : ℕ). m + ones r) high_down

none_below : ℕ → ℕ → Bool
none_below g b = not (has g b)

fifteen_above : Above15 from_fifteen
unfolding none_below all
fifteen_above b h = not-true (has from_fifteen b) (all_at (none_below from_fifteen) 15 b h refl)

two_above : Above15 two_words
unfolding none_below all
two_above b h = not-true (has two_words b) (all_at (none_below two_words) 15 b h refl)

-- as a program counts the fields from bit 15 up: the number that is counted fits its word, and so does the count, whatever the groups
module _ (n g h : ℕ) (a : g < 2 ^ 31) (b : h < 2 ^ 31) where
  pub high_fits : bit_and n g + bit_and n h / 2 ^ 15 < 2 ^ 32
  high_fits = omega (arith, and_le_r n g, and_le_r n h)

  pub count_fits : ones (bit_and n g + bit_and n h / 2 ^ 15) < 2 ^ 64
  count_fits = omega (arith, ones-le 32 (bit_and n g + bit_and n h / 2 ^ 15) high_fits)

module _ (n : ℕ) where
  again_small : bit_and n two_words / 2 ^ 15 < 2 ^ 15
  again_small = omega (arith, and_le_r n two_words)

  pub high_ones : ones (bit_and n from_fifteen + bit_and n two_words / 2 ^ 15)
      ≡ length (bits_of 31 (bit_and n from_fifteen)) + length (bits_of 31 (bit_and n two_words))
  high_ones =
      omega (
        arith,
        high_beside n from_fifteen fifteen_above (bit_and n two_words / 2 ^ 15) again_small,
        high_down n two_words two_above,
        group_ones n from_fifteen (omega arith),
        group_ones n two_words (omega arith),
      )

  pub high_few : ones (bit_and n from_fifteen + bit_and n two_words / 2 ^ 15) ≤ 62
  high_few = omega (arith, high_ones, bits_few 31 (bit_and n from_fifteen), bits_few 31 (bit_and n two_words))

-- fewer bits take fewer words
pub sizes_within : (k n m : ℕ) → ((b : ℕ) → b < k → has n b ≡ true → has m b ≡ true) → sizes_of (bits_of k n) ≤ sizes_of (bits_of k m)
sizes_within zero n m w = omega (arith, ap sizes_of (bits_zero n), ap sizes_of (bits_zero m))
sizes_within (suc k) n m w =
    let rest = sizes_within k n m (λ b h. w b (omega arith)) in
    let more : (x : ℕ) → has x k ≡ true → sizes_of (bits_of (suc k) x) ≡ field_size k + sizes_of (bits_of k x) = λ x y. ap sizes_of (bits_yes k x y)
    ∙ sizes_more k (bits_of k x) in
    ⊎_elim (λ (y : has n k ≡ true). omega (arith, rest, more n y, more m (w k (omega arith) y)))
    (λ (y : has n k ≡ false).
    ⊎_elim (λ (z : has m k ≡ true). omega (arith, rest, ap sizes_of (bits_no k n y), more m z))
    (λ (z : has m k ≡ false). omega (arith, rest, ap sizes_of (bits_no k n y), ap sizes_of (bits_no k m z))) (true_or_false (has m k)))
    (true_or_false (has n k))

every_bit : (b : ℕ) → b < 31 → has (2 ^ 31 - 1) b ≡ true
unfolding all
every_bit b h = all_at (has (2 ^ 31 - 1)) 31 b h refl

every_size : sizes_of (bits_of 31 (2 ^ 31 - 1)) ≡ 74
unfolding bits_of sizes_of field_size
every_size = refl

pub sizes_most : (n : ℕ) → sizes_of (bits_of 31 n) ≤ 74
sizes_most n = omega (arith, sizes_within 31 n (2 ^ 31 - 1) (λ b h y. every_bit b h), every_size)

-- those of the bits up to `first` and above `past`
pub sizes_between : (n first past : ℕ) → past ≤ first → first ≤ 30 → sizes_of (above past (bits_of (suc first) n)) ≤ 74
sizes_between n first past h g =
    omega (
      arith,
      ap sizes_of (bits_parts 31 n first (omega arith)),
      sizes_append (above first (bits_of 31 n)) (bits_of (suc first) n),
      ap sizes_of (bits_parts (suc first) n past (omega arith)),
      sizes_append (above past (bits_of (suc first) n)) (bits_of (suc past) n),
      sizes_most n,
    )

-- 10 and the groups of long fields are among the last five
within_last : ℕ → ℕ → Bool
within_last g b = pick (has g b) (has last_five b) true

abbrev Last : ℕ → Type 0
Last g = (b : ℕ) → b < 31 → has g b ≡ true → has last_five b ≡ true

ten_last : Last ten_alone
unfolding within_last all
ten_last b h e = rw e at (all_at (within_last ten_alone) 31 b h refl)

eleven_last : Last eleven_words
unfolding within_last all
eleven_last b h e = rw e at (all_at (within_last eleven_words) 31 b h refl)

thirteen_last : Last thirteen_words
unfolding within_last all
thirteen_last b h e = rw e at (all_at (within_last thirteen_words) 31 b h refl)

-- as a program adds them: s is the words of the fields from bit 15 up, a, c and d how many there are of 10 and of the others
module _ (n s : ℕ) (e : s ≡ length (bits_of 31 (bit_and n from_fifteen)) + length (bits_of 31 (bit_and n two_words))) where
  module _ (none : bit_and n last_five ≡ 0) where
    outside : (g b : ℕ) → Last g → b < 31 → both (has n b) (has g b) ≡ false
    outside g b w l =
        ⊎_elim
        (λ (y : has g b ≡ true).
        let f : both (has n b) (has last_five b) ≡ false =
        sym (has_and n last_five b) ∙ ap (λ (m : ℕ). has m b) none ∙ has_above 0 b (pow_pos b) in
        ap (both (has n b)) (y ∙ sym (w b l y)) ∙ f)
        (λ (z : has g b ≡ false). rw z (both_no (has n b))) (true_or_false (has g b))

    none_last : (g : ℕ) → g < 2 ^ 31 → Last g → length (bits_of 31 (bit_and n g)) ≡ 0
    none_last g h w =
        let gone : bit_and n g ≡ 0 = word_same 31 (bit_and n g) 0 (omega (arith, and_le_r n g)) (omega arith)
        (λ b l. has_and n g b ∙ outside g b w l ∙ sym (has_above 0 b (pow_pos b))) in
        ap (λ (m : ℕ). length (bits_of 31 m)) gone ∙ ap length (bits_none 31 0 (omega arith))

    pub high_sizes : s ≡ sizes_of (bits_of 31 n)
    high_sizes =
        omega (
          arith,
          sizes_counted 31 n (omega arith),
          high_joined 31 n (omega arith),
          none_last ten_alone (omega arith) ten_last,
          none_last eleven_words (omega arith) eleven_last,
          none_last thirteen_words (omega arith) thirteen_last,
        )

    pub high_most : s ≤ 74
    high_most = omega (arith, high_sizes, sizes_most n)

  module _ (a c d : ℕ) (f : a ≡ length (bits_of 31 (bit_and n ten_alone))) (g : c ≡ length (bits_of 31 (bit_and n eleven_words)))
      (h : d ≡ length (bits_of 31 (bit_and n thirteen_words))) where
    pub groups_sizes : s + a + 11 * c + 13 * d ≡ sizes_of (bits_of 31 n)
    groups_sizes = omega (arith, sizes_counted 31 n (omega arith), high_joined 31 n (omega arith))

    pub groups_most : s + a + 11 * c + 13 * d ≤ 74
    groups_most = omega (arith, groups_sizes, sizes_most n)

-- ---- fields that say their sizes themselves

-- an asynchronous list that may count twice
pub twice_at_most : (n k : ℕ) → k ≤ 1 → n * (1 + k) ≤ n * 2
twice_at_most n k h = mul-le-mul_left n (omega arith)
