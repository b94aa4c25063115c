-- The header of a packet to be written, read again. The idea: the header is the join of its fields, so splitting it gives them back (`split_join`),
-- and a part by the numbers of its bits is one of these fields (`split_from`). So what is there of a packet does not hang on its size.
use Rattle.words.proofs.Kit.{◌≡◌, refl, sym, ap, ◌∙◌, Bool, true, false, not, List, [], ◌∷◌, ℕ, zero, suc, ◌+◌, ◌*◌, ◌/◌, ◌%◌, ◌^◌, ◌≤◌, ◌<◌, arith}
use Rattle.words.proofs.Kit.{ne_eqb, lt-ltb, le-ltb, eqb, ltb, get_or}
use lib.Dec.{lit<}
use lib.Pow.{mod-pow-add, shr-shr}
use Rattle.words.specs.Tests.{pick, when, both}
use Rattle.words.specs.Word.{has, join, split}
use Rattle.words.proofs.Cases.{true_is_false}
use Rattle.words.proofs.WordLaws.{fields_from, split_join, split_from}
use Rattle.packet.specs.declared.Parts.{Parts}
use Rattle.packet.specs.Header.{type_of, classed, trailed, tsm_of, reserved_of, tsi_of, tsf_of, count_of, size_of}
use Rattle.packet.specs.Parts.{streamed, has_seconds, has_fraction, class_at, seconds_at, fraction_at, body_at, required_of}
use Rattle.packet_write.specs.Write.{flag_bit, header_widths, header_word, size_for, flags_fit}
use Rattle.packet_write.proofs.FitLaws.{Fits}

-- ---- bits

bit_small : (t : Bool) → flag_bit t < 2
bit_small true = lit< tt
bit_small false = lit< tt

bit_set : (t : Bool) → eqb (flag_bit t) 1 ≡ t
bit_set true = refl
bit_set false = refl

-- two bits beside each other
pub two_bits : (w k : ℕ) → w / 2 ^ k % 4 ≡ w / 2 ^ (k + 1) % 2 * 2 + w / 2 ^ k % 2
two_bits w k = mod-pow-add (w / 2 ^ k) 1 1 ∙ ap (λ (n : ℕ). n % 2 * 2 + w / 2 ^ k % 2) (shr-shr w k 1)

-- T and TSM are those of the type
flags_by_type : (young t m : Bool) → pick young (not m) (not t) ≡ true → (pick young t false ≡ t) × (pick young false m ≡ m) × (pick young m t ≡ false)
flags_by_type true t true e = absurd (true_is_false (sym e))
flags_by_type true t false e = (refl, refl, refl)
flags_by_type false true m e = absurd (true_is_false (sym e))
flags_by_type false false m e = (refl, refl, refl)

reserved_clear : (young m t : Bool) → pick young m t ≡ false → pick young (0 * 2 + flag_bit m) (flag_bit t * 2 + 0) ≡ 0
reserved_clear true true t e = absurd (true_is_false e)
reserved_clear true false t e = refl
reserved_clear false m true e = absurd (true_is_false e)
reserved_clear false m false e = refl

-- ---- the header of parts that fit, with a size that fits

-- the size is the header's lowest field
pub header_size : (p : Parts) (size : ℕ) → header_word p size ≡ header_word p 0 + size
unfolding header_word join
header_size p size = omega arith

-- and has room for it
pub header_small : (p : Parts) → p.kind < 6 → Fits p → header_word p 0 < 6 * 2 ^ 28
unfolding header_word join
header_small p kind fits =
    omega (arith, kind, fits.tsi, fits.tsf, fits.count, bit_small p.tsm, bit_small p.trailed, bit_small p.classed)

module _ (p : Parts) (size : ℕ) (kind : p.kind < 6) (fits : Fits p) (small : size < 65536) where
  abbrev W : ℕ
  W = header_word p size

  abbrev values : List ℕ
  values = size ∷ p.count ∷ p.tsf ∷ p.tsi ∷ flag_bit p.tsm ∷ 0 ∷ flag_bit p.trailed ∷ flag_bit p.classed ∷ p.kind ∷ []

  header_fields : split header_widths W ≡ values
  unfolding header_word
  header_fields =
      split_join header_widths values
      (small, (fits.count, (fits.tsf, (fits.tsi, (bit_small p.tsm, (lit< tt, (bit_small p.trailed, (bit_small p.classed, (omega arith, tt)))))))))

  -- the same by the numbers of its bits
  header_bits : fields_from 0 header_widths W ≡ values
  header_bits = sym (split_from header_widths W) ∙ header_fields

  header_field : (i : ℕ) → get_or (fields_from 0 header_widths W) i 0 ≡ get_or values i 0
  header_field i = ap (λ (l : List ℕ). get_or l i 0) header_bits

  pub type_is : type_of W ≡ p.kind
  type_is = header_field 8

  pub classed_is : classed W ≡ p.classed
  classed_is = ap (λ (n : ℕ). eqb n 1) (header_field 7) ∙ bit_set p.classed

  pub tsi_is : tsi_of W ≡ p.tsi
  tsi_is = header_field 3

  pub tsf_is : tsf_of W ≡ p.tsf
  tsf_is = header_field 2

  pub count_is : count_of W ≡ p.count
  count_is = header_field 1

  high_bit : has W 26 ≡ p.trailed
  high_bit = ap (λ (n : ℕ). eqb n 1) (header_field 6) ∙ bit_set p.trailed

  low_bit : has W 24 ≡ p.tsm
  low_bit = ap (λ (n : ℕ). eqb n 1) (header_field 4) ∙ bit_set p.tsm

  by_type : (pick (ltb p.kind 4) p.trailed false ≡ p.trailed) × (pick (ltb p.kind 4) false p.tsm ≡ p.tsm)
      × (pick (ltb p.kind 4) p.tsm p.trailed ≡ false)
  unfolding flags_fit
  by_type = flags_by_type (ltb p.kind 4) p.trailed p.tsm fits.flags

  pub trailed_is : trailed W ≡ p.trailed
  unfolding trailed
  trailed_is = rw (type_is, high_bit) by_type.0

  pub tsm_is : tsm_of W ≡ p.tsm
  unfolding tsm_of
  tsm_is = rw (type_is, low_bit) by_type.1

  pub size_is : size_of W ≡ size
  unfolding split
  size_is = ap (λ (l : List ℕ). get_or l 0 0) header_fields

  -- bits 25-24 of types 0 to 3, 26-25 of types 4 and 5
  pub reserved_is : reserved_of W ≡ 0
  unfolding reserved_of
  reserved_is =
      rw (type_is, two_bits W 24, two_bits W 25, header_field 5, header_field 4, header_field 6)
      (reserved_clear (ltb p.kind 4) p.tsm p.trailed by_type.2)

-- ---- what is there of a packet does not hang on its size
module _ (p : Parts) (size : ℕ) (kind : p.kind < 6) (fits : Fits p) (small : size < 65536) where
  body_same : body_at (header_word p size) ≡ body_at (header_word p 0)
  unfolding body_at fraction_at seconds_at class_at streamed has_seconds has_fraction
  body_same =
      rw (type_is p size kind fits small, classed_is p size kind fits small, tsi_is p size kind fits small, tsf_is p size kind fits small)
      (rw (type_is p 0 kind fits (lit< tt), classed_is p 0 kind fits (lit< tt), tsi_is p 0 kind fits (lit< tt), tsf_is p 0 kind fits (lit< tt)))

  pub size_for_is : (n : ℕ) → size_for p n ≡ body_at (header_word p size) + n + when (trailed (header_word p size)) 1
  unfolding size_for
  size_for_is n = rw (body_same, trailed_is p size kind fits small, trailed_is p 0 kind fits (lit< tt))

  pub required_is : required_of (header_word p size) ≡ required_of (header_word p 0)
  unfolding required_of
  required_is =
      rw (body_same, type_is p size kind fits small, trailed_is p size kind fits small)
      (rw (type_is p 0 kind fits (lit< tt), trailed_is p 0 kind fits (lit< tt)))

-- a body has at most as many words as its packet
pub body_most : (p : Parts) (n size most : ℕ) → size ≡ size_for p n → size ≤ most → n ≤ most
unfolding size_for
body_most p n size most e h = omega arith

-- "size below the required parts": a type 4 body without its indicator word, and nothing else
short_when : (t : Bool) (a n b : ℕ) → ltb (a + n + b) (a + b + when t 1) ≡ both t (eqb n 0)
short_when true a zero b = lt-ltb (a + 0 + b) (a + b + 1) (omega arith)
short_when true a (suc n) b = le-ltb (a + suc n + b) (a + b + 1) (omega arith) ∙ sym (ne_eqb (suc n) 0 (λ e. omega arith))
short_when false a n b = le-ltb (a + n + b) (a + b + 0) (omega arith)

pub short_is : (p : Parts) (n : ℕ) → type_of (header_word p 0) ≡ p.kind → ltb (size_for p n) (required_of (header_word p 0)) ≡ both (eqb p.kind 4) (eqb n 0)
unfolding size_for required_of
short_is p n e = rw e (short_when (eqb p.kind 4) _ n _)
