-- The parts of a packet as fifteen words. The idea: a part is a word of its own, or a flag that is the lowest bit of one, or the fraction, which is two;
-- so what the program computes of the words is what the definitions say of the parts.
use Rattle.std.specs.Prelude.{Result}
use Rattle.std.specs.Int.{from_bool}
use Rattle.words.proofs.Kit.{◌≡◌, refl, sym, ap, ◌∙◌, Bool, true, false, List, [], ◌∷◌, ◌++◌, ⊎_elim, ℕ, ◌+◌, ◌*◌, ◌/◌, ◌%◌, ◌^◌, ◌≤◌, ◌<◌, arith}
use Rattle.words.proofs.Kit.{eqb, length, take, drop, get_or}
use native.Mathlib.Nat.{div-add-mod'}
use lib.Dec.{lit<}
use lib.Pow.{high, low}
use Rattle.words.specs.Tests.{when}
use Rattle.words.specs.Word.{join}
use Rattle.words.specs.declared.refusals.Refusal.{Refusal}
use Rattle.words.specs.Listed.{on_paper}
use Rattle.words.specs.Outcome.{Meets}
use Rattle.words.specs.Laid.{Laid}
use Rattle.words.proofs.Cases.{le_or_lt}
use Rattle.packet.specs.Header.{classed, trailed}
use Rattle.packet.specs.Parts.{body_at}
use Rattle.packet.specs.declared.Parts.{Parts}
use Rattle.packet_write.specs.Write.{flag_bit, header_word, size_for, prologue_words, trailer_words, packet_words, parts_fit, write_by}
use Rattle.packet_write.specs.AsWords.{parts_in}
use Rattle.packet_write.specs.inner.Given.{HeaderFor, Layable}
use Rattle.packet_write.proofs.FitLaws.{Fits, parts_fit_lem}
use Rattle.packet_write.proofs.HeaderLaws.{header_size, header_small, classed_is, trailed_is, size_for_is}
use Rattle.packet_write.proofs.LayLaws.{prologue_length, trailer_length, laid_packet}

-- ---- parts as words, and back

low_bit : (n : ℕ) → n % 2 ≡ flag_bit (eqb (n % 2) 1)
low_bit n =
    ⊎_elim (λ (h : 1 ≤ n % 2). let e : n % 2 ≡ 1 = omega arith in rw e)
    (λ (h : n % 2 < 1). let e : n % 2 ≡ 0 = omega arith in rw e) (le_or_lt 1 (n % 2))

bit_back : (t : Bool) → eqb (from_bool t % 2) 1 ≡ t
bit_back true = refl
bit_back false = refl

-- what `write` lays out as words gives its parts again
pub parts_again : (p : Parts) (c t m : ℕ) → c ≡ from_bool p.classed → t ≡ from_bool p.trailed → m ≡ from_bool p.tsm
    → parts_in (p.kind ∷ c ∷ t ∷ m ∷ p.tsi ∷ p.tsf ∷ p.count ∷ p.identifier ∷ p.oui ∷ p.information ∷ p.code ∷ p.seconds
    ∷ p.fraction / 2 ^ 32 ∷ p.fraction % 2 ^ 32 ∷ p.trailer ∷ []) ≡ p
unfolding parts_in
parts_again p c t m e f g = rw (e, f, g, bit_back p.classed, bit_back p.trailed, bit_back p.tsm, div-add-mod' p.fraction (2 ^ 32))

-- so a packet that is written of these words is written of the parts
pub written : (survey : Bool) (pad : ℕ) (p : Parts) (q body out left : List ℕ) (at : ℕ) (r : Result ℕ Refusal) → parts_in q ≡ p
    → Meets on_paper (write_by survey pad (parts_in q) body out at) out r left → Meets on_paper (write_by survey pad p body out at) out r left
written survey pad p q body out left at r e w = rw e at w

-- ---- the fraction

module _ (q : List ℕ) (small : get_or q 13 0 < 2 ^ 32) where
  pub high_given : get_or q 12 0 ≡ (parts_in q).fraction / 2 ^ 32
  unfolding parts_in
  high_given = sym (high (get_or q 12 0) 32 small)

  pub low_given : get_or q 13 0 ≡ (parts_in q).fraction % 2 ^ 32
  unfolding parts_in
  low_given = sym (low (get_or q 12 0) 32 small)

-- ---- the header

-- the header word of the parts, as the program makes it
pub header_given : (q : List ℕ)
    → ((((((get_or q 0 0 * 2 + get_or q 1 0 % 2) * 2 + get_or q 2 0 % 2) * 4 + get_or q 3 0 % 2) * 4 + get_or q 4 0) * 4 + get_or q 5 0) * 16 + get_or q 6 0)
    * 2 ^ 16
    ≡ header_word (parts_in q) 0
unfolding parts_in header_word join
header_given q = omega (arith, low_bit (get_or q 1 0), low_bit (get_or q 2 0), low_bit (get_or q 3 0))

-- T, as the program reads it
pub flag_given : (q : List ℕ) → eqb (get_or q 2 0 % 2) 1 ≡ (parts_in q).trailed
unfolding parts_in
flag_given q = refl

-- the numbers in it are small where nothing refuses the parts
pub record Small (q : List ℕ) : Type 0 where
  pub kind : get_or q 0 0 < 6
  pub tsi : get_or q 4 0 < 4
  pub tsf : get_or q 5 0 < 4
  pub count : get_or q 6 0 < 16

module _ (q : List ℕ) (kind : (parts_in q).kind < 6) (fit : parts_fit (parts_in q) ≡ true) where
  pub small : Small q
  unfolding parts_in
  small = let f = parts_fit_lem (parts_in q) fit in record { kind = kind; tsi = f.tsi; tsf = f.tsf; count = f.count }

  -- T of a header word of these parts, with a size of 0
  trailed_given : (w : ℕ) → w ≡ header_word (parts_in q) 0 → trailed w ≡ (parts_in q).trailed
  trailed_given w e = rw e (trailed_is (parts_in q) 0 kind (parts_fit_lem (parts_in q) fit) (lit< tt))

  -- the size, as the program makes it
  pub size_given : (w n at t : ℕ) → w ≡ header_word (parts_in q) 0 → at ≡ body_at w → t ≡ when (eqb (get_or q 2 0 % 2) 1) 1 → at + n + t
      ≡ size_for (parts_in q) n
  unfolding size_for
  size_given w n at t e a f =
      let there : t ≡ when (trailed w) 1 = f ∙ ap (λ (b : Bool). when b 1) (flag_given q ∙ sym (trailed_given w e)) in
      rw (a, there, e)

-- ---- a packet that may be laid, by its header word with a size of 0, and its size

module _ (pad : ℕ) (q body out : List ℕ) (at w size : ℕ) (may : Layable pad (parts_in q) body (length out) at) (e : w ≡ header_word (parts_in q) 0)
    (s : size ≡ size_for (parts_in q) (length body)) where
  fits : Fits (parts_in q)
  fits = parts_fit_lem (parts_in q) may.fit

  with_size : w + size ≡ header_word (parts_in q) (size_for (parts_in q) (length body))
  with_size = rw (e, s) (sym (header_size (parts_in q) (size_for (parts_in q) (length body))))

  pub sum_small : w + size < 2 ^ 32
  sum_small = omega (arith, e, s, may.small, header_small (parts_in q) may.kind fits)

  classed_given : classed (w + size) ≡ (parts_in q).classed
  classed_given = rw with_size (classed_is (parts_in q) (size_for (parts_in q) (length body)) may.kind fits may.small)

  pub headed : length q ≡ 15 → HeaderFor (w + size) q
  headed long =
      record {
        long = long;
        trailer = rw with_size (trailed_is (parts_in q) (size_for (parts_in q) (length body)) may.kind fits may.small);
        class = rw classed_given fits.class;
      }

  pub pad_given : classed (w + size) ≡ true → pad < 32
  pad_given c = may.padding (rw classed_given at c)

  pub packet_room : at + (length (prologue_words pad (w + size) (parts_in q)) + length body + length (trailer_words (w + size) (parts_in q))) ≤ length out
  packet_room =
      rw with_size
      (omega (
        arith,
        prologue_length (header_word (parts_in q) (size_for (parts_in q) (length body))) (parts_in q) pad,
        trailer_length (header_word (parts_in q) (size_for (parts_in q) (length body))) (parts_in q),
        size_for_is (parts_in q) (size_for (parts_in q) (length body)) may.kind fits may.small (length body),
        may.inside,
      ))

  pub packet_laid : (left : List ℕ) (next : ℕ) → Laid out at (prologue_words pad (w + size) (parts_in q) ++ body ++ trailer_words (w + size) (parts_in q)) next
      left
      → left ≡ take at out ++ packet_words pad (parts_in q) body ++ drop (at + size) out
  packet_laid left next l = rw s (laid_packet pad (parts_in q) body out left at (w + size) next may with_size l)
