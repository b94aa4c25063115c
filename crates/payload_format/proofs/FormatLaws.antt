-- What is known of a format that FORMAT does not refuse, and of a number of items that COUNT does not refuse.
use Rattle.words.proofs.Kit.{◌≡◌, refl, sym, ap, ◌∙◌, Bool, true, false, not, [], ◌∷◌, ℕ, ◌+◌, ◌*◌, ◌/◌, ◌%◌, ◌≤◌, ◌<◌, arith, ltb, leb, eqb}
use Rattle.words.proofs.Kit.{ltb-false, eqb-true, not-false}
use native.Mathlib.Nat.{div-mul-le_self, le-div_iff_mul-le, mul-le-mul_right, div-add-mod', zero-mod, mod-eq_of_lt}
use borrow.Author.Tests.{leb-true}
use Rattle.words.specs.Tests.{pick, either}
use Rattle.words.specs.Outcome.{Outcome, refused, accepted, after}
use Rattle.words.specs.Refusals.{Refusals, first_given}
use Rattle.words.specs.Numbers.{FORMAT, COUNT}
use Rattle.words.specs.Word.{bits}
use Rattle.words.proofs.Cases.{both_right}
use Rattle.words.proofs.RefusalLaws.{first_passed, either_passed, first_refused, first_fine}
use Rattle.fields.specs.Format.{real_complex, item_code, event_size, channel_size, packing_size, item_size, format_ok, code_known, code_fits}
use Rattle.payload_format.specs.declared.inner.Packing.{Packing}
use Rattle.payload_format.specs.Format.{link_efficient, format_bad, carried_bits, packing_of}
use Rattle.payload_format.specs.inner.Legal.{Legal}
use Rattle.payload_format.specs.inner.Checked.{items_check}
use Rattle.bitstream.specs.Carried.{needed}
use Rattle.payload_format.specs.Count.{group_of, count_bad, words_for, needed_list, needed_of}

-- ---- the bits that carry fields
pub field_some : (first : ℕ) → 1 ≤ packing_size first
field_some first = omega arith

pub field_most : (first : ℕ) → packing_size first ≤ 64
field_most first = omega arith

-- as many whole fields as fit are at least one
pub whole_fields : (f : ℕ) → 0 < f → f ≤ 32 → f ≤ 32 / f * f
whole_fields f p l =
    let q : 1 ≤ 32 / f = (le-div_iff_mul-le p).1 (omega arith) in
    omega (arith, mul-le-mul_right f q)

-- what the packings are: the cases of `carried_bits`
record Carrying (c f : ℕ) : Type 0 where
  some : 0 < c
  most : c ≤ 32
  narrow : f ≤ 32 → f ≤ c
  wide : 32 < f → c ≡ 32

carrying : (first : ℕ) → Carrying (carried_bits first) (packing_size first)
unfolding carried_bits
carrying first = go (link_efficient first) (leb (packing_size first) 32) refl
  where
    all : Carrying 32 (packing_size first)
    all = record { some = omega arith; most = omega arith; narrow = λ l. l; wide = λ l. refl }

    go : (link low : Bool) → leb (packing_size first) 32 ≡ low
        → Carrying (pick link 32 (pick low (32 / packing_size first * packing_size first) 32)) (packing_size first)
    go true low e = all
    go false false e = all
    go false true e =
        let l : packing_size first ≤ 32 = leb-true (packing_size first) 32 e in
        let h : packing_size first ≤ 32 / packing_size first * packing_size first = whole_fields (packing_size first) (field_some first) l in
        record { some = omega (arith, h, field_some first); most = div-mul-le_self 32 (packing_size first); narrow = λ n. h; wide = λ n. absurd (omega arith) }

pub carry_some : (first : ℕ) → 0 < carried_bits first
carry_some first = (carrying first).some

pub carry_most : (first : ℕ) → carried_bits first ≤ 32
carry_most first = (carrying first).most

-- ---- where FORMAT is not given
format_ok_lem : (first : ℕ) → format_bad first ≡ false → format_ok first ≡ true
unfolding format_bad
format_ok_lem first e = not-false (format_ok first) (either_passed (not (format_ok first)) _ e).0

-- the sizes together do not exceed the packing field
sizes_fit : (first : ℕ) → format_ok first ≡ true → item_size first + event_size first + channel_size first ≤ packing_size first
unfolding format_ok
sizes_fit first e =
    leb-true (item_size first + event_size first + channel_size first) (packing_size first)
    (both_right (code_fits (item_code first) (item_size first)) _
    (both_right (code_known (item_code first)) _
    (both_right (not (eqb (real_complex first) 3)) _
    (both_right (eqb (bits 15 12 first) 0) _ e))))

pub legal : (first : ℕ) → format_bad first ≡ false → Legal (packing_of first)
unfolding packing_of
legal first e =
    let c = carrying first in
    record {
      some = c.some;
      most = c.most;
      narrow = c.narrow;
      wide = c.wide;
      item = omega arith;
      parts = sizes_fit first (format_ok_lem first e);
      few = field_most first;
      event = omega arith;
      channel = omega arith;
    }

-- ---- where COUNT is not given
pub count_few : (first second n : ℕ) → count_bad first second n ≡ false → n ≤ 2097120
unfolding count_bad
count_few first second n e = ltb-false 2097120 n (either_passed (ltb 2097120 n) _ e).0

-- n is a number of whole groups
pub count_whole : (first second n : ℕ) → count_bad first second n ≡ false → n % group_of first second ≡ 0
unfolding count_bad
count_whole first second n e = eqb-true (n % group_of first second) 0 (not-false _ (either_passed (ltb 2097120 n) _ e).1)

pub count_groups : (first second n : ℕ) → count_bad first second n ≡ false → n / group_of first second * group_of first second ≡ n
count_groups first second n e = omega (arith, div-add-mod' n (group_of first second), count_whole first second n e)

-- no items are a legal number of any format; where a group has more than 2,097,120 they are the only one
pub count_none : (first second : ℕ) → count_bad first second 0 ≡ false
unfolding count_bad
count_none first second = rw (zero-mod (group_of first second)) refl

pub group_large : (first second n : ℕ) → 2097120 < group_of first second → count_bad first second n ≡ false → n ≡ 0
group_large first second n large e =
    let few : n < group_of first second = omega (arith, count_few first second n e) in
    sym (mod-eq_of_lt few) ∙ count_whole first second n e

-- the words that a packing needs
pub words_for_lem : (first n m : ℕ) (p : Packing) → p ≡ packing_of first → m ≡ needed p.carry p.field n → m ≡ words_for first n
unfolding packing_of words_for
words_for_lem first n m p q e = e ∙ rw q

-- ---- FORMAT and COUNT are asked once, by `items_check`
module _ (first second n : ℕ) where
  -- a list that begins with FORMAT and COUNT of n, and has another test of COUNT beside it: what `items_check` answers, and then the rest
  pub items_first : {A : Type 0} (more : Bool) (rest : Refusals) (answer : Outcome A)
      → first_given ((FORMAT, format_bad first) ∷ (COUNT, either (count_bad first second n) more) ∷ rest) answer
      ≡ after (items_check first second n) (first_given ((COUNT, more) ∷ rest) answer)
  unfolding items_check
  items_first more rest answer = by_tests (format_bad first) (count_bad first second n)
    where
      by_tests : (f c : Bool) → first_given ((FORMAT, f) ∷ (COUNT, either c more) ∷ rest) answer
          ≡ after (first_given {A = Unit} ((FORMAT, f) ∷ (COUNT, c) ∷ []) (accepted tt)) (first_given ((COUNT, more) ∷ rest) answer)
      by_tests true c = refl
      by_tests false true = refl
      by_tests false false = refl

  -- what is let through: a legal format, and a number of items that is not too large
  module _ (fine : accepted tt ≡ items_check first second n) where
    pub items_legal : Legal (packing_of first)
    unfolding items_check
    items_legal = legal first (first_passed (needed_list first second n) _ tt (sym fine)).0.0

    pub items_few : n ≤ 2097120
    unfolding items_check
    items_few = count_few first second n (first_passed (needed_list first second n) _ tt (sym fine)).0.1.0

  -- the answers of `words_needed`
  pub needed_refused : (k : ℕ) → refused k ≡ items_check first second n → refused k ≡ needed_of first second n
  unfolding needed_of items_check
  needed_refused k r = sym (first_refused (needed_list first second n) tt k _ (sym r))

  pub needed_accepted : (m : ℕ) → accepted tt ≡ items_check first second n → m ≡ words_for first n → accepted m ≡ needed_of first second n
  unfolding needed_of items_check
  needed_accepted m fine w = ap accepted w ∙ sym (first_fine (needed_list first second n) tt tt _ (sym fine))

-- for `words_for`
pub ruleset sizes = (carry_some, carry_most, field_most)
