-- Words below 2^32. The idea: what is put back from a page is made of the page's words and zeros, so over words the tests accept exactly the pages that
-- well-made tables of words save (`page_exact_words`).
use Rattle.words.proofs.Kit.{◌≡◌, ◌∙◌, Bool, true, false, List, [], ◌∷◌, ◌++◌, ℕ, zero, suc, ◌+◌, ◌^◌, ◌<◌, arith, get_or, take, drop}
use mathlib.Core.Logic.{◌↔◌}
use lib.ListN.{replicate}
use Rattle.words.specs.Tests.{pick}
use Rattle.words.specs.Word.{has}
use Rattle.words.specs.SetBits.{bits_of, above}
use Rattle.words.specs.Part.{part}
use Rattle.fields.specs.Sizes.{field_size, sizes_of}
use Rattle.record.specs.Held.{slot_bits, in_order}
use Rattle.record.specs.Layout.{head_words, slot_words, held_of, slot_in}
use Rattle.record.specs.After.{refilled}
use Rattle.table.specs.Well.{well_made}
use Rattle.words.specs.Pieces.{pieces}
use Rattle.page.specs.Body.{record_of}
use Rattle.page.specs.Layout.{page_of, bodies_in, page_body_at, saved_record, table_from, table_of}
use Rattle.page.specs.Good.{page_good}
use Rattle.page.proofs.Exact.{table_well, page_back, page_tested, page_exact}

-- each word is below 2^32
abbrev pub Words32 : List ℕ → Type 0
Words32 [] = Unit
Words32 (x ∷ xs) = (x < 2 ^ 32) × Words32 xs

words_append : (xs ys : List ℕ) → Words32 xs → Words32 ys → Words32 (xs ++ ys)
words_append [] ys a b = b
words_append (x ∷ xs) ys a b = (a.0, words_append xs ys a.1 b)

words_take : (n : ℕ) (xs : List ℕ) → Words32 xs → Words32 (take n xs)
words_take zero xs a = tt
words_take (suc n) [] a = tt
words_take (suc n) (x ∷ xs) a = (a.0, words_take n xs a.1)

words_drop : (n : ℕ) (xs : List ℕ) → Words32 xs → Words32 (drop n xs)
words_drop zero xs a = a
words_drop (suc n) [] a = tt
words_drop (suc n) (x ∷ xs) a = words_drop n xs a.1

words_part : (a n : ℕ) (xs : List ℕ) → Words32 xs → Words32 (part a n xs)
unfolding part
words_part a n xs w = words_take n (drop a xs) (words_drop a xs w)

words_zero : (n : ℕ) → Words32 (replicate n 0)
words_zero zero = tt
words_zero (suc n) = (omega arith, words_zero n)

words_first : (xs : List ℕ) → Words32 xs → get_or xs 0 0 < 2 ^ 32
words_first [] a = omega arith
words_first (x ∷ xs) a = a.0

words_pieces : (n : ℕ) (f : ℕ → List ℕ) → ((s : ℕ) → Words32 (f s)) → Words32 (pieces n f)
unfolding pieces
words_pieces zero f w = tt
words_pieces (suc n) f w = words_append (pieces n f) (f n) (words_pieces n f w) (w n)

words_order : (bs : List ℕ) (f : ℕ → List ℕ) → ((b : ℕ) → Words32 (f b)) → Words32 (in_order bs f)
unfolding in_order
words_order [] f w = tt
words_order (b ∷ bs) f w = words_append (f b) (in_order bs f) (w b) (words_order bs f w)

words_filled : (carried : Bool) (field slot : List ℕ) → Words32 field → Words32 slot → Words32 (pick carried field slot)
words_filled true field slot a b = a
words_filled false field slot a b = b

words_record : (b : List ℕ) → Words32 b → Words32 (record_of b)
unfolding record_of refilled slot_in
words_record b w =
    words_append (part 0 head_words b) _ (words_part 0 head_words b w)
    (words_order slot_bits _
    (λ x. words_filled (has (held_of b) x) _ _
    (words_part (head_words + sizes_of (above x (bits_of 31 (held_of b)))) (field_size x) b w)
    (words_part _ (field_size x) (replicate slot_words 0) (words_zero slot_words))))

pub words_table : (p : List ℕ) → Words32 p → Words32 (table_of p)
unfolding table_of table_from saved_record page_body_at
words_table p w = (words_first p w, words_pieces (bodies_in p) (saved_record p) (λ s. words_record (page_body_at p s) (words_part _ _ p w)))

-- "A page is well made when some well-made table saves exactly its words", over words
pub page_exact_words : (p : List ℕ) → Words32 p → (page_good p ≡ true) ↔ ((t : List ℕ) × Words32 t × (well_made t ≡ true) × (page_of t ≡ p))
page_exact_words p w = (
  λ e. let ok = page_tested p ∙ e in (table_of p ++ [], words_append (table_of p) [] (words_table p w) tt, table_well p ok [], page_back p ok []),
  λ x. (page_exact p).1 (x.0, x.2, x.3),
)
