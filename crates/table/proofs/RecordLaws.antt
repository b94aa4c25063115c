-- Records of a table. The idea: a record is a part of the table and replacing it is a `put`, so these are the laws of parts at the records' places; two
-- records lie apart, and word 0 and the words past the layout apart from all.
use Rattle.words.proofs.Kit.{◌≡◌, sym, ap, ◌∙◌, ⊎_elim, List, ℕ, ◌+◌, ◌≤◌, ◌<◌, arith, length, drop, get_or}
use native.Mathlib.Nat.{add-zero}
use Rattle.words.proofs.Cases.{le_or_lt, same_or_not}
use Rattle.words.proofs.PartLaws.{get_d_part, part_length, put_length, part_put, part_put_before, part_put_after, get_d_put_before, drop_put_after}
use Rattle.record.specs.Layout.{record_words, identifier_of, choice_of}
use Rattle.table.specs.Layout.{streams_of, base, layout_words, Has, record_at, with_record}
use Rattle.table.specs.Identifiers.{declared}

pub record_length : (s : ℕ) (t : List ℕ) → Has s t → length (record_at s t) ≡ record_words
unfolding record_at
record_length s t h = part_length (base s) record_words t h

-- an identifier of the list is its record's first word
pub record_identifier : (s : ℕ) (t : List ℕ) → identifier_of (record_at s t) ≡ declared t s
unfolding record_at
record_identifier s t = get_d_part (base s) record_words 0 t (omega arith) ∙ ap (λ (i : ℕ). get_or t i 0) (add-zero (base s))

-- where its choice stands in the table
pub record_choice : (s : ℕ) (t : List ℕ) → choice_of (record_at s t) ≡ get_or t (base s + 14) 0
unfolding record_at
record_choice s t = get_d_part (base s) record_words 14 t (omega arith)

module _ (s : ℕ) (r t : List ℕ) (h : Has s t) (l : length r ≡ record_words) where
  pub with_length : length (with_record s r t) ≡ length t
  unfolding with_record
  with_length = put_length (base s) record_words r t h l

  pub record_with : record_at s (with_record s r t) ≡ r
  unfolding record_at with_record
  record_with = part_put (base s) record_words r t h l

  -- the other records are as they were
  pub record_with_other : (u : ℕ) → (u ≡ s → ⊥) → record_at u (with_record s r t) ≡ record_at u t
  unfolding record_at with_record
  record_with_other u n =
      ⊎_elim (λ (g : u ≤ s). part_put_before (base s) record_words r t h l (base u) record_words (omega arith))
      (λ (g : s < u). part_put_after (base s) record_words r t h l (base u) record_words (omega arith)) (le_or_lt u s)

  -- word 0, and the words past the layout
  pub streams_with : streams_of (with_record s r t) ≡ streams_of t
  unfolding with_record
  streams_with = get_d_put_before (base s) record_words r t h l 0 (omega arith)

  pub past_with : (n : ℕ) → s < n → drop (layout_words n) (with_record s r t) ≡ drop (layout_words n) t
  unfolding with_record
  past_with n g = drop_put_after (base s) record_words r t h l (layout_words n) (omega arith)

  -- the list, where the record keeps its identifier
  pub declared_with : identifier_of r ≡ declared t s → (u : ℕ) → declared (with_record s r t) u ≡ declared t u
  declared_with i u =
      sym (record_identifier u (with_record s r t))
      ∙ ⊎_elim (λ (e : u ≡ s). ap (λ (v : ℕ). identifier_of (record_at v (with_record s r t))) e ∙ ap identifier_of record_with ∙ i ∙ ap (declared t) (sym e))
      (λ (n : u ≡ s → ⊥). ap identifier_of (record_with_other u n) ∙ record_identifier u t) (same_or_not u s)
