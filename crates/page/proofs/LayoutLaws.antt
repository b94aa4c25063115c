-- The page of some bodies, and the table of some records. The idea: pairs, bodies and records are numbered pieces, so each is found at its place
-- (`pair_at_lem`, `body_in`, `record_in`); and a page with right contents is the page of the bodies in it (`page_again`), a table that of its records
-- (`table_again`).
use Rattle.words.proofs.Kit.{◌≡◌, refl, sym, ap, ap₂, ◌∙◌, List, [], ◌∷◌, ◌++◌, ℕ, zero, suc, ◌+◌, ◌-◌, ◌*◌, ◌≤◌, ◌<◌, arith, length, get_or, take}
use native.Mathlib.Nat.{add-zero, le_of_lt}
use lib.ListN.{length-append}
use lib.Seq.{drop-cons}
use Rattle.words.specs.Part.{part}
use Rattle.words.proofs.PartLaws.{part_is, part_past, part_within, part_whole, part_length, get_d_part}
use Rattle.record.specs.Layout.{record_words}
use Rattle.table.specs.Layout.{streams_of, base, layout_words, record_at}
use Rattle.words.specs.Pieces.{pieces}
use Rattle.page.specs.Layout.{pair_at, contents_words, offset_of, pair_of, page_from, bodies_in, offset_at, length_at, begins_at, page_body_at, table_from}
use Rattle.words.proofs.PieceLaws.{pieces_none, pieces_same, pieces_next, pieces_length, pieces_inside, pieces_at, pieces_parts, part_join}

-- ---- what a pair says, read at its place

module _ (p : List ℕ) (s at x : ℕ) (e : at ≡ pair_at s) where
  pub offset_read : x ≡ get_or p at 0 → x ≡ offset_at p s
  offset_read f = f ∙ ap (λ (i : ℕ). get_or p i 0) e

  pub length_read : x ≡ get_or p (at + 1) 0 → x ≡ length_at p s
  length_read f = f ∙ ap (λ (i : ℕ). get_or p (i + 1) 0) e

-- ---- a part of two words

part_two : (a : ℕ) (ws : List ℕ) → a + 2 ≤ length ws → part a 2 ws ≡ get_or ws a 0 ∷ get_or ws (a + 1) 0 ∷ []
part_two a ws h =
    let i : suc a ≡ a + 1 = omega arith in
    part_is a 2 ws ∙ ap (take 2) (drop-cons ws a 0 (omega arith)) ∙ ap (λ (l : List ℕ). get_or ws a 0 ∷ take 1 l) (drop-cons ws (suc a) 0 (omega arith))
    ∙ ap (λ (k : ℕ). get_or ws a 0 ∷ get_or ws k 0 ∷ []) i

-- ---- the page of n bodies

module _ (n : ℕ) (f : ℕ → List ℕ) where
  pub offset_first : offset_of n f 0 ≡ contents_words n
  unfolding offset_of
  offset_first = ap (λ (l : List ℕ). contents_words n + length l) (pieces_none f) ∙ add-zero (contents_words n)

  pub offset_next : (s : ℕ) → offset_of n f (suc s) ≡ offset_of n f s + length (f s)
  unfolding offset_of
  offset_next s = omega (arith, pieces_next s f)

  pub offset_inside : (s : ℕ) → s < n → offset_of n f s + length (f s) ≤ offset_of n f n
  unfolding offset_of
  offset_inside s h = omega (arith, pieces_inside n s f h)

  pair_length : (s : ℕ) → length (pair_of n f s) ≡ 2
  unfolding pair_of
  pair_length s = refl

  pairs_length : (s : ℕ) → length (pieces s (pair_of n f)) ≡ 2 * s
  pairs_length s = pieces_length s 2 (pair_of n f) (λ u h. pair_length u)

  contents_length : (x : ℕ) → length (n ∷ x ∷ pieces n (pair_of n f)) ≡ contents_words n
  contents_length x = omega (arith, pairs_length n)

  pub page_count : bodies_in (page_from n f) ≡ n
  unfolding page_from
  page_count = refl

  pub page_length_lem : length (page_from n f) ≡ offset_of n f n
  unfolding page_from offset_of
  page_length_lem = omega (arith, length-append (pieces n (pair_of n f)) (pieces n f), pairs_length n)

  -- body s
  pub body_part : (s : ℕ) → s < n → part (offset_of n f s) (length (f s)) (page_from n f) ≡ f s
  unfolding page_from offset_of
  body_part s h =
      part_past (contents_words n) (length (pieces s f)) (length (f s)) (n ∷ (contents_words n + length (pieces n f)) ∷ pieces n (pair_of n f))
      (pieces n f) (contents_length (contents_words n + length (pieces n f)))
      ∙ pieces_at n s f h

  -- pair s
  pub pair_at_lem : (s : ℕ) → s < n → part (pair_at s) 2 (page_from n f) ≡ pair_of n f s
  unfolding page_from
  pair_at_lem s h =
      part_past 2 (2 * s) 2 (n ∷ offset_of n f n ∷ []) (pieces n (pair_of n f) ++ pieces n f) refl
      ∙ part_within (2 * s) 2 (pieces n (pair_of n f)) (pieces n f) (omega (arith, pairs_length n))
      ∙ rw (pairs_length s, pair_length s) at (pieces_at n s (pair_of n f) h)

  pub offset_at_lem : (s : ℕ) → s < n → offset_at (page_from n f) s ≡ offset_of n f s
  unfolding pair_of
  offset_at_lem s h =
      let i : pair_at s ≡ pair_at s + 0 = omega arith in
      ap (λ (k : ℕ). get_or (page_from n f) k 0) i ∙ sym (get_d_part (pair_at s) 2 0 (page_from n f) (omega arith))
      ∙ ap (λ (l : List ℕ). get_or l 0 0) (pair_at_lem s h)

  pub length_at_lem : (s : ℕ) → s < n → length_at (page_from n f) s ≡ length (f s)
  unfolding pair_of
  length_at_lem s h =
      let i : pair_at s + 1 ≡ pair_at s + 1 = omega arith in
      ap (λ (k : ℕ). get_or (page_from n f) k 0) i ∙ sym (get_d_part (pair_at s) 2 1 (page_from n f) (omega arith))
      ∙ ap (λ (l : List ℕ). get_or l 1 0) (pair_at_lem s h)

  pub begins_at_lem : (s : ℕ) → s ≤ n → begins_at (page_from n f) s ≡ offset_of n f s
  unfolding begins_at
  begins_at_lem zero h = ap contents_words page_count ∙ sym offset_first
  begins_at_lem (suc s) h = omega (arith, begins_at_lem s (omega arith), length_at_lem s h, offset_next s)

  pub body_in : (s : ℕ) → s < n → page_body_at (page_from n f) s ≡ f s
  unfolding page_body_at
  body_in s h = rw (offset_at_lem s h, length_at_lem s h) (body_part s h)

-- the same bodies
pub page_same : (n : ℕ) (f g : ℕ → List ℕ) → ((s : ℕ) → s < n → f s ≡ g s) → page_from n f ≡ page_from n g
unfolding page_from pair_of offset_of
page_same n f g e =
    let b : pieces n f ≡ pieces n g = pieces_same n f g e in
    let p : pieces n (pair_of n f) ≡ pieces n (pair_of n g) =
    pieces_same n (pair_of n f) (pair_of n g) (λ s h. rw (pieces_same s f g (λ u k. e u (omega arith)), e s h)) in
    rw (b, p)

-- ---- a page with right contents is the page of the bodies in it

module _
    (p : List ℕ)
    (room : contents_words (bodies_in p) ≤ length p)
    (second : get_or p 1 0 ≡ length p)
    (gapless : (s : ℕ) → s < bodies_in p → offset_at p s ≡ begins_at p s)
    (inside : (s : ℕ) → s < bodies_in p → begins_at p s + length_at p s ≤ length p)
    (ends : begins_at p (bodies_in p) ≡ length p)
  where
    abbrev count : ℕ
    count = bodies_in p

    pub body_sized : (s : ℕ) → s < bodies_in p → length (page_body_at p s) ≡ length_at p s
    unfolding page_body_at
    body_sized s h = part_length (offset_at p s) (length_at p s) p (omega (arith, gapless s h, inside s h))

    begins_offset : (s : ℕ) → s ≤ bodies_in p → offset_of (bodies_in p) (page_body_at p) s ≡ begins_at p s
    unfolding begins_at
    begins_offset zero h = offset_first count (page_body_at p)
    begins_offset (suc s) h = omega (arith, offset_next count (page_body_at p) s, begins_offset s (omega arith), body_sized s h)

    pair_part : (s : ℕ) → s < bodies_in p → pair_of (bodies_in p) (page_body_at p) s ≡ part (pair_at s) 2 p
    unfolding pair_of
    pair_part s h =
        let i : pair_at s + 1 ≡ pair_at s + 1 = omega arith in
        ap₂ (λ (a b : ℕ). a ∷ b ∷ []) (begins_offset s (le_of_lt h) ∙ sym (gapless s h)) (body_sized s h ∙ ap (λ (k : ℕ). get_or p k 0) i)
        ∙ sym (part_two (pair_at s) p (omega arith))

    pairs_part : pieces (bodies_in p) (pair_of (bodies_in p) (page_body_at p)) ≡ part 2 (2 * bodies_in p) p
    pairs_part =
        let k : 2 + 2 * count - (2 + 2 * 0) ≡ 2 * count = omega arith in
        pieces_same count (pair_of count (page_body_at p)) (λ s. part (pair_at s) 2 p) pair_part
        ∙ (pieces_parts count (λ s. pair_at s) (λ s. 2) p (λ s h. omega arith)).1
        ∙ ap (λ (m : ℕ). part 2 m p) k

    bodies_part : pieces (bodies_in p) (page_body_at p) ≡ part (contents_words (bodies_in p)) (length p - contents_words (bodies_in p)) p
    unfolding page_body_at begins_at
    bodies_part =
        pieces_same count (page_body_at p) (λ s. part (begins_at p s) (length_at p s) p) (λ s h. ap (λ (a : ℕ). part a (length_at p s) p) (gapless s h))
        ∙ (pieces_parts count (begins_at p) (length_at p) p (λ s h. refl)).1
        ∙ ap (λ (m : ℕ). part (contents_words count) (m - contents_words count) p) ends

    pub page_again : page_from (bodies_in p) (page_body_at p) ≡ p
    unfolding page_from
    page_again =
        let front : (count ∷ offset_of count (page_body_at p) count ∷ []) ≡ part 0 2 p =
        ap (λ (x : ℕ). count ∷ x ∷ []) (begins_offset count (omega arith) ∙ ends ∙ sym second) ∙ sym (part_two 0 p (omega arith)) in
        let k : 2 * count + (length p - contents_words count) ≡ length p - 2 = omega arith in
        let m : 2 + (length p - 2) ≡ length p = omega arith in
        ap₂ (λ (x y : List ℕ). x ++ y) front
        (ap₂ (λ (x y : List ℕ). x ++ y) pairs_part bodies_part ∙ part_join 2 (2 * count) (length p - contents_words count) p ∙ ap (λ (j : ℕ). part 2 j p) k)
        ∙ part_join 0 2 (length p - 2) p ∙ ap (λ (j : ℕ). part 0 j p) m ∙ part_whole p

-- ---- the table of n records

module _ (n : ℕ) (g : ℕ → List ℕ) (sized : (s : ℕ) → s < n → length (g s) ≡ record_words) where
  pub table_length : length (table_from n g) ≡ layout_words n
  unfolding table_from
  table_length = omega (arith, pieces_length n record_words g sized)

  -- record s, whatever follows the layout
  pub record_in : (s : ℕ) (rest : List ℕ) → s < n → record_at s (table_from n g ++ rest) ≡ g s
  unfolding record_at table_from
  record_in s rest h =
      let l : length (pieces s g) ≡ record_words * s = pieces_length s record_words g (λ u k. sized u (omega arith)) in
      part_past 1 (record_words * s) record_words (n ∷ []) (pieces n g ++ rest) refl
      ∙ part_within (record_words * s) record_words (pieces n g) rest (omega (arith, pieces_length n record_words g sized))
      ∙ rw (l, sized s h) at (pieces_at n s g h)

pub table_streams : (n : ℕ) (g : ℕ → List ℕ) (rest : List ℕ) → streams_of (table_from n g ++ rest) ≡ n
unfolding table_from
table_streams n g rest = refl

pub table_same : (n : ℕ) (f g : ℕ → List ℕ) → ((s : ℕ) → s < n → f s ≡ g s) → table_from n f ≡ table_from n g
unfolding table_from
table_same n f g e = ap (λ (l : List ℕ). n ∷ l) (pieces_same n f g e)

-- a table's layout is that of its records
pub table_again : (t : List ℕ) → layout_words (streams_of t) ≤ length t → table_from (streams_of t) (λ s. record_at s t) ≡ take (layout_words (streams_of t)) t
unfolding table_from record_at
table_again t h =
    let n : ℕ = streams_of t in
    let k : 1 + record_words * n - (1 + record_words * 0) ≡ record_words * n = omega arith in
    let front : (n ∷ []) ≡ part 0 1 t = sym (part_is 0 1 t ∙ ap (take 1) (drop-cons t 0 0 (omega arith))) in
    ap₂ (λ (x y : List ℕ). x ++ y) front
    ((pieces_parts n base (λ s. record_words) t (λ s g. omega arith)).1 ∙ ap (λ (m : ℕ). part 1 m t) k)
    ∙ part_join 0 1 (record_words * n) t ∙ part_is 0 (layout_words n) t
