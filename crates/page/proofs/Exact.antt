-- Saving and putting back. The idea: at each stream `record_body` and `body_record` say that record and body give each other, and the layouts of page and
-- table give back their pieces; so a well-made table is got back from its page (`table_back`), a page that passes the tests is that of the table put back
-- from it (`page_back`), and the tests pass exactly the well-made pages (`page_tested`), those that well-made
-- tables save (`page_exact`).
use Rattle.words.proofs.Kit.{◌≡◌, sym, ap, ◌∙◌, Bool, true, List, [], ◌++◌, ℕ, ◌<◌, arith, length, get_or, take}
use mathlib.Core.Logic.{◌↔◌}
use mathlib.Core.List.{append-nil}
use native.Mathlib.Nat.{add-zero}
use lib.ListN.{length-append}
use Rattle.words.specs.Tests.{both, same_words}
use Rattle.words.specs.All.{all}
use Rattle.words.proofs.Cases.{same_test, both_left, both_right, both_true, same_words_lem, words_same}
use Rattle.words.proofs.AllLaws.{all_at, all_intro}
use Rattle.record.specs.Layout.{head_words, record_words, identifier_of, held_of}
use Rattle.record.specs.Good.{record_good}
use Rattle.table.specs.Layout.{streams_of, layout_words, record_at}
use Rattle.table.specs.Identifiers.{declared, list_good}
use Rattle.table.specs.Well.{well_made}
use Rattle.table.proofs.RecordLaws.{record_identifier}
use Rattle.table.proofs.RecordLaws as Records
use Rattle.table.proofs.ListLaws.{list_same}
use Rattle.table.proofs.WellLaws.{layout_has, well_whole, well_list, well_few, well_record, well_from}
use Rattle.page.specs.Body.{page_body, page_body_words, record_of}
use Rattle.page.specs.Layout.{page_from, saved_body, page_of, bodies_in, offset_at, page_body_at, saved_record, table_from, table_of}
use Rattle.page.specs.Good.{page_good}
use Rattle.page.specs.inner.Tested.{contents_good, identifier_at, record_good_in, page_ok, GoodContents}
use Rattle.record.proofs.HoldLaws.{held_within}
use Rattle.page.proofs.BodyLaws.{body_word, record_word, good_within, body_length_lem, record_body, body_some, record_length, body_record}
use Rattle.page.proofs.LayoutLaws.{body_in, page_same, page_again, table_length, record_in, table_same, table_again}
use Rattle.page.proofs.ContentsLaws.{contents_of, of_contents, page_contents, word_in, body_words_lem}

-- ---- a well-made table, and its page

module _ (t : List ℕ) (w : well_made t ≡ true) where
  sized : (s : ℕ) → s < streams_of t → length (record_at s t) ≡ record_words
  sized s h = Records.record_length s t (layout_has t s (well_whole t w) h)

  saved_word : (s i : ℕ) → s < streams_of t → i < head_words → get_or (saved_body t s) i 0 ≡ get_or (record_at s t) i 0
  unfolding saved_body
  saved_word s i h k = body_word (record_at s t) i k (omega (arith, sized s h))

  pub saved_length : (s : ℕ) → s < streams_of t → length (saved_body t s) ≡ page_body_words (held_of (saved_body t s))
  unfolding saved_body
  saved_length s h = body_length_lem (record_at s t) (sized s h) (well_record t w s h) ∙ ap page_body_words (sym (saved_word s 1 h (omega arith)))

  pub saved_contents : GoodContents (page_of t)
  unfolding page_of
  saved_contents = page_contents (streams_of t) (saved_body t) (well_few t w) saved_length

  -- the record that body s gives is that of stream s
  record_back : (s : ℕ) → s < streams_of t → saved_record (page_of t) s ≡ record_at s t
  unfolding page_of saved_record saved_body
  record_back s h = ap record_of (body_in (streams_of t) (saved_body t) s h) ∙ record_body (record_at s t) (sized s h) (well_record t w s h)

  -- a well-made table is got back from its page
  pub table_back : table_of (page_of t) ≡ take (layout_words (streams_of t)) t
  unfolding table_of page_of page_from
  table_back = table_same (streams_of t) (saved_record (page_of t)) (λ s. record_at s t) record_back ∙ table_again t (well_whole t w)

  identifier_back : (s : ℕ) → s < streams_of t → identifier_at (page_of t) s ≡ declared t s
  unfolding page_of page_from
  identifier_back s h =
      ap (λ (k : ℕ). get_or (page_of t) k 0) (sym (add-zero (offset_at (page_of t) s))) ∙ sym (word_in (page_of t) saved_contents s h 0 (omega arith))
      ∙ ap (λ (b : List ℕ). get_or b 0 0) (body_in (streams_of t) (saved_body t) s h) ∙ saved_word s 0 h (omega arith) ∙ record_identifier s t

  -- its page passes the tests
  pub page_passes : page_ok (page_of t) ≡ true
  unfolding page_ok record_good_in page_of page_from
  page_passes =
      both_true _ _ (of_contents (page_of t) saved_contents)
      (both_true _ _ (list_same (streams_of t) (identifier_at (page_of t)) (declared t) identifier_back ∙ well_list t w)
      (all_intro (record_good_in (page_of t)) (streams_of t) (λ s h. ap record_good (record_back s h) ∙ well_record t w s h)))

-- ---- a page that passes the tests, and the table put back from it

module _ (p : List ℕ) (e : page_ok p ≡ true) where
  abbrev records : Bool
  records = all (bodies_in p) (record_good_in p)

  abbrev list : Bool
  list = list_good (bodies_in p) (identifier_at p)

  pub ok_tested : contents_good p ≡ true
  unfolding page_ok
  ok_tested = both_left (contents_good p) (both list records) e

  pub ok_contents : GoodContents p
  ok_contents = contents_of p ok_tested

  pub ok_list : list_good (bodies_in p) (identifier_at p) ≡ true
  unfolding page_ok
  ok_list = both_left list records (both_right (contents_good p) (both list records) e)

  pub ok_record : (s : ℕ) → s < bodies_in p → record_good (saved_record p s) ≡ true
  unfolding page_ok record_good_in
  ok_record s h = all_at (record_good_in p) (bodies_in p) s h (both_right list records (both_right (contents_good p) (both list records) e))

  ok_words : (s : ℕ) → s < bodies_in p → length (page_body_at p s) ≡ page_body_words (held_of (page_body_at p s))
  ok_words s h = body_words_lem p ok_contents s h

  pub ok_sized : (s : ℕ) → s < bodies_in p → length (saved_record p s) ≡ record_words
  unfolding saved_record
  ok_sized s h = record_length (page_body_at p s) (ok_words s h)

  ok_word : (s i : ℕ) → s < bodies_in p → i < head_words → get_or (saved_record p s) i 0 ≡ get_or (page_body_at p s) i 0
  unfolding saved_record
  ok_word s i h k = record_word (page_body_at p s) i k (body_some (page_body_at p s) (ok_words s h))

  -- the layout's length, S and records of the table, whatever follows it
  pub back_length : length (table_of p) ≡ layout_words (bodies_in p)
  unfolding table_of
  back_length = table_length (bodies_in p) (saved_record p) ok_sized

  pub back_record : (s : ℕ) (rest : List ℕ) → s < bodies_in p → record_at s (table_of p ++ rest) ≡ saved_record p s
  unfolding table_of
  back_record s rest h = record_in (bodies_in p) (saved_record p) ok_sized s rest h

  back_identifier : (s : ℕ) (rest : List ℕ) → s < bodies_in p → declared (table_of p ++ rest) s ≡ identifier_at p s
  back_identifier s rest h =
      sym (record_identifier s (table_of p ++ rest)) ∙ ap identifier_of (back_record s rest h) ∙ ok_word s 0 h (omega arith)
      ∙ word_in p ok_contents s h 0 (omega arith) ∙ ap (λ (k : ℕ). get_or p k 0) (add-zero (offset_at p s))

  pub table_well : (rest : List ℕ) → well_made (table_of p ++ rest) ≡ true
  unfolding table_of table_from
  table_well rest =
      well_from (table_of p ++ rest)
      (omega (arith, length-append (table_of p) rest, back_length))
      (list_same (bodies_in p) (declared (table_of p ++ rest)) (identifier_at p) (λ s h. back_identifier s rest h) ∙ ok_list)
      (λ s h. ap record_good (back_record s rest h) ∙ ok_record s h)

  -- the page is that of the table
  body_back : (s : ℕ) (rest : List ℕ) → s < bodies_in p → saved_body (table_of p ++ rest) s ≡ page_body_at p s
  unfolding saved_body saved_record
  body_back s rest h =
      let held : held_of (saved_record p s) ≡ held_of (page_body_at p s) = ok_word s 1 h (omega arith) in
      ap page_body (back_record s rest h)
      ∙ body_record (page_body_at p s) (ok_words s h)
      (held_within (held_of (page_body_at p s)) (rw held at (good_within (saved_record p s) (ok_record s h))))

  pub page_back : (rest : List ℕ) → page_of (table_of p ++ rest) ≡ p
  unfolding page_of table_of table_from
  page_back rest =
      let g = ok_contents in
      page_same (bodies_in p) (saved_body (table_of p ++ rest)) (page_body_at p) (λ s h. body_back s rest h)
      ∙ page_again p g.room g.second g.gapless g.inside g.ends

-- ---- "A page is well made when some well-made table saves exactly its words"

ok_good : (p : List ℕ) → page_ok p ≡ true → page_good p ≡ true
unfolding page_good
ok_good p e =
    let whole : table_of p ++ [] ≡ table_of p = append-nil (table_of p) in
    let back : page_of (table_of p) ≡ p = rw whole at (page_back p e []) in
    both_true (well_made (table_of p)) (same_words (page_of (table_of p)) p) (rw whole at (table_well p e [])) (rw back (words_same p))

good_ok : (p : List ℕ) → page_good p ≡ true → page_ok p ≡ true
unfolding page_good
good_ok p g =
    let same = same_words (page_of (table_of p)) p in
    let back = same_words_lem (page_of (table_of p)) p (both_right (well_made (table_of p)) same g) in
    sym (ap page_ok back) ∙ page_passes (table_of p) (both_left (well_made (table_of p)) same g)

-- the tests pass exactly the well-made pages
pub page_tested : (p : List ℕ) → page_ok p ≡ page_good p
page_tested p = same_test (page_ok p) (page_good p) (ok_good p) (good_ok p)

pub page_exact : (p : List ℕ) → (page_good p ≡ true) ↔ ((t : List ℕ) × (well_made t ≡ true) × (page_of t ≡ p))
page_exact p = (
  λ e. let ok = page_tested p ∙ e in (table_of p ++ [], table_well p ok [], page_back p ok []),
  λ x. sym (page_tested p) ∙ ap page_ok (sym x.2) ∙ page_passes x.0 x.1,
)
