-- How long a page is: "2 + 17S to 2 + 90S" words (document 02, C-13). The idea: a body has its 15 first words and at most the 73 words of all held fields
-- (`body_most`). So no page reaches SIZE (`page_small`).
use Rattle.words.proofs.Kit.{◌≡◌, ap, true, List, ℕ, zero, suc, ◌+◌, ◌*◌, ◌≤◌, ◌<◌, arith, length}
use Rattle.record.specs.Layout.{head_words, held_of}
use Rattle.table.specs.Layout.{streams_of, record_at}
use Rattle.table.specs.Well.{well_made}
use Rattle.table.proofs.RecordLaws as Records
use Rattle.table.proofs.WellLaws.{layout_has, well_whole, well_few, well_record}
use Rattle.words.specs.Pieces.{pieces}
use Rattle.page.specs.Body.{page_body_words}
use Rattle.page.specs.Layout.{offset_of, saved_body, page_of, page_length, most_words, length_at}
use Rattle.words.proofs.PieceLaws.{pieces_none, pieces_next}
use Rattle.page.proofs.BodyLaws.{good_within, body_most, body_length_lem}
use Rattle.page.proofs.LayoutLaws.{page_length_lem, length_at_lem}

-- pieces of bounded length
pieces_between : (n least most : ℕ) (f : ℕ → List ℕ) → ((s : ℕ) → s < n → (least ≤ length (f s)) × (length (f s) ≤ most))
    → (least * n ≤ length (pieces n f)) × (length (pieces n f) ≤ most * n)
pieces_between zero least most f h = (omega (arith, ap length (pieces_none f)), omega (arith, ap length (pieces_none f)))
pieces_between (suc n) least most f h =
    let p = pieces_between n least most f (λ s g. h s (omega arith)) in
    let q = h n (omega arith) in
    (omega (arith, p.0, q.0, pieces_next n f), omega (arith, p.1, q.1, pieces_next n f))

module _ (t : List ℕ) (w : well_made t ≡ true) where
  saved_between : (s : ℕ) → s < streams_of t → (head_words ≤ length (saved_body t s)) × (length (saved_body t s) ≤ 88)
  unfolding saved_body page_body_words
  saved_between s h =
      let l = body_length_lem (record_at s t) (Records.record_length s t (layout_has t s (well_whole t w) h)) (well_record t w s h) in
      (omega (arith, l), omega (arith, l, body_most (held_of (record_at s t)) (good_within (record_at s t) (well_record t w s h))))

  -- by the contents
  pub body_between : (s : ℕ) → s < streams_of t → (head_words ≤ length_at (page_of t) s) × (length_at (page_of t) s ≤ 88)
  unfolding page_of
  body_between s h =
      let l = length_at_lem (streams_of t) (saved_body t) s h in (omega (arith, l, (saved_between s h).0), omega (arith, l, (saved_between s h).1))

  pub page_between : (2 + 17 * streams_of t ≤ page_length t) × (page_length t ≤ 2 + 90 * streams_of t)
  unfolding page_length offset_of
  page_between =
      let b = pieces_between (streams_of t) head_words 88 (saved_body t) saved_between in
      (omega (arith, b.0), omega (arith, b.1))

  -- so no page exceeds 65,535 words
  pub page_small : page_length t ≤ most_words
  page_small = omega (arith, page_between.1, well_few t w)

  pub page_whole : length (page_of t) ≡ page_length t
  unfolding page_of page_length
  page_whole = page_length_lem (streams_of t) (saved_body t)
