-- Words past a table's layout. The idea: a page is made of S and the records, and these are those of the layout alone, so the page is too.
use Rattle.words.proofs.Kit.{◌≡◌, sym, ap, ◌∙◌, List, ◌++◌, ℕ, length}
use Rattle.table.specs.Layout.{streams_of, layout_words}
use Rattle.table.proofs.AloneLaws.{streams_alone, record_alone}
use Rattle.page.specs.Layout.{saved_body, page_of, page_length}
use Rattle.page.proofs.LayoutLaws.{page_same, page_length_lem}

-- l has the words of a layout and no more, and x stands past it
module _ (l x : List ℕ) (e : length l ≡ layout_words (streams_of l)) where
  pub page_alone : page_of (l ++ x) ≡ page_of l
  unfolding page_of saved_body
  page_alone = rw (streams_alone l x e) (page_same (streams_of l) (saved_body (l ++ x)) (saved_body l) (λ s h. rw (record_alone l x e s h)))

  pub length_alone : page_length (l ++ x) ≡ page_length l
  unfolding page_length page_of
  length_alone = sym (page_length_lem (streams_of (l ++ x)) (saved_body (l ++ x))) ∙ ap length page_alone ∙ page_length_lem (streams_of l) (saved_body l)
