-- A page is that of one layout.
use Rattle.words.proofs.Kit.{◌≡◌, sym, ap, ◌∙◌, true, List, ℕ, take}
use Rattle.table.specs.Layout.{streams_of, layout_words}
use Rattle.table.specs.Well.{well_made}
use Rattle.page.specs.Layout.{page_of, table_of}
use Rattle.page.proofs.Exact.{table_back}

-- well-made tables of one page have one layout
pub layout_once : (t u : List ℕ) → well_made t ≡ true → well_made u ≡ true → page_of t ≡ page_of u
    → take (layout_words (streams_of t)) t ≡ take (layout_words (streams_of u)) u
layout_once t u w v e = sym (table_back t w) ∙ ap table_of e ∙ table_back u v
