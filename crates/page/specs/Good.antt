-- Document 01, 'The table and its page': "A page is well made when some well-made table saves exactly its words."
use Rattle.std.specs.Prelude.{Bool, List, ℕ}
use Rattle.words.specs.Tests.{both, same_words}
use Rattle.table.specs.Well.{well_made}
use Rattle.page.specs.Layout.{page_of, table_of}

-- that table is the one that the page's bodies give: it is well made, and saves exactly the page's words. Where any well-made table does, this one does
-- (`page_exact`, proofs/Exact.antt)
unfoldable pub page_good : List ℕ → Bool
page_good p = both (well_made (table_of p)) (same_words (page_of (table_of p)) p)
