-- Saving and putting back, one after the other. The idea: what a call leaves is fixed by its definition, and `table_back` and `page_back` say what the other
-- call makes of it.
use Rattle.words.proofs.Kit.{◌≡◌, sym, ap, ◌∙◌, true, List, ◌++◌, ℕ, ◌≤◌, arith, le-ltb, length, take, drop}
use Rattle.words.specs.Outcome.{accepted}
use Rattle.table.specs.Layout.{streams_of, layout_words}
use Rattle.table.specs.Well.{well_made}
use Rattle.page.specs.Layout.{page_from, page_of, page_length, table_of}
use Rattle.page.specs.Good.{page_good}
use Rattle.page.specs.Save.{size_limit, save_of}
use Rattle.page.specs.PutBack.{put_back_of}
use Rattle.page.proofs.Bounds.{page_small, page_whole}
use Rattle.page.proofs.Exact.{table_back, page_passes, table_well, page_back, page_tested}

-- every well-made table is saved where there is room
pub save_accepted : (t page : List ℕ) → well_made t ≡ true → page_length t ≤ length page
    → save_of t page ≡ accepted (record { says = page_length t; leaves = page_of t ++ drop (page_length t) page })
unfolding save_of
save_accepted t page w h = rw (w, le-ltb size_limit (page_length t) (omega (arith, page_small t w)), le-ltb (length page) (page_length t) h)

-- put back after save is the same layout, and the words past it are those of the lent table
pub put_back_saved : (t lent : List ℕ) → well_made t ≡ true → layout_words (streams_of t) ≤ length lent
    → put_back_of (page_of t) lent ≡ accepted
    (record { says = layout_words (streams_of t); leaves = take (layout_words (streams_of t)) t ++ drop (layout_words (streams_of t)) lent })
unfolding put_back_of page_of page_from
put_back_saved t lent w h = rw (← page_tested _, page_passes t w, le-ltb (length lent) (layout_words (streams_of t)) h, table_back t w)

-- save after put back is the same page, whatever follows the layout
pub saved_put_back : (p rest page : List ℕ) → page_good p ≡ true → length p ≤ length page
    → save_of (table_of p ++ rest) page ≡ accepted (record { says = length p; leaves = p ++ drop (length p) page })
saved_put_back p rest page e h =
    let ok = page_tested p ∙ e in
    let w = table_well p ok rest in
    let b : page_of (table_of p ++ rest) ≡ p = page_back p ok rest in
    let l : page_length (table_of p ++ rest) ≡ length p = sym (page_whole (table_of p ++ rest) w) ∙ ap length b in
    save_accepted (table_of p ++ rest) page w (omega (arith, l)) ∙ rw (l, b)
