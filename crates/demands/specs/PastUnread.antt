-- Document 01: "A lent table may be longer than its layout: words past it are neither read nor changed." Each call that is handed a table answers of a layout
-- with whatever words past it, however many, as of the layout alone; and what it leaves is what it leaves of the layout alone, and then those words. So two
-- tables with one layout get the same answers and the same layouts. (What `start`, `put_back` and `jump` write over is not read at all: their
-- definitions say so.)
use Rattle.std.specs.Prelude.{◌≡◌, ℕ, List, ◌++◌, length}
use Rattle.words.specs.Outcome.{said_of, left_of}
use Rattle.table.specs.Layout.{streams_of, layout_words}
use Rattle.demands.specs.Program.{Program}

-- l has the words of a layout and no more: S, and S records, well made or not
abbrev pub IsLayout : List ℕ → Type 0
IsLayout l = length l ≡ layout_words (streams_of l)

-- of a layout l and the words x past it
pub record PastUnread (P : Program) (l x : List ℕ) : Type 0 where
  -- a table that is lent to be changed
  pub play : (ws : List ℕ)
      → (said_of (P.play (l ++ x) ws) ≡ said_of (P.play l ws)) × (left_of (P.play (l ++ x) ws) (l ++ x) ≡ left_of (P.play l ws) l ++ x)
  pub play_run : (ws : List ℕ) (from : ℕ) (answers : List ℕ)
      → let longer = P.play_run (l ++ x) ws from answers in
      let alone = P.play_run l ws from answers in
      (said_of longer ≡ said_of alone)
      × ((left_of longer (l ++ x, answers)).0 ≡ (left_of alone (l, answers)).0 ++ x)
      × ((left_of longer (l ++ x, answers)).1 ≡ (left_of alone (l, answers)).1)
  pub grow : (ws ix : List ℕ)
      → let longer = P.grow (l ++ x) ws ix in
      let alone = P.grow l ws ix in
      (said_of longer ≡ said_of alone)
      × ((left_of longer (l ++ x, ix)).0 ≡ (left_of alone (l, ix)).0 ++ x)
      × ((left_of longer (l ++ x, ix)).1 ≡ (left_of alone (l, ix)).1)
  -- a table that is read: the answer, and what is left in the buffer for a page, for words or for a table, are the same
  pub well_made : P.well_made (l ++ x) ≡ P.well_made l
  pub page_length : P.page_length (l ++ x) ≡ P.page_length l
  pub save : (page : List ℕ) → P.save (l ++ x) page ≡ P.save l page
  pub start_index : (ix : List ℕ) → P.start_index (l ++ x) ix ≡ P.start_index l ix
  pub reading : (stream bit : ℕ) → P.reading (l ++ x) stream bit ≡ P.reading l stream bit
  pub readings : (stream : ℕ) → P.readings (l ++ x) stream ≡ P.readings l stream
  pub held_words : (stream bit : ℕ) (out : List ℕ) → P.held_words (l ++ x) stream bit out ≡ P.held_words l stream bit out
  pub identity : (stream : ℕ) → P.identity (l ++ x) stream ≡ P.identity l stream
  pub counts : (stream kind : ℕ) → P.counts (l ++ x) stream kind ≡ P.counts l stream kind
  pub own_table : (stream : ℕ) (out : List ℕ) → P.own_table (l ++ x) stream out ≡ P.own_table l stream out
  -- the table before, and the table after
  pub changed_before : (stream : ℕ) (u : List ℕ) (other : ℕ) → P.changed (l ++ x) stream u other ≡ P.changed l stream u other
  pub changed_after : (t : List ℕ) (stream other : ℕ) → P.changed t stream (l ++ x) other ≡ P.changed t stream l other
