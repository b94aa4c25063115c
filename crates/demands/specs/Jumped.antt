-- Jumps: "Demand 3's resuming now speaks of jumps both ways" (document 02, C-16). "With an index grown over this recording from the table at boundary 0, each
-- packet's table handed to the next and recording and index unchanged since, the table equals that from playing all earlier packets on the first."
use Rattle.std.specs.Prelude.{◌≡◌, ℕ, zero, suc, ◌+◌, ◌-◌, ◌≤◌, ◌<◌, true, false, List, [], ◌∷◌, ◌++◌, ltb, length, take, drop, get_or, ◌↔◌, ◌⊎◌}
use Rattle.words.specs.declared.Where.TheVariants.{Nowhere}
use Rattle.words.specs.Numbers.{ROOM, PAGE, PLACE}
use Rattle.words.specs.Tests.{pick, both}
use Rattle.words.specs.Part.{part}
use Rattle.words.specs.Outcome.{refused, accepted, Done, said_of, left_of}
use Rattle.words.specs.Told.{refusal}
use Rattle.packet.specs.Header.{size_of}
use Rattle.table.specs.Layout.{streams_of, layout_words}
use Rattle.table.specs.Well.{well_made}
use Rattle.play.specs.Run.{goes_on}
use Rattle.page.specs.Layout.{page_of, page_length, table_of}
use Rattle.index.specs.Layout.{index_contents, entries_in, packets_taken, place_reached, entry_place, page_in, pages_end}
use Rattle.index.specs.Good.{index_good}
use Rattle.index_grow.specs.declared.Taken.{Taken}
use Rattle.index_grow.specs.Grow.{taken_as, reaches_entry, entry_lacks}
use Rattle.index_jump.specs.declared.Landed.{Landed}
use Rattle.index_jump.specs.Jump.{entry_before, packets_beyond, page_before, entry_serves}
use Rattle.demands.specs.Listing.{Listing}
use Rattle.demands.specs.Trace.{trace_of, answers_after}
use Rattle.demands.specs.Program.{Program, play_all, said_all}
use Rattle.demands.specs.Right.{Right, layout_of, past_of}
use Rattle.demands.specs.Recording.{packets_from}

-- ---- the recording: words whose first is boundary 0

-- the first n packets from a place on, one behind the other by their sizes: each as the words from its place on; and the place behind them
abbrev pub packets_behind : ℕ → List ℕ → ℕ → List (List ℕ)
packets_behind zero ws at = []
packets_behind (suc n) ws at = drop at ws ∷ packets_behind n ws (at + size_of (get_or ws at 0))

abbrev pub place_behind : ℕ → List ℕ → ℕ → ℕ
place_behind zero ws at = at
place_behind (suc n) ws at = place_behind n ws (at + size_of (get_or ws at 0))

-- ---- an index grown over a recording

-- "grown over this recording from the table at boundary 0, each packet's table handed to the next": n packets of ws were taken in, and the table is t then. The
-- words that growing is handed are some of the recording's from the next packet on. An index may be kept elsewhere, as in a file or a longer buffer: all its
-- words up to the end of its pages; and the table may be another with the same layout, such as one that a jump has left
pub data GrownOver (P : Program) (ws first : List ℕ) : ℕ → List ℕ → List ℕ → Type 0 where
  started : {lent : List ℕ} (d : Done ℕ (List ℕ)) → P.start_index first lent ≡ accepted d → GrownOver P ws first 0 first d.leaves
  grown : {n : ℕ} {t ix : List ℕ} → GrownOver P ws first n t ix → (given rest : List ℕ) → drop (place_reached ix) ws ≡ given ++ rest
      → (d : Done Taken (List ℕ × List ℕ)) → P.grow t given ix ≡ accepted d → GrownOver P ws first (suc n) d.leaves.0 d.leaves.1
  moved : {n : ℕ} {t ix : List ℕ} (kept : List ℕ) → GrownOver P ws first n t ix → pages_end ix ≤ length kept
      → take (pages_end ix) kept ≡ take (pages_end ix) ix → GrownOver P ws first n t kept
  landed : {n : ℕ} {t ix : List ℕ} (u : List ℕ) → GrownOver P ws first n t ix
      → take (layout_words (streams_of first)) u ≡ take (layout_words (streams_of first)) t → GrownOver P ws first n u ix

-- the words that a jump to packet n is handed: the recording's from the word place `from` on, which is not behind the entry before the packet; they go on to
-- the packet. From 0 on they may be all of it
pub record Reaching (ws ix : List ℕ) (n from : ℕ) (given : List ℕ) : Type 0 where
  pub rest : List ℕ
  pub cut : drop from ws ≡ given ++ rest
  pub begins : from ≤ entry_place ix (entry_before n)
  pub reaches : place_behind n ws 0 ≤ from + length given

-- the words from the entry before packet n to the next entry, or to the place that was reached
abbrev pub span_end : List ℕ → ℕ → ℕ
span_end ix n = pick (ltb (entry_before n + 1) (entries_in ix)) (entry_place ix (entry_before n + 1)) (place_reached ix)

abbrev pub span_over : List ℕ → List ℕ → ℕ → List ℕ
span_over ws ix n = part (entry_place ix (entry_before n)) (span_end ix n - entry_place ix (entry_before n)) ws

-- for any packet up to those that were taken in, all of the recording will do, and so will these words
abbrev pub Hands : Program → Type 0
Hands P = (ws first : List ℕ) (taken : ℕ) (t ix : List ℕ) → GrownOver P ws first taken t ix → (n : ℕ) → n ≤ taken
    → Reaching ws ix n 0 ws × Reaching ws ix n (entry_place ix (entry_before n)) (span_over ws ix n)

-- "Packets are numbered as `vrtplay` walks them, each read by its stream's choice": those that were taken in are the first of a run over the recording
abbrev pub AsRun : Program → Type 0
AsRun P = (list : Listing) (before : List (List ℕ)) (ws first : List ℕ) → Right list before first → (n : ℕ) (t ix : List ℕ)
    → GrownOver P ws first n t ix → packets_from list n ws 0 ≡ packets_behind n ws 0

-- ---- a jump

-- the table that a jump to packet n leaves: "the table equals that from playing all earlier packets on the first"
pub record Lands (P : Program) (ws first ix : List ℕ) (n from : ℕ) (given lent : List ℕ) : Type 0 where
  pub done : Done Landed (List ℕ)
  pub accepts : P.jump given from ix n lent ≡ accepted done
  pub length : done.says.length ≡ layout_words (streams_of first)
  pub place : done.says.place ≡ place_behind n ws 0
  pub table : take (layout_words (streams_of first)) done.leaves ≡ take (layout_words (streams_of first)) (play_all P first (packets_behind n ws 0))
  pub past : drop (layout_words (streams_of first)) done.leaves ≡ drop (layout_words (streams_of first)) lent
  -- "A jump plays at most 1,023 packets": those from the entry before packet n on, on the table of the entry's page
  pub few : packets_beyond n ≤ 1023
  pub played : take (layout_words (streams_of first)) done.leaves
      ≡ take (layout_words (streams_of first)) (play_all P (table_of (page_before ix n))
      (packets_behind (packets_beyond n) ws (entry_place ix (entry_before n))))

-- a jump to any packet up to those that were taken in, before or behind what was played last, is accepted where there is room
abbrev pub Jumps : Program → Type 0
Jumps P = (ws first : List ℕ) (taken : ℕ) (t ix : List ℕ) → GrownOver P ws first taken t ix → (n : ℕ) → n ≤ taken → (from : ℕ) (given : List ℕ)
    → Reaching ws ix n from given → (lent : List ℕ) → layout_words (streams_of first) ≤ length lent → Lands P ws first ix n from given lent

-- where that table was right for some packets, the landed one is right for them and the earlier packets of the recording, and goes on as the unbroken play does
pub record JumpedTo (P : Program) (list : Listing) (before : List (List ℕ)) (first : List ℕ) (earlier rest : List (List ℕ)) (landed lent : List ℕ)
    : Type 0 where
  pub right : Right list (before ++ earlier) landed
  pub onward : Right list ((before ++ earlier) ++ rest) (play_all P landed rest)
  pub answers : said_all P landed rest ≡ answers_after (trace_of list (before ++ earlier)) (trace_of list rest)
  pub same_answers : said_all P landed rest ≡ said_all P (play_all P first earlier) rest
  pub same_table : layout_of list (play_all P landed rest) ≡ layout_of list (play_all P (play_all P first earlier) rest)
  pub past : past_of list (play_all P landed rest) ≡ past_of list lent

abbrev pub JumpsRight : Program → Type 0
JumpsRight P = (list : Listing) (before : List (List ℕ)) (ws first : List ℕ) → Right list before first → (ix : List ℕ) (n from : ℕ) (given lent : List ℕ)
    → (l : Lands P ws first ix n from given lent) → (rest : List (List ℕ))
    → JumpedTo P list before first (packets_behind n ws 0) rest l.done.leaves lent

-- ---- growing and starting

-- a packet may be taken in: the table and the contents are well made, the recording goes on behind it, and where the boundary behind it has an entry, there is
-- one left and room for the page of the table after the packet
pub record MayGrow (P : Program) (t ws ix : List ℕ) : Type 0 where
  pub table : well_made t ≡ true
  pub contents : index_good ix ≡ true
  pub goes : goes_on (said_of (P.play t ws)) ≡ true
  pub fits : both (reaches_entry ix) (entry_lacks (left_of (P.play t ws) t) ix) ≡ false

-- then it is
abbrev pub GrowsWhere : Program → Type 0
GrowsWhere P = (t ws ix : List ℕ) → MayGrow P t ws ix → (d : Done Taken (List ℕ × List ℕ)) × (P.grow t ws ix ≡ accepted d)

-- "contents for up to 1,024 entries": behind 1,048,575 packets all of them are there, and the next packet, which would reach one more, is refused with ROOM,
-- however long the buffer is
abbrev pub GrowsFull : Program → Type 0
GrowsFull P = (t ws ix : List ℕ) → well_made t ≡ true → index_good ix ≡ true → goes_on (said_of (P.play t ws)) ≡ true → packets_taken ix ≡ 1048575
    → P.grow t ws ix ≡ refused (refusal ROOM Nowhere)

-- growing is play: what it leaves of the table and says of the packet is what play does of the same words, behind which the recording goes on; and contents
-- stay well made, with the packet counted
pub record GrowsAsPlay (P : Program) (t ws ix : List ℕ) (d : Done Taken (List ℕ × List ℕ)) : Type 0 where
  pub goes : goes_on (said_of (P.play t ws)) ≡ true
  pub said : d.says ≡ taken_as (said_of (P.play t ws)) (size_of (get_or ws 0 0))
  pub table : d.leaves.0 ≡ left_of (P.play t ws) t
  pub contents : index_good d.leaves.1 ≡ true
  pub packets : packets_taken d.leaves.1 ≡ packets_taken ix + 1
  pub place : place_reached d.leaves.1 ≡ place_reached ix + size_of (get_or ws 0 0)
  -- "a saved page at .. every 1,024th reached after it, with its word place": the page of the table after the packet
  pub entry : reaches_entry ix ≡ true → (entry_place d.leaves.1 (entries_in ix) ≡ place_reached ix + size_of (get_or ws 0 0))
      × (page_in d.leaves.1 (entries_in ix) ≡ page_of (left_of (P.play t ws) t))

abbrev pub Grows : Program → Type 0
Grows P = (t ws ix : List ℕ) (d : Done Taken (List ℕ × List ℕ)) → P.grow t ws ix ≡ accepted d → GrowsAsPlay P t ws ix d

-- an index starts with contents that are well made, no packets, and "a saved page at packet boundary 0"; and wherever there is room for the contents and the
-- table's page
abbrev pub StartsIndex : Program → Type 0
StartsIndex P = (t ix : List ℕ) (d : Done ℕ (List ℕ)) → P.start_index t ix ≡ accepted d
    → (index_good d.leaves ≡ true) × (packets_taken d.leaves ≡ 0) × (entry_place d.leaves 0 ≡ 0) × (page_in d.leaves 0 ≡ page_of t)

abbrev pub StartsWhere : Program → Type 0
StartsWhere P = (t ix : List ℕ) → well_made t ≡ true → index_contents + page_length t ≤ length ix → (d : Done ℕ (List ℕ)) × (P.start_index t ix ≡ accepted d)

-- "21 PLACE exactly for N above that number", of the packets taken in; contents that are not well made come before
abbrev pub PlaceExact : Program → Type 0
PlaceExact P = (ws : List ℕ) (from : ℕ) (ix : List ℕ) (n : ℕ) (t : List ℕ)
    → (P.jump ws from ix n t ≡ refused PLACE) ↔ ((index_good ix ≡ true) × (packets_taken ix < n))

-- "PAGE for contents or an entry not well made, or an entry from which the recording has no boundary N", and for nothing else
abbrev pub PageExact : Program → Type 0
PageExact P = (ws : List ℕ) (from : ℕ) (ix : List ℕ) (n : ℕ) (t : List ℕ)
    → (P.jump ws from ix n t ≡ refused PAGE) ↔ ((index_good ix ≡ false) ⊎ ((n ≤ packets_taken ix) × (entry_serves ws from ix n ≡ false)))
