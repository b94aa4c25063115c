-- Demand 3, of calls as they are made: outcomes, answer and lent words, of which nothing is known but that each meets its call's promise. These are the
-- outcomes of the code, since its `ensures` are these promises.
use Rattle.std.specs.Prelude.{◌≡◌, ℕ, suc, ◌≤◌, ◌<◌, List, [], ◌∷◌, ◌++◌, length, take, drop, map, Result}
use Rattle.words.specs.declared.refusals.Refusal.{Refusal}
use Rattle.words.specs.Listed.{on_paper}
use Rattle.words.specs.Outcome.{accepted, Meets}
use Rattle.table.specs.Layout.{streams_of, layout_words, record_at}
use Rattle.table.specs.Start.{start_of}
use Rattle.words.specs.declared.RefusedAt.{RefusedAt}
use Rattle.words.specs.Told.{told_paper}
use Rattle.play.specs.declared.Heard.{Heard}
use Rattle.play.specs.Play as Play
use Rattle.page.specs.Save.{save_of}
use Rattle.page.specs.PutBack.{put_back_of}
use Rattle.index.specs.Layout.{place_reached, pages_end}
use Rattle.index.specs.Start.{start_index_of}
use Rattle.index_grow.specs.declared.Taken.{Taken}
use Rattle.index_grow.specs.Grow.{grow_told}
use Rattle.index_jump.specs.declared.Landed.{Landed}
use Rattle.index_jump.specs.Jump.{jump_of}
use Rattle.demands.specs.Listing.{Listing, streams_in}
use Rattle.demands.specs.Trace.{trace_of, answers_after}
use Rattle.demands.specs.Right.{Right, layout_of}
use Rattle.demands.specs.Resumed.{Stop}
use Rattle.demands.specs.Jumped.{packets_behind, place_behind, Reaching}
use Rattle.demands.specs.Altered.{Altered, own_answers}

-- what play answers
abbrev pub Played : Type 0
Played = Result Heard RefusedAt

-- `start` was called with a list and a lent table, was accepted, and left the table t
pub record StartMade (list : Listing) (lent t : List ℕ) : Type 0 where
  pub answer : Result ℕ Refusal
  pub says : ℕ
  pub meets : Meets on_paper (start_of list.ids list.choices lent) lent answer t
  pub accepts : on_paper answer ≡ accepted says

-- `play` was called with each of the packets, one after the other, on a table that was t at first; its answers, and the table at last
pub data PlaysMade : List ℕ → List (List ℕ) → List Played → List ℕ → Type 0 where
  none : {t : List ℕ} → PlaysMade t [] [] t
  next : {t ws after last : List ℕ} {packets : List (List ℕ)} {r : Played} {rs : List Played} → Meets told_paper (Play.play_told t ws) t r after
      → PlaysMade after packets rs last → PlaysMade t (ws ∷ packets) (r ∷ rs) last

-- `save` was called with a table and a lent buffer, was accepted, and wrote the page
pub record SaveMade (t page : List ℕ) : Type 0 where
  pub answer : Result ℕ Refusal
  pub says : ℕ
  pub lent : List ℕ
  pub left : List ℕ
  pub meets : Meets on_paper (save_of t lent) lent answer left
  pub accepts : on_paper answer ≡ accepted says
  pub wrote : page ≡ take says left

-- `put_back` was called with a page and a lent table, was accepted, and left the table t
pub record BackMade (page t : List ℕ) : Type 0 where
  pub answer : Result ℕ Refusal
  pub says : ℕ
  pub lent : List ℕ
  pub meets : Meets on_paper (put_back_of page lent) lent answer t
  pub accepts : on_paper answer ≡ accepted says

-- a day of calls, as `Day` has it: `play` is called with a packet; or `save` and `put_back` are, and the day goes on with the table that was put back
pub data DayMade : List (List ℕ) → List ℕ → List (List ℕ) → List Played → List Stop → List ℕ → Type 0 where
  over : {before : List (List ℕ)} {t : List ℕ} → DayMade before t [] [] [] t
  plays : {before packets : List (List ℕ)} {t ws after last : List ℕ} {r : Played} {rs : List Played} {stops : List Stop}
      → Meets told_paper (Play.play_told t ws) t r after → DayMade (before ++ (ws ∷ [])) after packets rs stops last
      → DayMade before t (ws ∷ packets) (r ∷ rs) stops last
  stops : {before packets : List (List ℕ)} {t page back last : List ℕ} {rs : List Played} {later : List Stop} → SaveMade t page → BackMade page back
      → DayMade before back packets rs later last → DayMade before t packets rs (record { after = before; page = page } ∷ later) last

-- each page is the one that the unbroken play, which began with t, saves after the same packets
abbrev pub SamePagesMade : List ℕ → List Stop → Type 0
SamePagesMade t [] = Unit
SamePagesMade t (s ∷ later) =
    ((u page : List ℕ) (heard : List Played) → PlaysMade t s.after heard u → SaveMade u page → page ≡ s.page) × SamePagesMade t later

-- `start_index` was called with the table `first`, and `grow` with each packet of the recording ws, one after the other, and all were accepted; in between the
-- index may have been kept elsewhere, and the table be another with the same layout; the packets, and the table and the index at last
pub data GrowsMade (ws first : List ℕ) : ℕ → List ℕ → List ℕ → Type 0 where
  started : {ix : List ℕ} {r : Result ℕ Refusal} {n : ℕ} (lent : List ℕ) → Meets on_paper (start_index_of first lent) lent r ix → on_paper r ≡ accepted n
      → GrowsMade ws first 0 first ix
  grown : {n : ℕ} {t ix after index : List ℕ} {r : Result Taken RefusedAt} {x : Taken} (given rest : List ℕ) → GrowsMade ws first n t ix
      → drop (place_reached ix) ws ≡ given ++ rest → Meets told_paper (grow_told t given ix) (t, ix) r (after, index) → told_paper r ≡ accepted x
      → GrowsMade ws first (suc n) after index
  moved : {n : ℕ} {t ix : List ℕ} (kept : List ℕ) → GrowsMade ws first n t ix → pages_end ix ≤ length kept
      → take (pages_end ix) kept ≡ take (pages_end ix) ix → GrowsMade ws first n t kept
  landed : {n : ℕ} {t ix : List ℕ} (u : List ℕ) → GrowsMade ws first n t ix
      → take (layout_words (streams_of first)) u ≡ take (layout_words (streams_of first)) t → GrowsMade ws first n u ix

-- `jump` has answered, and left a table in the words that were lent: that of the calls of `play` with all earlier packets on the first table, and then the
-- words past it as they were; and if the first was right for some packets, it is right for them and the earlier ones
pub record JumpMade (ws first : List ℕ) (n : ℕ) (lent : List ℕ) (r : Result Landed Refusal) (last : List ℕ) : Type 0 where
  pub accepts : on_paper r ≡ accepted (record { length = layout_words (streams_of first); place = place_behind n ws 0 })
  pub table : (whole : List ℕ) (answers : List Played) → PlaysMade first (packets_behind n ws 0) answers whole
      → take (layout_words (streams_of first)) last ≡ take (layout_words (streams_of first)) whole
  pub past : drop (layout_words (streams_of first)) last ≡ drop (layout_words (streams_of first)) lent
  pub right : (list : Listing) (before : List (List ℕ)) → Right list before first → Right list (before ++ packets_behind n ws 0) last

-- what the rules say of played packets: the table, and the answers
pub record Ruled (list : Listing) (before packets : List (List ℕ)) (answers : List Played) (t : List ℕ) : Type 0 where
  pub table : Right list (before ++ packets) t
  pub said : map told_paper answers ≡ answers_after (trace_of list before) (trace_of list packets)

pub record Demand3Made : Type 0 where
  -- "Start a fresh table for any valid list of streams and play any packets, refused ones among them."
  pub plays : (list : Listing) (lent t last : List ℕ) (packets : List (List ℕ)) (answers : List Played) → StartMade list lent t
      → PlaysMade t packets answers last
      → Ruled list [] packets answers last
  -- "Save a page after any packet, put it back where there is room": it is accepted there
  pub puts_back : (list : Listing) (packets : List (List ℕ)) (t page room back : List ℕ) (r : Result ℕ Refusal) → Right list packets t → SaveMade t page
      → layout_words (streams_in list) ≤ length room → Meets on_paper (put_back_of page room) room r back → on_paper r
      ≡ accepted (layout_words (streams_in list))
  -- "play the rest", with any number of stops
  pub days : (list : Listing) (lent t last : List ℕ) (packets : List (List ℕ)) (answers : List Played) (stops : List Stop) → StartMade list lent t
      → DayMade [] t packets answers stops last → Ruled list [] packets answers last × SamePagesMade t stops
  -- "every answer and the final table equal those of the unbroken play"
  pub unbroken : (list : Listing) (lent t last whole : List ℕ) (packets : List (List ℕ)) (answers all : List Played) (stops : List Stop) → StartMade list lent t
      → DayMade [] t packets answers stops last → PlaysMade t packets all whole
      → (layout_of list last ≡ layout_of list whole) × (map told_paper answers ≡ map told_paper all)
  -- document 02, C-16: "the table equals that from playing all earlier packets on the first", of `jump` called with such an index
  pub jumps : (ws first : List ℕ) (taken : ℕ) (t ix : List ℕ) → GrowsMade ws first taken t ix → (n : ℕ) → n ≤ taken → (from : ℕ) (given : List ℕ)
      → Reaching ws ix n from given → (lent last : List ℕ) (r : Result Landed Refusal) → layout_words (streams_of first) ≤ length lent
      → Meets on_paper (jump_of given from ix n lent) lent r last → JumpMade ws first n lent r last
  -- "other streams' packets may be altered at will, none becoming this stream's, without altering this stream's answers or record"
  pub apart : (list : Listing) (lent room t u last other : List ℕ) (ps qs : List (List ℕ)) (answers others : List Played) (s : ℕ)
      → StartMade list lent t → PlaysMade t ps answers last → StartMade list room u → PlaysMade u qs others other → s < streams_in list → Altered list s ps qs
      → (record_at s last ≡ record_at s other) × (own_answers list s ps (map told_paper answers) ≡ own_answers list s qs (map told_paper others))
