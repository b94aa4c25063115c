-- Stopping and resuming: "Save a page after any packet, put it back where there is room, play the rest: every answer and the final table equal those of the
-- unbroken play." All is said of any table that is right for the packets so far, so of one that was put back too: the crews "stop and resume all day".
use Rattle.std.specs.Prelude.{◌≡◌, ℕ, ◌+◌, ◌*◌, ◌≤◌, ◌<◌, List, [], ◌∷◌, ◌++◌, length, take, drop}
use Rattle.words.specs.Numbers.{ROOM}
use Rattle.words.specs.Outcome.{refused, accepted, Done, said_of, left_of}
use Rattle.words.specs.Told.{Told}
use Rattle.table.specs.Layout.{layout_words}
use Rattle.play.specs.declared.Heard.{Heard}
use Rattle.page.specs.Layout.{length_at}
use Rattle.demands.specs.Listing.{Listing, streams_in}
use Rattle.demands.specs.Trace.{trace_of, answers_after}
use Rattle.demands.specs.Program.{Program, play_all, said_all}
use Rattle.demands.specs.Right.{Right, layout_of, past_of}

-- ---- one stop

-- the table t saves the page into every buffer where it fits, and leaves the words past it
abbrev pub SavesAs : Program → (t page : List ℕ) → Type 0
SavesAs P t page = (lent : List ℕ) → length page ≤ length lent
    → P.save t lent ≡ accepted (record { says = length page; leaves = page ++ drop (length page) lent })

-- "Save a page after any packet": there is a page, of "2 + 17S to 2 + 90S" words (document 02, C-13); it is refused only where it does not fit, with
-- ROOM
pub record Saves (P : Program) (list : Listing) (t : List ℕ) : Type 0 where
  pub page : List ℕ
  pub least : 2 + 17 * streams_in list ≤ length page
  pub most : length page ≤ 2 + 90 * streams_in list
  -- a body has at most 88 words, by the contents: "at most 87 words" (C-11), and the choice
  pub bodies : (s : ℕ) → s < streams_in list → length_at page s ≤ 88
  pub fits : SavesAs P t page
  pub short : (lent : List ℕ) → length lent < length page → P.save t lent ≡ refused ROOM

-- "put it back where there is room, play the rest": t is right for the packets `first`, its page is put back into the table `lent`, and `rest` is played. By
-- the rules first: the table is right for all the packets, and the answers are those of the rules; then as the unbroken play, which goes on with t.
pub record Resumes (P : Program) (list : Listing) (t : List ℕ) (first rest : List (List ℕ)) (page lent : List ℕ) : Type 0 where
  pub done : Done ℕ (List ℕ)
  pub accepts : P.put_back page lent ≡ accepted done
  pub says : done.says ≡ layout_words (streams_in list)
  pub right : Right list (first ++ rest) (play_all P done.leaves rest)
  pub answers : said_all P done.leaves rest ≡ answers_after (trace_of list first) (trace_of list rest)
  pub same_answers : said_all P done.leaves rest ≡ said_all P t rest
  pub same_table : layout_of list (play_all P done.leaves rest) ≡ layout_of list (play_all P t rest)
  pub past : past_of list (play_all P done.leaves rest) ≡ past_of list lent

-- ---- any number of stops

-- a stop of a day: the packets that the day had before it, and the page that was saved
pub record Stop : Type 0 where
  pub after : List (List ℕ)
  pub page : List ℕ

-- a day, from where it has had the packets `before` and its table is t: a packet is played; or the table is saved into some buffer, its page is put back into
-- some other lent table, and the day goes on with that one. The packets still to come, their answers, the stops and the table at last.
pub data Day (P : Program) : List (List ℕ) → List ℕ → List (List ℕ) → List (Told Heard) → List Stop → List ℕ → Type 0 where
  over : {before : List (List ℕ)} {t : List ℕ} → Day P before t [] [] [] t
  plays : {before packets : List (List ℕ)} {t last : List ℕ} {answers : List (Told Heard)} {stops : List Stop} (ws : List ℕ)
      → Day P (before ++ (ws ∷ [])) (left_of (P.play t ws) t) packets answers stops last
      → Day P before t (ws ∷ packets) (said_of (P.play t ws) ∷ answers) stops last
  stops : {before packets : List (List ℕ)} {t last : List ℕ} {answers : List (Told Heard)} {later : List Stop}
      (buffer lent : List ℕ) (saved back : Done ℕ (List ℕ)) → P.save t buffer ≡ accepted saved
      → P.put_back (take saved.says saved.leaves) lent ≡ accepted back → Day P before back.leaves packets answers later last
      → Day P before t packets answers (record { after = before; page = take saved.says saved.leaves } ∷ later) last

-- each page is the one that the unbroken play, which began with t, saves after the same packets
abbrev pub SamePages : Program → List ℕ → List Stop → Type 0
SamePages P t [] = Unit
SamePages P t (s ∷ later) = SavesAs P (play_all P t s.after) s.page × SamePages P t later

-- a day that began with a table t that is right for the packets `first`
pub record DayRight (P : Program) (list : Listing) (first : List (List ℕ)) (t : List ℕ) (packets : List (List ℕ)) (answers : List (Told Heard))
    (stops : List Stop) (last : List ℕ) : Type 0 where
  pub right : Right list (first ++ packets) last
  pub ruled : answers ≡ answers_after (trace_of list first) (trace_of list packets)
  pub same_answers : answers ≡ said_all P t packets
  pub same_table : layout_of list last ≡ layout_of list (play_all P t packets)
  pub same_pages : SamePages P t stops
