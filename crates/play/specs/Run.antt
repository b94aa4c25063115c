-- The walk over a recording. Document 01, of `vrtplay`: it "stops when no word is left"; "STREAM goes on by the size, any other ends at W". What a walk does is
-- what play does, packet by packet.
use Rattle.std.specs.Prelude.{◌≡◌, ℕ, zero, suc, ◌+◌, ◌/◌, Bool, true, List, [], ◌∷◌, ◌++◌, eqb, leb, length, drop, get_or, Option, Some, None}
use Rattle.words.specs.Numbers.{STREAM}
use Rattle.words.specs.Tests.{pick, when}
use Rattle.words.specs.Outcome.{Outcome, refused, accepted, Done, said_of, left_of}
use Rattle.words.specs.Refusals.{first_given}
use Rattle.words.specs.Told.{Told, told_paper, place_word, place_bit}
use Rattle.packet.specs.Header.{size_of}
use Rattle.play.specs.declared.Heard.{Heard}
use Rattle.play.specs.declared.step.Happened.{Happened}
use Rattle.play.specs.declared.run.Entry.{Entry}
use Rattle.play.specs.declared.run.Reached.{Reached}
use Rattle.play.specs.Play.{table_list, play_told}

-- ---- one step

-- a walk goes on behind a packet that is heard, and behind one of no declared stream
abbrev pub goes_on : Told Heard → Bool
goes_on (refused r) = eqb r.number STREAM
goes_on (accepted h) = true

-- what play says of the packet at a place, and the table that it leaves
unfoldable pub said_at : List ℕ → List ℕ → ℕ → Told Heard
said_at t ws at = said_of (play_told t (drop at ws))

unfoldable pub left_at : List ℕ → List ℕ → ℕ → List ℕ
left_at t ws at = left_of (play_told t (drop at ws)) t

-- the place of the next packet: past this one, or this one's own where the walk stops
unfoldable pub next_of : List ℕ → List ℕ → ℕ → ℕ
next_of t ws at = at + when (goes_on (said_at t ws at)) (size_of (get_or ws at 0))

-- the same as a walk's step tells it: nothing where the walk stops
abbrev pub next_told : List ℕ → List ℕ → ℕ → Option ℕ
next_told t ws at = pick (goes_on (said_at t ws at)) (Some (next_of t ws at)) None

-- a step's answer r, and the table afterwards
pub record Stepped (t ws : List ℕ) (at : ℕ) (r : Happened) (left : List ℕ) : Type 0 where
  pub answer : told_paper r.answer ≡ said_at t ws at
  pub next : r.next ≡ next_told t ws at
  pub table : left ≡ left_at t ws at

-- ---- the words that are written of a packet

abbrev pub entry_words : ℕ
entry_words = 5

-- the refusal's number or 0; the words that the walk goes on by; type, stream and missing, or of a refusal the word and the bit that are told, and 0
unfoldable pub entry_of : Told Heard → ℕ → List ℕ
entry_of (refused r) size = r.number ∷ when (eqb r.number STREAM) size ∷ place_word r.place ∷ place_bit r.place ∷ 0 ∷ []
entry_of (accepted h) size = 0 ∷ size ∷ h.kind ∷ h.stream ∷ h.missing ∷ []

unfoldable pub entry_at : List ℕ → List ℕ → ℕ → List ℕ
entry_at t ws at = entry_of (said_at t ws at) (size_of (get_or ws at 0))

abbrev pub words_of_entry : Entry → List ℕ
words_of_entry e = e.number ∷ e.size ∷ e.what ∷ e.which ∷ e.missing ∷ []

-- ---- many

-- how many packets have an entry, the place after them, the table and the entries
pub record Walk : Type 0 where
  pub packets : ℕ
  pub next : ℕ
  pub table : List ℕ
  pub entries : List ℕ

abbrev pub ended : ℕ → List ℕ → Walk
ended at t = record { packets = 0; next = at; table = t; entries = [] }

-- a packet more, before the others
abbrev pub before : List ℕ → Walk → Walk
before entry w = record { packets = suc w.packets; next = w.next; table = w.table; entries = entry ++ w.entries }

-- at most n packets of the words from a place on: until the words end, or a refusal other than STREAM, which still has its entry
unfoldable pub walk_of : ℕ → List ℕ → ℕ → List ℕ → Walk
walk_of zero ws at t = ended at t
walk_of (suc n) ws at t =
    pick (leb (length ws) at) (ended at t)
    (before (entry_at t ws at)
    (pick (goes_on (said_at t ws at)) (walk_of n ws (next_of t ws at) (left_at t ws at)) (ended (next_of t ws at) (left_at t ws at))))

-- the walk that answers of this length have room for
unfoldable pub whole_walk : List ℕ → List ℕ → ℕ → List ℕ → Walk
whole_walk t ws from answers = walk_of (length answers / entry_words) ws from t

abbrev pub reached_of : Walk → Reached
reached_of w = record { packets = w.packets; next = w.next }

-- the entries at the front of the answers
abbrev pub answers_of : Walk → List ℕ → List ℕ
answers_of w answers = w.entries ++ drop (length w.entries) answers

-- a walk's answer r, and the table and the answers afterwards
pub record WalkDone (w : Walk) (buffer : List ℕ) (r : Reached) (left written : List ℕ) : Type 0 where
  pub reached : r ≡ reached_of w
  pub table : left ≡ w.table
  pub answers : written ≡ answers_of w buffer

-- what a run answers, and what it leaves in the table and in the answers: TABLE, or the walk
unfoldable pub run_of : List ℕ → List ℕ → ℕ → List ℕ → Outcome (Done Reached (List ℕ × List ℕ))
run_of t ws from answers =
    let w = whole_walk t ws from answers in
    first_given (table_list t) (accepted (record { says = reached_of w; leaves = (w.table, answers_of w answers) }))
