-- Many packets in one slice of words: `play_run` plays a recording as `play` plays its packets. Document 01, of `vrtplay`: it "stops when no word is left";
-- "STREAM goes on by the size, any other ends at W".
use Rattle.std.specs.Prelude.{◌≡◌, ℕ, zero, suc, ◌+◌, ◌/◌, Bool, true, List, [], ◌∷◌, ◌++◌, eqb, leb, length, get_or, drop}
use Rattle.words.specs.Numbers.{STREAM}
use Rattle.words.specs.Tests.{pick, when}
use Rattle.words.specs.Outcome.{refused, accepted, Done}
use Rattle.words.specs.Told.{Told}
use Rattle.packet.specs.Header.{size_of}
use Rattle.play.specs.declared.Heard.{Heard}
use Rattle.play.specs.declared.run.Reached.{Reached}
use Rattle.play.specs.Run.{entry_words, entry_of}
use Rattle.demands.specs.Listing.{Listing}
use Rattle.demands.specs.Trace.{Arrival, heard_by, trace_of, answers_after}
use Rattle.demands.specs.Program.{Program}
use Rattle.demands.specs.Right.{Right, past_of}

-- a recording goes on behind a packet that is accepted, and behind one of no declared stream
abbrev pub goes_past : Told Arrival → Bool
goes_past (refused r) = eqb r.number STREAM
goes_past (accepted a) = true

-- the packets of a recording from a place on, at most n: each as the words from its place on
abbrev pub packets_from : Listing → ℕ → List ℕ → ℕ → List (List ℕ)
packets_from list zero ws at = []
packets_from list (suc n) ws at =
    pick (leb (length ws) at) []
    (drop at ws ∷ pick (goes_past (heard_by list (drop at ws))) (packets_from list n ws (at + size_of (get_or ws at 0))) [])

-- what is written of some packets, by their answers: an entry for each
abbrev pub entries_of : List (List ℕ) → List (Told Heard) → List ℕ
entries_of [] answers = []
entries_of (ws ∷ packets) [] = []
entries_of (ws ∷ packets) (x ∷ answers) = entry_of x (size_of (get_or ws 0 0)) ++ entries_of packets answers

-- the words that a run goes on by: the sizes of the packets that it goes past. One that ends it is not gone past, so the run stops at that packet's own place
abbrev pub words_past : Listing → List (List ℕ) → ℕ
words_past list [] = 0
words_past list (ws ∷ packets) = when (goes_past (heard_by list ws)) (size_of (get_or ws 0 0)) + words_past list packets

-- a run on a table that is right for some packets is accepted. It says how many packets have entries, and where it stopped: past the last, or at the place of
-- the one that ends it. The table is right for these packets too, and its words past the layout stay; the entries are those of the answers that the rules give,
-- and the words behind them stay. There are as many packets as there is room for entries, unless the recording ends before.
pub record RunRight (P : Program) (list : Listing) (before : List (List ℕ)) (t ws : List ℕ) (from : ℕ) (out : List ℕ) (packets : List (List ℕ)) : Type 0 where
  pub done : Done Reached (List ℕ × List ℕ)
  pub accepts : P.play_run t ws from out ≡ accepted done
  pub entered : done.says.packets ≡ length packets
  pub next : done.says.next ≡ from + words_past list packets
  pub right : Right list (before ++ packets) done.leaves.0
  pub past : past_of list done.leaves.0 ≡ past_of list t
  pub entries : let es = entries_of packets (answers_after (trace_of list before) (trace_of list packets)) in done.leaves.1 ≡ es ++ drop (length es) out

abbrev pub Runs : Program → Type 0
Runs P = (list : Listing) (before : List (List ℕ)) (t : List ℕ) → Right list before t → (ws : List ℕ) (from : ℕ) (out : List ℕ)
    → RunRight P list before t ws from out (packets_from list (length out / entry_words) ws from)
