-- A run plays a recording's packets. The idea: a walk goes on exactly where the trace does (`on_same`), since what play says is what the rules say; so the
-- walk's table and entries are those of playing its packets one by one (`walked`).
use Rattle.words.proofs.Kit.{◌≡◌, refl, sym, ap, ◌∙◌, true, false, ⊎_elim, List, [], ◌∷◌, ◌++◌, ℕ, zero, suc, ◌+◌, ◌/◌, ◌≤◌, ◌<◌, arith, le-leb, lt-leb}
use Rattle.words.proofs.Kit.{length, get_or, drop}
use native.Mathlib.Nat.{add-zero}
use lib.Seq.{get_or-drop}
use Rattle.words.specs.Told.{Told}
use Rattle.words.specs.Outcome.{refused, accepted, said_of, left_of}
use Rattle.words.proofs.Cases.{le_or_lt, true_or_false}
use Rattle.packet.specs.Header.{size_of}
use Rattle.play.specs.Play.{play_told}
use Rattle.play.specs.Run.{goes_on, said_at, left_at, next_of, entry_words, entry_of, entry_at, Walk, walk_of, whole_walk, reached_of, answers_of, run_of}
use Rattle.demands.specs.Listing.{Listing}
use Rattle.demands.specs.Trace.{Arrival, Trace, heard_by, trace_of, answer_to}
use Rattle.demands.specs.Program.{ours, play_all, said_all}
use Rattle.demands.specs.Right.{Right, past_of}
use Rattle.demands.specs.Recording.{goes_past, packets_from, entries_of, words_past, Runs}
use Rattle.demands.proofs.RightLaws.{right_more, right_answer, right_on, answers_on, past_on}

said_goes : (before : Trace) (x : Told Arrival) → goes_on (answer_to before x) ≡ goes_past x
said_goes before (refused n) = refl
said_goes before (accepted a) = refl

pub on_same : (list : Listing) (before : List (List ℕ)) (t : List ℕ) → Right list before t → (ws : List ℕ)
    → goes_on (said_of (play_told t ws)) ≡ goes_past (heard_by list ws)
on_same list before t r ws = ap goes_on (right_answer list before t r ws) ∙ said_goes (trace_of list before) (heard_by list ws)

-- a walk from a place on, and its packets played one by one
record Walked (list : Listing) (at : ℕ) (t : List ℕ) (packets : List (List ℕ)) (w : Walk) : Type 0 where
  entered : w.packets ≡ length packets
  next : w.next ≡ at + words_past list packets
  table : w.table ≡ play_all ours t packets
  entries : w.entries ≡ entries_of packets (said_all ours t packets)

walked : (list : Listing) (n : ℕ) (ws : List ℕ) (at : ℕ) (before : List (List ℕ)) (t : List ℕ) → Right list before t
    → Walked list at t (packets_from list n ws at) (walk_of n ws at t)
unfolding walk_of said_at left_at next_of entry_at
walked list zero ws at before t r = record { entered = refl; next = sym (add-zero at); table = refl; entries = refl }
walked list (suc n) ws at before t r =
    let next : ℕ = at + size_of (get_or ws at 0) in
    let left : List ℕ = left_of (play_told t (drop at ws)) t in
    let first : size_of (get_or ws at 0) ≡ size_of (get_or (drop at ws) 0 0) =
    ap size_of (ap (λ (i : ℕ). get_or ws i 0) (sym (add-zero at)) ∙ sym (get_or-drop at ws 0 0)) in
    let says = said_of (play_told t (drop at ws)) in
    let entry : entry_of says (size_of (get_or ws at 0)) ≡ entry_of says (size_of (get_or (drop at ws) 0 0)) = ap (entry_of says) first in
    let same = on_same list before t r (drop at ws) in
    ⊎_elim (λ (h : length ws ≤ at). rw (le-leb (length ws) at h) (record { entered = refl; next = sym (add-zero at); table = refl; entries = refl }))
    (λ (h : at < length ws).
    ⊎_elim
    (λ (e : goes_past (heard_by list (drop at ws)) ≡ true).
    let ih = walked list n ws next (before ++ (drop at ws ∷ [])) left (right_more list before t r (drop at ws)) in
    rw (lt-leb (length ws) at h, same, e)
    (record {
      entered = ap suc ih.entered;
      next = rw e (omega (arith, ih.next, first));
      table = ih.table;
      entries = rw entry (ap (λ (l : List ℕ). entry_of (said_of (play_told t (drop at ws))) (size_of (get_or (drop at ws) 0 0)) ++ l) ih.entries);
    }))
    (λ (e : goes_past (heard_by list (drop at ws)) ≡ false).
    rw (lt-leb (length ws) at h, same, e) (record { entered = refl; next = rw e; table = refl; entries = ap (λ (l : List ℕ). l ++ []) entry }))
    (true_or_false (goes_past (heard_by list (drop at ws)))))
    (le_or_lt (length ws) at)

pub runs : Runs ours
unfolding run_of whole_walk
runs list before t r ws from out =
    let n : ℕ = length out / entry_words in
    let packets : List (List ℕ) = packets_from list n ws from in
    let k = walked list n ws from before t r in
    let w : Walk = walk_of n ws from t in
    record {
      done = record { says = reached_of w; leaves = (w.table, answers_of w out) };
      accepts = rw r.made;
      entered = k.entered;
      next = k.next;
      right = rw k.table (right_on list before packets t r);
      past = ap (past_of list) k.table ∙ past_on list packets t r.streams;
      entries = ap (λ (es : List ℕ). es ++ drop (length es) out) (k.entries ∙ ap (entries_of packets) (answers_on list before packets t r));
    }
