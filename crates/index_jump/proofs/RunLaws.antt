-- A run of packets, as the walk has them. The idea: by induction over the packets, a run has as many entries as were asked for, and the last one goes on,
-- exactly where the recording has them all; then it stands where they lead (`RunAs`).
use Rattle.std.specs.Prelude.{Ok, Err}
use Rattle.words.proofs.Kit.{◌≡◌, refl, sym, ap, ◌∙◌, true, false, ⊎_elim, List, [], ◌++◌, ℕ, zero, suc, ◌+◌, ◌-◌, ◌*◌, ◌/◌, ◌≤◌, ◌<◌, arith, length, take}
use Rattle.words.proofs.Kit.{drop, get_or}
use lib.ListN.{length-append, get_or-append}
use mathlib.Core.List.{append_assoc}
use lib.Seq.{get_or-append-add, length-take-le}
use Rattle.words.specs.Tests.{when}
use Rattle.words.specs.declared.refusals.Refusal.TheVariants as refusals
use Rattle.words.specs.Outcome.{refused, accepted}
use Rattle.words.specs.Told.{Told}
use Rattle.words.proofs.Cases.{true_or_false, true_is_false, le_or_lt}
use Rattle.packet.specs.Header.{size_of}
use Rattle.table.specs.Well.{well_made}
use Rattle.play.specs.declared.Heard.{Heard}
use Rattle.play.specs.declared.run.Reached.{Reached}
use Rattle.play.specs.Run.{goes_on, said_at, left_at, next_of, entry_words, entry_of, entry_at, Walk, ended, before, walk_of, whole_walk, WalkDone}
use Rattle.play.proofs.KeepLaws.{kept_at}
use Rattle.play.proofs.BeyondLaws.{goes_inside}
use Rattle.play.proofs.RunLaws.{at_length, walk_zero, walk_over, walk_more}
use Rattle.index_jump.specs.Onward.{Behind, behind_packets}
use Rattle.index_jump.specs.inner.Steps.{WalkedTo}
use Rattle.index_jump.proofs.BehindLaws.{none_left, behind_none, behind_on, behind_ended}

-- ---- the second word of an entry: the words that the walk goes on by

second_of : (o : Told Heard) (size : ℕ) → get_or (entry_of o size) 1 0 ≡ when (goes_on o) size
unfolding entry_of
second_of (refused r) size = refl
second_of (accepted h) size = refl

second_at : (t ws : List ℕ) (at : ℕ) (rest : List ℕ) → get_or (entry_at t ws at ++ rest) 1 0 ≡ when (goes_on (said_at t ws at)) (size_of (get_or ws at 0))
unfolding entry_at
second_at t ws at rest =
    get_or-append (entry_at t ws at) rest 0 1 (omega (arith, at_length t ws at)) ∙ second_of (said_at t ws at) (size_of (get_or ws at 0))

-- ---- the last of n entries

abbrev pub last_second : ℕ → List ℕ → ℕ
last_second n entries = get_or entries (entry_words * n - 4) 0

-- behind a first entry
last_more : (n : ℕ) (e rest : List ℕ) → length e ≡ entry_words → last_second (suc (suc n)) (e ++ rest) ≡ last_second (suc n) rest
last_more n e rest l =
    let i : entry_words * suc (suc n) - 4 ≡ length e + (entry_words * suc n - 4) = omega (arith, l) in
    ap (λ (k : ℕ). get_or (e ++ rest) k 0) i ∙ get_or-append-add e rest (entry_words * suc n - 4) 0

last_goes : (n : ℕ) (e rest : List ℕ) → length e ≡ entry_words → 0 < get_or (e ++ rest) 1 0 → (1 ≤ n → 0 < last_second n rest)
    → 0 < last_second (suc n) (e ++ rest)
last_goes zero e rest l h k = h
last_goes (suc n) e rest l h k = rw (last_more n e rest l) (k (omega arith))

last_stops : (n : ℕ) (e rest : List ℕ) → length e ≡ entry_words → 1 ≤ n → last_second n rest ≡ 0 → last_second (suc n) (e ++ rest) ≡ 0
last_stops zero e rest l h k = absurd (omega (arith, h))
last_stops (suc n) e rest l h k = last_more n e rest l ∙ k

-- no packets are always there
some_short : (n : ℕ) (ws : List ℕ) (at : ℕ) (t : List ℕ) → (behind_packets n ws at t).all ≡ false → 1 ≤ n
some_short zero ws at t e = absurd (true_is_false (sym (ap (λ (b : Behind). b.all) (behind_none ws at t)) ∙ e))
some_short (suc n) ws at t e = omega arith

-- a run of n packets, and the packets as they lead on
pub record RunAs (n : ℕ) (w : Walk) (b : Behind) : Type 0 where
  pub long : length w.entries ≡ entry_words * w.packets
  pub there : b.all ≡ true → (w.packets ≡ n) × (w.next ≡ b.place) × (w.table ≡ b.table) × (1 ≤ n → 0 < last_second n w.entries)
  pub short : b.all ≡ false → w.packets ≡ n → 1 ≤ n → last_second n w.entries ≡ 0

abbrev Runs : ℕ → List ℕ → ℕ → List ℕ → Type 0
Runs n ws at t = RunAs n (walk_of n ws at t) (behind_packets n ws at t)

module _ (n : ℕ) (ws : List ℕ) (at : ℕ) (t : List ℕ) (w : well_made t ≡ true) where
  run_over : length ws ≤ at → Runs (suc n) ws at t
  run_over h = rw (walk_over (suc n) ws at t h, behind_ended ws at t n (none_left t ws at w h)) (record {
    long = refl;
    there = λ e. absurd (true_is_false (sym e));
    short = λ e i. absurd (omega (arith, i));
  })

  run_goes : at < length ws → goes_on (said_at t ws at) ≡ true → Runs n ws (next_of t ws at) (left_at t ws at) → Runs (suc n) ws at t
  run_goes h g ih =
      let e : List ℕ = entry_at t ws at in
      let l = at_length t ws at in
      let v : Walk = walk_of n ws (next_of t ws at) (left_at t ws at) in
      let size : 0 < get_or (e ++ v.entries) 1 0 = rw (second_at t ws at v.entries, g) (goes_inside t ws at w g).0 in
      let is : walk_of (suc n) ws at t ≡ before e v = walk_more (suc n) n ws at t refl h ∙ rw g in
      rw (is, behind_on ws at t n g) (record {
        long = omega (arith, length-append e v.entries, l, ih.long);
        there = λ a. let k = ih.there a in (ap suc k.0, k.1, k.2, λ _. last_goes n e v.entries l size k.3);
        short = λ a i _.
            let some = some_short n ws (next_of t ws at) (left_at t ws at) a in
            let j : v.packets ≡ n = omega (arith, i) in
            last_stops n e v.entries l some (ih.short a j some);
      })

  run_stops : at < length ws → goes_on (said_at t ws at) ≡ false → Runs (suc n) ws at t
  run_stops h g =
      let e : List ℕ = entry_at t ws at in
      let v : Walk = ended (next_of t ws at) (left_at t ws at) in
      let is : walk_of (suc n) ws at t ≡ before e v = walk_more (suc n) n ws at t refl h ∙ rw g in
      rw (is, behind_ended ws at t n g) (record {
        long = omega (arith, length-append e [], at_length t ws at);
        there = λ a. absurd (true_is_false (sym a));
        short = λ a i _.
            let j : n ≡ 0 = omega (arith, i) in
            rw j (second_at t ws at [] ∙ rw g);
      })

pub run_as : (n : ℕ) (ws : List ℕ) (at : ℕ) (t : List ℕ) → well_made t ≡ true → Runs n ws at t
run_as zero ws at t w = rw (walk_zero ws at t, behind_none ws at t) (record {
  long = refl;
  there = λ e. (refl, refl, refl, λ h. absurd (omega (arith, h)));
  short = λ e. absurd (true_is_false e);
})
run_as (suc n) ws at t w =
    ⊎_elim (run_over n ws at t w)
    (λ (h : at < length ws).
    ⊎_elim (λ (g : goes_on (said_at t ws at) ≡ true). run_goes n ws at t w h g (run_as n ws (next_of t ws at) (left_at t ws at) ((kept_at t ws at).well w)))
    (run_stops n ws at t w h) (true_or_false (goes_on (said_at t ws at))))
    (le_or_lt (length ws) at)

-- ---- what a run tells, which was lent the first words of a buffer and has written them; `rest` are the others

module _ (n : ℕ) (ws : List ℕ) (from : ℕ) (t buffer : List ℕ) (r : Reached) (left written rest : List ℕ) (w : well_made t ≡ true) (s : 1 ≤ n)
    (l : entry_words * n ≤ length buffer)
    (d : WalkDone (whole_walk t ws from (take (entry_words * n - 0) buffer)) (take (entry_words * n - 0) buffer) r left written)
  where
    abbrev walked : Walk
    walked = walk_of n ws from t

    whole_is : whole_walk t ws from (take (entry_words * n - 0) buffer) ≡ walked
    unfolding whole_walk
    whole_is =
        let k : length (take (entry_words * n - 0) buffer) / entry_words ≡ n =
        omega (arith, length-take-le (entry_words * n - 0) buffer (omega (arith, l))) in
        rw k

    run : RunAs n walked (behind_packets n ws from t)
    run = run_as n ws from t w

    packets_is : r.packets ≡ walked.packets
    packets_is = ap (λ (x : Reached). x.packets) d.reached ∙ ap (λ (v : Walk). v.packets) whole_is

    -- the last entry, where there are as many as were asked for
    last_is : r.packets ≡ n → last_second n (written ++ rest) ≡ last_second n walked.entries
    last_is e =
        let long : length walked.entries ≡ entry_words * n = run.long ∙ ap (λ (k : ℕ). entry_words * k) (sym packets_is ∙ e) in
        let out : written ≡ walked.entries ++ drop (length walked.entries) (take (entry_words * n - 0) buffer) = d.answers ∙ rw whole_is in
        ap (λ (z : List ℕ). last_second n (z ++ rest)) out ∙ ap (last_second n) (append_assoc walked.entries _ rest)
        ∙ get_or-append walked.entries _ 0 (entry_words * n - 4) (omega (arith, long))

    short_by : (behind_packets n ws from t).all ≡ false → WalkedTo (behind_packets n ws from t) (Err refusals.Page) left
    short_by a = record { answer = rw a; table = λ b. absurd (true_is_false (sym b ∙ a)) }

    -- there are fewer
    pub run_fewer : (r.packets ≡ n → ⊥) → WalkedTo (behind_packets n ws from t) (Err refusals.Page) left
    run_fewer other =
        ⊎_elim (λ (a : (behind_packets n ws from t).all ≡ true). absurd (other (packets_is ∙ (run.there a).0))) short_by
        (true_or_false (behind_packets n ws from t).all)

    -- the last is not gone past
    pub run_stopped : r.packets ≡ n → last_second n (written ++ rest) ≡ 0 → WalkedTo (behind_packets n ws from t) (Err refusals.Page) left
    run_stopped e z =
        ⊎_elim (λ (a : (behind_packets n ws from t).all ≡ true). absurd (omega (arith, (run.there a).3 s, last_is e, z))) short_by
        (true_or_false (behind_packets n ws from t).all)

    pub run_there : r.packets ≡ n → (last_second n (written ++ rest) ≡ 0 → ⊥) → WalkedTo (behind_packets n ws from t) (Ok r.next) left
    run_there e z =
        ⊎_elim
        (λ (a : (behind_packets n ws from t).all ≡ true).
        let k = run.there a in
        let next : r.next ≡ (behind_packets n ws from t).place = ap (λ (x : Reached). x.next) d.reached ∙ rw whole_is k.1 in
        record { answer = rw (a, next); table = λ _. d.table ∙ rw whole_is k.2 })
        (λ (a : (behind_packets n ws from t).all ≡ false). absurd (z (last_is e ∙ run.short a (sym packets_is ∙ e) s)))
        (true_or_false (behind_packets n ws from t).all)
