-- What growing answers and leaves, on a table and an index that are well made. The idea: reading is asked as play asks it (`grow_read`), so growing refuses
-- what ends the recording as play does (`unread_both`), and takes in what play hears or refuses with STREAM (`read_both`), where there is room.
use Rattle.std.specs.Prelude.{Result, Some, None}
use Rattle.words.proofs.Kit.{◌≡◌, refl, sym, ap, ◌∙◌, Bool, true, false, not, ⊎_elim, List, [], ◌∷◌, ℕ, ◌+◌, ◌%◌, ◌^◌, ◌<◌, arith, not-true, not-false, eqb}
use Rattle.words.proofs.Kit.{get_or}
use Rattle.words.specs.declared.Where.TheVariants.{Nowhere}
use Rattle.words.specs.declared.RefusedAt.{RefusedAt}
use Rattle.words.specs.Numbers.{TABLE, PAGE, ROOM}
use Rattle.words.specs.Tests.{both}
use Rattle.words.specs.Outcome.{Outcome, refused, accepted, onward, Done, said_of, Meets}
use Rattle.words.specs.Refusals.{first_given}
use Rattle.words.specs.Told.{Told, RefusalTold, refusal, told_paper}
use Rattle.words.proofs.Cases.{true_or_false, true_is_false}
use Rattle.words.proofs.RefusalLaws.{onward_first}
use Rattle.packet.specs.declared.Packet.{Packet}
use Rattle.packet.specs.Header.{size_of}
use Rattle.packet.specs.Parts.{packet_of}
use Rattle.packet.specs.Read.{list_by, read_by}
use Rattle.packet.specs.Told.{where_of}
use Rattle.table.specs.Well.{well_made}
use Rattle.play.specs.declared.Heard.{Heard}
use Rattle.play.specs.declared.step.Happened.{Happened}
use Rattle.play.specs.Play.{heard_done, chosen, play_of, play_told}
use Rattle.play.specs.inner.Steps.{sought_of}
use Rattle.play.specs.Run.{goes_on, said_at, left_at, next_of, Stepped}
use Rattle.play.proofs.StreamLaws.{sought_number}
use Rattle.play.proofs.PlayLaws.{step_read, play_step}
use Rattle.play.proofs.EntryLaws.{step_goes, step_stops}
use Rattle.play.proofs.KeepLaws.{kept_at}
use Rattle.play.proofs.BeyondLaws.{goes_read}
use Rattle.index.specs.Layout.{packets_taken}
use Rattle.index.specs.Good.{index_good}
use Rattle.index_grow.specs.declared.Taken.{Taken}
use Rattle.index_grow.specs.Grow.{taken_as, taken_of, table_taken, reaches_entry, entry_lacks, index_then, grown_done, grow_of, grow_told}
use Rattle.index_grow.specs.inner.Steps.{Ready, GrownOn, answer_by, counted_in, EntryTaken}

module _ (t ws ix : List ℕ) (q : Ready t ix) where
  abbrev rest : Outcome (Done Taken (List ℕ × List ℕ))
  rest = first_given ((ROOM, both (reaches_entry ix) (entry_lacks (table_taken t ws) ix)) ∷ []) (accepted (grown_done t ws ix))

  -- ---- as play reads

  pub grow_read : grow_of t ws ix ≡ onward (read_by (chosen t ws) ws) (λ p. rest)
  unfolding grow_of read_by
  grow_read = rw (q.table, q.index) (sym (onward_first (list_by (chosen t ws) (get_or ws 0 0) ws) (packet_of (get_or ws 0 0) ws) (λ p. rest)))

  play_read : play_of t ws
      ≡ onward (read_by (chosen t ws) ws) (λ p. onward (sought_of p.parts.kind p.parts.identifier t) (λ s. accepted (heard_done p s t ws)))
  play_read = play_step t ws q.table ∙ step_read t ws

  -- where the recording goes on, growing looks for room
  pub read_both : goes_on (said_of (play_told t ws)) ≡ true → grow_of t ws ix ≡ rest
  read_both g = let p = goes_read t ws q.table g in grow_read ∙ ap (λ (o : Outcome Packet). onward o (λ x. rest)) p.1

  -- and takes the packet in where it is
  pub grow_accepts : goes_on (said_of (play_told t ws)) ≡ true → both (reaches_entry ix) (entry_lacks (table_taken t ws) ix) ≡ false
      → grow_told t ws ix ≡ accepted (grown_done t ws ix)
  unfolding grow_told
  grow_accepts g h = rw (read_both g, h)

  pub grow_refuses : goes_on (said_of (play_told t ws)) ≡ true → both (reaches_entry ix) (entry_lacks (table_taken t ws) ix) ≡ true
      → grow_told t ws ix ≡ refused (refusal ROOM Nowhere)
  unfolding grow_told where_of
  grow_refuses g h = rw (read_both g, h)

  -- where it ends, both refuse alike
  pub record Unread : Type 0 where
    pub says : RefusalTold
    pub plays : play_told t ws ≡ refused says
    pub grows : grow_told t ws ix ≡ refused says

  unread_by : (o : Outcome Packet) → read_by (chosen t ws) ws ≡ o → goes_on (said_of (play_told t ws)) ≡ false → Unread
  unfolding play_told grow_told
  unread_by (refused n) e g = record {
    says = refusal n (where_of ws n);
    plays = rw (play_read, e);
    grows = rw (grow_read, e);
  }
  unread_by (accepted p) e g = absurd (true_is_false (sym (goes_by (sought_of p.parts.kind p.parts.identifier t) refl) ∙ g))
    where
      goes_by : (o : Outcome ℕ) → sought_of p.parts.kind p.parts.identifier t ≡ o → goes_on (said_of (play_told t ws)) ≡ true
      goes_by (refused n) f = rw (play_read, e, f, sought_number p.parts.kind p.parts.identifier t n f)
      goes_by (accepted s) f = rw (play_read, e, f)

  pub unread_both : goes_on (said_of (play_told t ws)) ≡ false → Unread
  unread_both g = unread_by (read_by (chosen t ws) ws) refl g

  -- ---- the returns: the packet was played as s says, and left the table so

  module _ (s : Happened) (left : List ℕ) (k : Stepped t ws 0 s left) where
    left_is : left ≡ table_taken t ws
    unfolding table_taken left_at
    left_is = k.table

    -- the recording goes on behind the packet, which has so many words
    module _ (size : ℕ) (c : s.next ≡ Some size) where
      goes : goes_on (said_of (play_told t ws)) ≡ true
      unfolding said_at
      goes = (step_goes k size c).0

      size_is : size ≡ size_of (get_or ws 0 0)
      unfolding next_of said_at
      size_is = (step_goes k size c).1 ∙ rw goes (omega arith)

      -- an entry that was asked for and is lacking
      module _ (y : reaches_entry ix ≡ true) (made : Bool) (last : List ℕ) (m : EntryTaken left size ix made last) where
        twice : (b : Bool) → not (not b) ≡ b
        twice true = refl
        twice false = refl

        lacks_is : entry_lacks (table_taken t ws) ix ≡ not made
        lacks_is = rw (← left_is, m.fits) (sym (twice (entry_lacks left ix)))

        pub grown_full : (r : Result Taken RefusedAt) → not made ≡ true → told_paper r ≡ refused (refusal ROOM Nowhere) → GrownOn t ws ix r left last
        grown_full r i g =
            let e = grow_refuses goes (rw (y, lacks_is) i) in
            record { answer = g ∙ sym (ap said_of e); table = left_is; index = m.index ∙ rw (not-true made i, e) }

    -- a is what play answered
    module _ (a : Result Heard RefusedAt) (f : a ≡ s.answer) where
      said_is : told_paper a ≡ said_of (play_told t ws)
      unfolding said_at
      said_is = ap told_paper f ∙ k.answer

      -- where the recording ends
      pub grown_unread : (r : Result Taken RefusedAt) → s.next ≡ None → told_paper r ≡ answer_by (told_paper a) None → GrownOn t ws ix r left ix
      unfolding said_at
      grown_unread r c g =
          let u = unread_both (step_stops k c) in
          let paper : told_paper a ≡ refused u.says = said_is ∙ ap said_of u.plays in
          record { answer = g ∙ rw (paper, u.grows); table = left_is; index = rw u.grows }

      module _ (size : ℕ) (c : s.next ≡ Some size) where
        -- the answer to a packet that is taken in
        taken_by : (o : Told Heard) (n : ℕ) → answer_by o (Some n) ≡ accepted (taken_as o n)
        taken_by (refused r) n = refl
        taken_by (accepted h) n = refl

        taken_is : answer_by (told_paper a) (Some size) ≡ accepted (taken_of t ws)
        taken_is = rw (said_is, size_is size c) (taken_by (said_of (play_told t ws)) (size_of (get_or ws 0 0)))

        grown_on : (r : Result Taken RefusedAt) (last : List ℕ) → reaches_entry ix ≡ false → told_paper r ≡ answer_by (told_paper a) (Some size)
            → last ≡ counted_in size ix → GrownOn t ws ix r left last
        unfolding counted_in index_then
        grown_on r last n g h =
            let e = grow_accepts (goes size c) (rw n) in
            record { answer = g ∙ taken_is ∙ sym (ap said_of e); table = left_is; index = h ∙ rw (e, n, size_is size c) }

        pub grown_entry : (r : Result Taken RefusedAt) (made : Bool) (last : List ℕ) → reaches_entry ix ≡ true
            → EntryTaken left size ix made last → not made ≡ false → told_paper r ≡ answer_by (told_paper a) (Some size) → GrownOn t ws ix r left last
        unfolding index_then
        grown_entry r made last y m i g =
            let e = grow_accepts (goes size c) (rw (y, lacks_is size c y made last m) i) in
            record { answer = g ∙ taken_is ∙ sym (ap said_of e); table = left_is; index = m.index ∙ rw (not-false made i, e, y, size_is size c, left_is) }

-- what is played stays well made, and so a page of it may be saved
pub step_ready : (t ws ix left : List ℕ) (s : Happened) → Ready t ix → Stepped t ws 0 s left → Ready left ix
step_ready t ws ix left s q k = record { table = rw k.table ((kept_at t ws 0).well q.table); index = q.index }

-- ---- the whole: b is the test of the table, and c that of the contents

module _ (t ws ix : List ℕ) (b : Bool) (e : b ≡ well_made t) where
  pub grow_ill : (r : Result Taken RefusedAt) → not b ≡ true → told_paper r ≡ refused (refusal TABLE Nowhere)
      → Meets told_paper (grow_told t ws ix) (t, ix) r (t, ix)
  unfolding grow_told grow_of where_of
  grow_ill r i g = let no : well_made t ≡ false = sym e ∙ not-true b i in record { answer = g ∙ rw no; buffer = rw no }

  module _ (i : not b ≡ false) (c : Bool) (f : c ≡ index_good ix) where
    pub grow_contents : (r : Result Taken RefusedAt) → not c ≡ true → told_paper r ≡ refused (refusal PAGE Nowhere)
        → Meets told_paper (grow_told t ws ix) (t, ix) r (t, ix)
    unfolding grow_told grow_of where_of
    grow_contents r j g =
        let yes : well_made t ≡ true = sym e ∙ not-false b i in
        let no : index_good ix ≡ false = sym f ∙ not-true c j in
        record { answer = g ∙ rw (yes, no); buffer = rw (yes, no) }

    pub grow_ready : not c ≡ false → Ready t ix
    grow_ready j = record { table = sym e ∙ not-false b i; index = sym f ∙ not-false c j }

pub grow_tested : (ix : List ℕ) (c : Bool) → c ≡ index_good ix → not c ≡ false → index_good ix ≡ true
grow_tested ix c f j = sym f ∙ not-false c j

-- whether the next boundary has an entry, n being the packets taken in
pub reaches_is : (ix : List ℕ) (n : ℕ) → (n ≡ packets_taken ix) × (n < 2 ^ 32) → eqb ((n + 1) % 1024) 0 ≡ reaches_entry ix
reaches_is ix n e = rw e.0

pub reaches_yes : (ix : List ℕ) (b : Bool) → b ≡ reaches_entry ix → b ≡ true → reaches_entry ix ≡ true
reaches_yes ix b e i = sym e ∙ i

pub reaches_no : (ix : List ℕ) (b : Bool) → b ≡ reaches_entry ix → b ≡ false → reaches_entry ix ≡ false
reaches_no ix b e i = sym e ∙ i

-- a packet behind which there is no entry, or room for its page: the table that is played on may be the lent one
pub grow_lent : (t ws ix left last : List ℕ) (r : Result Taken RefusedAt) → both (reaches_entry ix) (entry_lacks (table_taken t ws) ix) ≡ false → Ready t ix
    → GrownOn t ws ix r left last → Meets told_paper (grow_told t ws ix) (t, ix) r (left, last)
unfolding table_taken
grow_lent t ws ix left last r n q k =
    ⊎_elim
    (λ (g : goes_on (said_of (play_told t ws)) ≡ true).
    let e = grow_accepts t ws ix q g n in
    record { answer = k.answer; buffer = rw (k.table, k.index, e) })
    (λ (g : goes_on (said_of (play_told t ws)) ≡ false).
    let u = unread_both t ws ix q g in
    record { answer = k.answer; buffer = rw (k.table, k.index, u.grows, u.plays) })
    (true_or_false (goes_on (said_of (play_told t ws))))

module _ (t ws ix : List ℕ) (q : Ready t ix) (n : reaches_entry ix ≡ false) (s : Happened) (left : List ℕ) (k : Stepped t ws 0 s left)
    (a : Result Heard RefusedAt) (f : a ≡ s.answer) (r : Result Taken RefusedAt) where
  pub on_unread : s.next ≡ None → told_paper r ≡ answer_by (told_paper a) None → Meets told_paper (grow_told t ws ix) (t, ix) r (left, ix)
  on_unread c g = grow_lent t ws ix left ix r (rw n) q (grown_unread t ws ix q s left k a f r c g)

  pub on_taken : (size : ℕ) (last : List ℕ) → s.next ≡ Some size → told_paper r ≡ answer_by (told_paper a) (Some size) → last ≡ counted_in size ix
      → Meets told_paper (grow_told t ws ix) (t, ix) r (left, last)
  on_taken size last c g h = grow_lent t ws ix left last r (rw n) q (grown_on t ws ix q s left k a f size c r last n g h)
