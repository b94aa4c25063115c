-- Streams do not touch one another. The idea: the rules look at a stream's own packets alone, so two recordings with the same own packets (`own_altered`) give
-- the same rules for its record, hence the same words (`records_same`), and the same answers (`own_answers_lem`).
use Rattle.words.proofs.Kit.{◌≡◌, refl, sym, ap, ◌∙◌, Bool, false, ⊎_elim, List, [], ◌∷◌, ◌++◌, ℕ, ◌<◌, eqb-true, eqb}
use mathlib.Core.List.{map, append-nil}
use Rattle.words.specs.Tests.{pick}
use Rattle.words.specs.Told.{Told}
use Rattle.words.specs.Outcome.{refused, accepted}
use Rattle.words.proofs.Cases.{true_or_false}
use Rattle.table.specs.Layout.{record_at}
use Rattle.play.specs.declared.Heard.{Heard}
use Rattle.demands.specs.Listing.{Listing, streams_in}
use Rattle.demands.specs.Trace.{Arrival, Trace, heard_by, trace_of, is_own, own, counts_of, added_after, answer_to, answers_after}
use Rattle.demands.specs.Program.{ours, play_all, said_all}
use Rattle.demands.specs.Right.{Right}
use Rattle.demands.specs.Altered.{Altered, ended, same, changed, added, dropped, own_answers, accepted_of, RefusedApart}
use Rattle.demands.proofs.RuleLaws.{own_append}
use Rattle.demands.proofs.HearingLaws.{play_is}
use Rattle.demands.proofs.RightLaws.{right_listed, trace_append, right_on, answers_on}
use Rattle.demands.proofs.Determined.{records_same, layouts_same}

-- ---- a stream's own packets

own_not : (s : ℕ) (x : Told Arrival) (trace : Trace) → is_own s x ≡ false → own s (x ∷ trace) ≡ own s trace
own_not s (refused n) trace e = refl
own_not s (accepted a) trace e = rw e

own_same : (s : ℕ) (x : Told Arrival) (xs ys : Trace) → own s xs ≡ own s ys → own s (x ∷ xs) ≡ own s (x ∷ ys)
own_same s (refused n) xs ys e = e
own_same s (accepted a) xs ys e = rw e

pub own_altered : (list : Listing) (s : ℕ) {ps qs : List (List ℕ)} → Altered list s ps qs → own s (trace_of list ps) ≡ own s (trace_of list qs)
own_altered list s ended = refl
own_altered list s (same {ps} {qs} ws a) = own_same s (heard_by list ws) (trace_of list ps) (trace_of list qs) (own_altered list s a)
own_altered list s (changed {ps} {qs} ws vs e f a) =
    own_not s (heard_by list ws) (trace_of list ps) e ∙ own_altered list s a ∙ sym (own_not s (heard_by list vs) (trace_of list qs) f)
own_altered list s (added {ps} {qs} vs f a) = own_altered list s a ∙ sym (own_not s (heard_by list vs) (trace_of list qs) f)
own_altered list s (dropped {ps} {qs} ws e a) = own_not s (heard_by list ws) (trace_of list ps) e ∙ own_altered list s a

-- ---- the answers to them

-- by the stream's own packets before each
own_heard : List Arrival → Arrival → Told Heard
own_heard before a = accepted (record { size = a.size; kind = a.kind; stream = a.stream; missing = added_after (counts_of a.kind before) a.count })

own_rule : List Arrival → List Arrival → List (Told Heard)
own_rule before [] = []
own_rule before (a ∷ later) = own_heard before a ∷ own_rule (before ++ (a ∷ [])) later

chosen : (s : ℕ) (x : Told Arrival) (before later : Trace) (answers : List (Told Heard)) → answers ≡ own_rule (own s (before ++ (x ∷ []))) (own s later)
    → pick (is_own s x) (answer_to before x ∷ answers) answers ≡ own_rule (own s before) (own s (x ∷ later))
unfolding own_rule own_heard
chosen s (refused n) before later answers e =
    e ∙ ap (λ (l : List Arrival). own_rule l (own s later)) (own_append s before (refused n ∷ []) ∙ append-nil (own s before))
chosen s (accepted a) before later answers e =
    ⊎_elim
    (λ t.
    let k : a.stream ≡ s = eqb-true a.stream s t in
    let o : own s (before ++ (accepted a ∷ [])) ≡ own s before ++ (a ∷ []) = own_append s before (accepted a ∷ []) ∙ rw t in
    rw (t, e, o) (ap (λ (n : ℕ). own_heard (own n before) a ∷ own_rule (own s before ++ (a ∷ [])) (own s later)) k))
    (λ t.
    let o : own s (before ++ (accepted a ∷ [])) ≡ own s before = own_append s before (accepted a ∷ []) ∙ rw t (append-nil (own s before)) in
    ap (λ (b : Bool). pick b (answer_to before (accepted a) ∷ answers) answers) t ∙ e ∙ ap (λ (l : List Arrival). own_rule l (own s later)) o
    ∙ ap (λ (b : Bool). own_rule (own s before) (pick b (a ∷ own s later) (own s later))) (sym t))
    (true_or_false (eqb a.stream s))

own_answers_lem : (list : Listing) (s : ℕ) (before : Trace) (packets : List (List ℕ))
    → own_answers list s packets (answers_after before (trace_of list packets)) ≡ own_rule (own s before) (own s (trace_of list packets))
unfolding own_rule
own_answers_lem list s before [] = refl
own_answers_lem list s before (ws ∷ packets) =
    chosen s (heard_by list ws) before (trace_of list packets) _ (own_answers_lem list s (before ++ (heard_by list ws ∷ [])) packets)

-- ---- other streams' packets altered

pub apart : (list : Listing) (t u : List ℕ) → Right list [] t → Right list [] u → (s : ℕ) → s < streams_in list → (ps qs : List (List ℕ)) → Altered list s ps qs
    → (record_at s (play_all ours t ps) ≡ record_at s (play_all ours u qs))
    × (own_answers list s ps (said_all ours t ps) ≡ own_answers list s qs (said_all ours u qs))
apart list t u r q s h ps qs a =
    let o = own_altered list s a in
    let x : Right list ps (play_all ours t ps) = right_on list [] ps t r in
    let y : Right list qs (play_all ours u qs) = right_on list [] qs u q in (
      records_same list ps qs _ _ x y s h o,
      ap (own_answers list s ps) (answers_on list [] ps t r) ∙ own_answers_lem list s [] ps ∙ ap (own_rule []) o
          ∙ sym (ap (own_answers list s qs) (answers_on list [] qs u q) ∙ own_answers_lem list s [] qs),
    )

-- ---- refused packets

-- a trace without its refused packets
abbrev unrefused : Trace → Trace
unrefused trace = map accepted (accepted_of trace)

unrefused_append : (xs ys : Trace) → unrefused (xs ++ ys) ≡ unrefused xs ++ unrefused ys
unrefused_append [] ys = refl
unrefused_append (refused n ∷ xs) ys = unrefused_append xs ys
unrefused_append (accepted a ∷ xs) ys = ap (λ (l : Trace). accepted a ∷ l) (unrefused_append xs ys)

own_unrefused : (s : ℕ) (trace : Trace) → own s trace ≡ own s (unrefused trace)
own_unrefused s [] = refl
own_unrefused s (refused n ∷ trace) = own_unrefused s trace
own_unrefused s (accepted a ∷ trace) = ap (λ (l : List Arrival). pick (eqb a.stream s) (a ∷ l) l) (own_unrefused s trace)

-- the accepted answers are those of the trace without them
answers_unrefused : (before trace : Trace) → accepted_of (answers_after before trace) ≡ accepted_of (answers_after (unrefused before) (unrefused trace))
answers_unrefused before [] = refl
answers_unrefused before (refused n ∷ trace) =
    answers_unrefused (before ++ (refused n ∷ [])) trace
    ∙ ap (λ (l : Trace). accepted_of (answers_after l (unrefused trace))) (unrefused_append before (refused n ∷ []) ∙ append-nil (unrefused before))
answers_unrefused before (accepted a ∷ trace) =
    rw (answers_unrefused (before ++ (accepted a ∷ [])) trace, unrefused_append before (accepted a ∷ []), own_unrefused a.stream before)

pub refused_apart : (list : Listing) → RefusedApart ours list
refused_apart list = record {
  unowned = λ ws n e s. rw e;
  answer = λ packets t r ws n e. play_is list t (right_listed r) ws ∙ rw e;
  altered = λ before ps qs t u r q e.
      let same : unrefused (trace_of list ps) ≡ unrefused (trace_of list qs) = ap (map accepted) e in
      let said : (v : List ℕ) → Right list before v → (xs : List (List ℕ))
      → accepted_of (said_all ours v xs) ≡ accepted_of (answers_after (unrefused (trace_of list before)) (unrefused (trace_of list xs))) =
      λ v k xs. ap accepted_of (answers_on list before xs v k) ∙ answers_unrefused (trace_of list before) (trace_of list xs) in
      let owned : (s : ℕ) (xs : List (List ℕ)) → own s (trace_of list (before ++ xs)) ≡ own s (trace_of list before) ++ own s (unrefused (trace_of list xs)) =
      λ s xs.
      ap (own s) (trace_append list before xs) ∙ own_append s (trace_of list before) (trace_of list xs)
      ∙ ap (λ (l : List Arrival). own s (trace_of list before) ++ l) (own_unrefused s (trace_of list xs)) in (
        layouts_same list (before ++ ps) (before ++ qs) _ _ (right_on list before ps t r) (right_on list before qs u q)
            (λ s. owned s ps ∙ ap (λ (l : Trace). own s (trace_of list before) ++ own s l) same ∙ sym (owned s qs)),
        said t r ps ∙ ap (λ (l : Trace). accepted_of (answers_after (unrefused (trace_of list before)) l)) same ∙ sym (said u q qs),
      );
}
