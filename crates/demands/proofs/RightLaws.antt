-- Tables stay right. The idea: a fresh table is right for no packets (`right_start`), and a table that is right for some packets is right, after one more is
-- played, for these and that one (`right_more`): a refusal changes neither the table nor a stream's own packets, and an accepted packet takes its stream's
-- record one packet on. The answers follow, since the counts before each packet are those of the rules.
use Rattle.words.proofs.Kit.{◌≡◌, refl, sym, ap, ◌∙◌, Bool, true, false, ⊎_elim, List, [], ◌∷◌, ◌++◌, ℕ, ◌≤◌, ◌<◌, eq-eqb, ne_eqb, le-ltb, eqb}
use Rattle.words.proofs.Kit.{length, get_or}
use mathlib.Core.List.{append-nil, append_assoc}
use Rattle.words.specs.Tests.{pick, among}
use Rattle.words.specs.Outcome.{refused, accepted, onward, Done, said_of, left_of}
use Rattle.words.specs.Told.{Told}
use Rattle.words.proofs.Cases.{accepted_same, same_or_not}
use Rattle.words.proofs.RefusalLaws.{first_passed}
use Rattle.record.specs.Layout.{counted_types, order_of, count_words, last_of}
use Rattle.record.specs.Counts.{added_of, counted_of, added_to}
use Rattle.record.specs.After.{added_by}
use Rattle.table.specs.Layout.{streams_of, base, record_at}
use Rattle.table.specs.Start.{fresh_record, fresh_table, start_list, start_of}
use Rattle.table.proofs.WellLaws.{well_record}
use Rattle.table.proofs.StartLaws.{fresh_record_lem, start_well_made}
use Rattle.play.specs.declared.Heard.{Heard}
use Rattle.play.specs.Play.{play_told}
use Rattle.play.proofs.KeepLaws.{play_keeps}
use Rattle.demands.specs.Listing.{Listing, streams_in, Valid, choice_in}
use Rattle.demands.specs.Things.{Thing}
use Rattle.demands.specs.Trace.{Arrival, Trace, heard_by, trace_of, own, value_carried, or_else, last_carried}
use Rattle.demands.specs.Trace.{counts_of, count_rule, answer_to, answers_after}
use Rattle.demands.specs.Program.{ours, play_all, said_all}
use Rattle.demands.specs.Right.{held_in, Right, past_of}
use Rattle.demands.proofs.RuleLaws.{own_append, last_more, counts_append, added_by_last, rule_more}
use Rattle.demands.proofs.HearingLaws.{Heeded, heard_fine, Listed, record_on, done_on, play_is, listed_on, record_whole, record_own, record_other}
use Rattle.demands.proofs.RecordLaws.{held_after_lem, count_after, fresh_held, fresh_count}

-- ---- the start

start_leaves : (list : Listing) (t : List ℕ) (d : Done ℕ (List ℕ)) → start_of list.ids list.choices t ≡ accepted d
    → d.leaves ≡ fresh_table list.ids list.choices t
unfolding start_of
start_leaves list t d e =
    ap (λ (x : Done ℕ (List ℕ)). x.leaves) (sym (accepted_same (first_passed (start_list list.ids list.choices t) _ d e).1))

pub start_accepts : (list : Listing) (t : List ℕ) → Valid list → base (streams_in list) ≤ length t
    → (d : Done ℕ (List ℕ)) × (start_of list.ids list.choices t ≡ accepted d)
unfolding start_of
start_accepts list t g h = (
  record { says = base (streams_in list); leaves = fresh_table list.ids list.choices t },
  rw (g.0, g.1, le-ltb (length t) (base (streams_in list)) h),
)

pub right_start : (list : Listing) (t : List ℕ) (d : Done ℕ (List ℕ)) → start_of list.ids list.choices t ≡ accepted d → Right list [] d.leaves
right_start list t d e =
    let k = start_well_made list.ids list.choices t d e in
    let choice = choice_in list in
    let fresh : (s : ℕ) → s < streams_in list → record_at s d.leaves ≡ fresh_record (get_or list.ids s 0) (choice s) =
    λ s h. ap (record_at s) (start_leaves list t d e) ∙ fresh_record_lem list.ids list.choices t s k.many h in
    record {
      made = k.well;
      streams = k.streams;
      identifiers = k.list;
      choices = k.chosen;
      held = λ s h x. ap (held_in x) (fresh s h) ∙ fresh_held (get_or list.ids s 0) (choice s) x;
      counts = λ s h kind o. ap (count_words (order_of kind)) (fresh s h) ∙ fresh_count (get_or list.ids s 0) (choice s) kind o;
    }

-- ---- one packet more

pub trace_append : (list : Listing) (ps qs : List (List ℕ)) → trace_of list (ps ++ qs) ≡ trace_of list ps ++ trace_of list qs
trace_append list [] qs = refl
trace_append list (ws ∷ ps) qs = ap (λ (l : Trace). heard_by list ws ∷ l) (trace_append list ps qs)

-- the rules of a stream's own packets
record Ruled (before : List Arrival) (r : List ℕ) : Type 0 where
  held : (x : Thing) → held_in x r ≡ last_carried x before
  counts : (kind : ℕ) → among kind counted_types ≡ true → count_words (order_of kind) r ≡ count_rule (counts_of kind before)

counted_more : (t : Bool) (c : ℕ) (counts : List ℕ) → pick t (counted_of c (count_rule counts)) (count_rule counts) ≡ count_rule (counts ++ pick t (c ∷ []) [])
counted_more true c counts = sym (rule_more counts c)
counted_more false c counts = ap count_rule (sym (append-nil counts))

pub right_listed : {list : Listing} {packets : List (List ℕ)} {t : List ℕ} → Right list packets t → Listed list t
right_listed r = record { made = r.made; streams = r.streams; identifiers = r.identifiers; choices = r.choices }

module _ (list : Listing) (before : List (List ℕ)) (t : List ℕ) (r : Right list before t) where
  listing : Listed list t
  listing = right_listed r

  ruled : (s : ℕ) → s < streams_in list → Ruled (own s (trace_of list before)) (record_at s t)
  ruled s h = record { held = r.held s h; counts = r.counts s h }

  ruled_same : (s : ℕ) (xs : List Arrival) → s < streams_in list → xs ≡ [] → Ruled (own s (trace_of list before) ++ xs) (record_at s t)
  ruled_same s xs h e = rw (e, append-nil (own s (trace_of list before))) (ruled s h)

  -- a packet of the stream
  ruled_own : (a : Arrival) → Heeded list a → Ruled (own a.stream (trace_of list before) ++ (a ∷ [])) (record_on t a)
  ruled_own a f =
      let s = a.stream in
      let h : s < streams_in list = f.stream in
      let l = record_whole list t listing s h in
      let old = own s (trace_of list before) in
      let g = well_record t r.made s (rw r.streams h) in
      record {
        held = λ x. held_after_lem list a f (record_at s t) l g x ∙ ap (or_else (value_carried x a)) (r.held s h x) ∙ sym (last_more x old a);
        counts = λ kind o.
            count_after list a f (record_at s t) l kind o
            ∙ ap (λ (ws : List ℕ). pick (eqb a.kind kind) (counted_of a.count ws) ws) (r.counts s h kind o)
            ∙ counted_more (eqb a.kind kind) a.count (counts_of kind old) ∙ ap count_rule (sym (counts_append kind old (a ∷ [])));
      }

  ruled_heard : (x : Told Arrival) → ((a : Arrival) → x ≡ accepted a → Heeded list a) → (s : ℕ) → s < streams_in list
      → Ruled (own s (trace_of list before) ++ own s (x ∷ [])) (record_at s (left_of (onward x (done_on t)) t))
  ruled_heard (refused n) f s h = ruled_same s [] h refl
  ruled_heard (accepted a) f s h =
      ⊎_elim
      (λ (e : s ≡ a.stream). rw (e, eq-eqb a.stream a.stream refl, record_own list t listing a (f a refl)) (ruled_own a (f a refl)))
      (λ (n : s ≡ a.stream → ⊥).
      rw (ne_eqb a.stream s (λ i. n (sym i)), record_other list t listing a (f a refl) s n) (ruled_same s [] h refl))
      (same_or_not s a.stream)

  -- a table that is right for some packets is right after one more
  pub right_more : (ws : List ℕ) → Right list (before ++ (ws ∷ [])) (left_of (play_told t ws) t)
  right_more ws =
      let l = listed_on list t listing ws in
      let same : left_of (play_told t ws) t ≡ left_of (onward (heard_by list ws) (done_on t)) t =
      ap (λ (o : Told (Done Heard (List ℕ))). left_of o t) (play_is list t listing ws) in
      let grown : (s : ℕ) → own s (trace_of list (before ++ (ws ∷ []))) ≡ own s (trace_of list before) ++ own s (heard_by list ws ∷ []) =
      λ s. ap (own s) (trace_append list before (ws ∷ [])) ∙ own_append s (trace_of list before) (heard_by list ws ∷ []) in
      record {
        made = l.made;
        streams = l.streams;
        identifiers = l.identifiers;
        choices = l.choices;
        held =
            λ s h x. ap (λ (u : List ℕ). held_in x (record_at s u)) same ∙ (ruled_heard (heard_by list ws) (heard_fine list ws) s h).held x
            ∙ ap (last_carried x) (sym (grown s));
        counts = λ s h kind o.
            ap (λ (u : List ℕ). count_words (order_of kind) (record_at s u)) same ∙ (ruled_heard (heard_by list ws) (heard_fine list ws) s h).counts kind o
            ∙ ap (λ (l : List Arrival). count_rule (counts_of kind l)) (sym (grown s));
      }

  -- and what is said of it is what the rules say
  answer_heard : (x : Told Arrival) → ((a : Arrival) → x ≡ accepted a → Heeded list a) → said_of (onward x (done_on t)) ≡ answer_to (trace_of list before) x
  unfolding added_by added_to
  answer_heard (refused n) f = refl
  answer_heard (accepted a) f =
      let g = f a refl in
      let counts = count_rule (counts_of a.kind (own a.stream (trace_of list before))) in
      let added : added_by a.kind a.count (record_at a.stream t) ≡ added_of (last_of counts) a.count =
      ap (λ (ws : List ℕ). added_of (last_of ws) a.count) (r.counts a.stream g.stream a.kind g.kind) in
      rw (added, added_by_last (counts_of a.kind (own a.stream (trace_of list before))) a.count)

  pub right_answer : (ws : List ℕ) → said_of (play_told t ws) ≡ answer_to (trace_of list before) (heard_by list ws)
  right_answer ws = ap said_of (play_is list t listing ws) ∙ answer_heard (heard_by list ws) (heard_fine list ws)

-- ---- many

pub right_on : (list : Listing) (before packets : List (List ℕ)) (t : List ℕ) → Right list before t → Right list (before ++ packets) (play_all ours t packets)
right_on list before [] t r = rw (append-nil before) r
right_on list before (ws ∷ packets) t r =
    rw (← append_assoc before (ws ∷ []) packets) (right_on list (before ++ (ws ∷ [])) packets (left_of (play_told t ws) t) (right_more list before t r ws))

pub answers_on : (list : Listing) (before packets : List (List ℕ)) (t : List ℕ) → Right list before t
    → said_all ours t packets ≡ answers_after (trace_of list before) (trace_of list packets)
answers_on list before [] t r = refl
answers_on list before (ws ∷ packets) t r =
    let rest = answers_on list (before ++ (ws ∷ [])) packets (left_of (play_told t ws) t) (right_more list before t r ws) in
    rw (right_answer list before t r ws, rest, trace_append list before (ws ∷ []))

-- the words past the layout stay
pub past_on : (list : Listing) (packets : List (List ℕ)) (t : List ℕ) → streams_of t ≡ streams_in list → past_of list (play_all ours t packets) ≡ past_of list t
past_on list [] t e = refl
past_on list (ws ∷ packets) t e =
    let k = play_keeps t ws in
    past_on list packets (left_of (play_told t ws) t) (k.streams ∙ e) ∙ rw e at k.past
