-- Overload lights go out. The idea: two packets that differ in these bits and in field 22 alone tell the same of every thing (`told_alike`), so the rules say
-- the same of all streams after the one and after the other, and leave nothing else open (`layouts_alike`).
use Rattle.words.proofs.Kit.{◌≡◌, refl, sym, ap, ap₂, ◌∙◌, Bool, true, false, not, ⊎_elim, List, [], ◌∷◌, ◌++◌, ℕ, ◌+◌, ◌-◌, ◌%◌, ◌^◌, ◌≤◌, ◌<◌, arith}
use Rattle.words.proofs.Kit.{eq-eqb, eqb, leb, get_or}
use mathlib.Core.Option.{Option, none}
use native.Mathlib.Nat.{mod-lt}
use borrow.Author.Tests.{leb-true}
use lib.Pow.{pow_pos}
use lib.ListN.{take-append-drop}
use Rattle.words.specs.Tests.{pick, both}
use Rattle.words.specs.Word.{has}
use Rattle.words.specs.Outcome.{accepted, left_of}
use Rattle.words.proofs.Cases.{true_or_false, true_is_false, both_left, both_right}
use Rattle.words.proofs.BitLaws.{has_low, word_same}
use Rattle.fields.specs.Layout.{indicator_of, field_of}
use Rattle.record.specs.Layout.{held_of}
use Rattle.table.specs.Layout.{streams_of, layout_words, record_at}
use Rattle.table.specs.Well.{well_made}
use Rattle.play.specs.Play.{play_told}
use Rattle.demands.specs.Listing.{Listing, streams_in}
use Rattle.demands.specs.Things.{Thing, whole_field, state_indicator, user_bits, kept, replaced, persistent, passing, tells_of}
use Rattle.demands.specs.Trace.{Arrival, heard_by, trace_of, own, value_carried, or_else, last_carried, counts_of}
use Rattle.demands.specs.Program.{ours}
use Rattle.demands.specs.Lights.{SameButLights, LightsOut}
use Rattle.demands.specs.WellMade.{state_in}
use Rattle.demands.proofs.RuleLaws.{own_append, last_more, counts_append}
use Rattle.demands.proofs.RightLaws.{trace_append, right_more, past_on}
use Rattle.demands.proofs.Determined.{layouts_alike}
use Rattle.demands.proofs.WellMade.{judged}

-- a bit that is no enable of the two
not_passing : (i : ℕ) → (24 ≤ i → i ≤ 25 → ⊥) → passing i ≡ false
not_passing i n =
    ⊎_elim (λ (p : passing i ≡ true).
    absurd (n (leb-true 24 i (both_left (leb 24 i) (leb i 25) p)) (leb-true i 25 (both_right (leb 24 i) (leb i 25) p)))) (λ f. f) (true_or_false (passing i))

module _ (list : Listing) (ws vs : List ℕ) (p : SameButLights list ws vs) where
  abbrev one : Arrival
  one = p.one

  abbrev other : Arrival
  other = p.other

  abbrev word : Arrival → ℕ
  word a = get_or (field_of 16 a.body) 0 0

  -- ---- what they tell

  -- where they carry field 16
  module _ (c : has (indicator_of one.body) 16 ≡ true) where
    user_same : word one % 2 ^ 8 ≡ word other % 2 ^ 8
    user_same =
        word_same 8 _ _ (mod-lt _ (pow_pos 8)) (mod-lt _ (pow_pos 8))
        (λ i h.
        has_low (word one) 8 i h ∙ p.state c i (not_passing i (λ a b. omega arith)) (not_passing (i + 12) (λ a b. omega arith))
        ∙ sym (has_low (word other) 8 i h))

    enable_same : (e : ℕ) → 26 ≤ e → has (word one) e ≡ has (word other) e
    enable_same e h = p.state c e (not_passing e (λ a b. omega arith)) (not_passing (e + 12) (λ a b. omega arith))

    value_same : (e : ℕ) → 26 ≤ e → e ≤ 31 → has (word one) (e - 12) ≡ has (word other) (e - 12)
    value_same e h g = p.state c (e - 12) (not_passing (e - 12) (λ a b. omega arith)) (not_passing (e - 12 + 12) (λ a b. omega arith))

  told_alike : (x : Thing)
      → tells_of x (indicator_of one.body) (λ b. field_of b one.body) ≡ tells_of x (indicator_of other.body) (λ b. field_of b other.body)
  told_alike (whole_field b) =
      ⊎_elim
      (λ (w : replaced b ≡ true).
      let k = both_left (kept b) (not (eqb b 16)) w in
      let no : (n : ℕ) → not (eqb b n) ≡ true → b ≡ n → ⊥ = λ n e i. true_is_false (sym e ∙ ap not (eq-eqb b n i)) in
      let not-22 = no 22 (both_right (both (leb 10 b) (leb b 30)) (not (eqb b 22)) k) in
      ⊎_elim
      (λ (c : has (indicator_of one.body) b ≡ true).
      rw (w, c, sym (p.carried b not-22) ∙ c, p.words b c not-22 (no 16 (both_right (kept b) (not (eqb b 16)) w))))
      (λ (c : has (indicator_of one.body) b ≡ false). rw (w, c, sym (p.carried b not-22) ∙ c)) (true_or_false (has (indicator_of one.body) b)))
      (λ (w : replaced b ≡ false). rw w) (true_or_false (replaced b))
  told_alike (state_indicator e) =
      ⊎_elim
      (λ (s : persistent e ≡ true).
      let low : 26 ≤ e = leb-true 26 e (both_left (leb 26 e) (leb e 31) s) in
      let high : e ≤ 31 = leb-true e 31 (both_right (leb 26 e) (leb e 31) s) in
      let same = p.carried 16 (λ i. omega arith) in
      ⊎_elim
      (λ (c : has (indicator_of one.body) 16 ≡ true). rw (s, c, sym same ∙ c, enable_same c e low, value_same c e low high))
      (λ (c : has (indicator_of one.body) 16 ≡ false). rw (s, c, sym same ∙ c)) (true_or_false (has (indicator_of one.body) 16)))
      (λ (s : persistent e ≡ false). rw s) (true_or_false (persistent e))
  told_alike user_bits =
      let same = p.carried 16 (λ i. omega arith) in
      ⊎_elim
      (λ (c : has (indicator_of one.body) 16 ≡ true). rw (c, sym same ∙ c, user_same c))
      (λ (c : has (indicator_of one.body) 16 ≡ false). rw (c, sym same ∙ c)) (true_or_false (has (indicator_of one.body) 16))

  value_alike : (x : Thing) → value_carried x one ≡ value_carried x other
  value_alike x = ap₂ (λ (k : ℕ) (v : Option (List ℕ)). pick (eqb k 4) v none) p.kind (told_alike x)

  -- ---- and so what the rules say of each stream, with the one behind some packets and with the other

  last_alike : (t : Bool) (x : Thing) (before : List Arrival)
      → last_carried x (before ++ pick t (one ∷ []) []) ≡ last_carried x (before ++ pick t (other ∷ []) [])
  last_alike true x before =
      last_more x before one ∙ ap (λ (v : Option (List ℕ)). or_else v (last_carried x before)) (value_alike x) ∙ sym (last_more x before other)
  last_alike false x before = refl

  counts_alike : (t : Bool) (kind : ℕ) (before : List Arrival)
      → counts_of kind (before ++ pick t (one ∷ []) []) ≡ counts_of kind (before ++ pick t (other ∷ []) [])
  counts_alike true kind before =
      counts_append kind before (one ∷ [])
      ∙ ap (λ (l : List ℕ). counts_of kind before ++ l) (ap₂ (λ (k c : ℕ). pick (eqb k kind) (c ∷ []) []) p.kind p.count)
      ∙ sym (counts_append kind before (other ∷ []))
  counts_alike false kind before = refl

  module _ (packets : List (List ℕ)) where
    own_with : (us : List ℕ) (a : Arrival) → heard_by list us ≡ accepted a → (s : ℕ)
        → own s (trace_of list (packets ++ (us ∷ []))) ≡ own s (trace_of list packets) ++ pick (eqb a.stream s) (a ∷ []) []
    own_with us a e s =
        ap (own s) (trace_append list packets (us ∷ [])) ∙ own_append s (trace_of list packets) (heard_by list us ∷ []) ∙ rw e

    last_same : (s : ℕ) (x : Thing) → last_carried x (own s (trace_of list (packets ++ (ws ∷ []))))
        ≡ last_carried x (own s (trace_of list (packets ++ (vs ∷ []))))
    last_same s x =
        ap (last_carried x) (own_with ws one p.hears_one s)
        ∙ last_alike (eqb one.stream s) x (own s (trace_of list packets))
        ∙ ap (λ (n : ℕ). last_carried x (own s (trace_of list packets) ++ pick (eqb n s) (other ∷ []) [])) p.stream
        ∙ ap (last_carried x) (sym (own_with vs other p.hears_other s))

    counts_same : (s kind : ℕ) → counts_of kind (own s (trace_of list (packets ++ (ws ∷ [])))) ≡ counts_of kind (own s (trace_of list (packets ++ (vs ∷ []))))
    counts_same s kind =
        ap (counts_of kind) (own_with ws one p.hears_one s)
        ∙ counts_alike (eqb one.stream s) kind (own s (trace_of list packets))
        ∙ ap (λ (n : ℕ). counts_of kind (own s (trace_of list packets) ++ pick (eqb n s) (other ∷ []) [])) p.stream
        ∙ ap (counts_of kind) (sym (own_with vs other p.hears_other s))

-- the layout is the same, and so are the words past it, which stay
pub lights_out : LightsOut ours
lights_out list packets t r ws vs p =
    let layout =
    layouts_alike list _ _ _ _ (right_more list packets t r ws) (right_more list packets t r vs) (last_same list ws vs p packets)
    (counts_same list ws vs p packets) in
    let past = past_on list (ws ∷ []) t r.streams ∙ sym (past_on list (vs ∷ []) t r.streams) in
    sym (take-append-drop (layout_words (streams_in list)) (left_of (play_told t ws) t)) ∙ ap₂ (λ (x y : List ℕ). x ++ y) layout past
    ∙ take-append-drop (layout_words (streams_in list)) (left_of (play_told t vs) t)

-- of a well-made table field 22 is not held, and a held state word has neither over-range nor sample loss, neither enable nor value
pub never_lit : (t : List ℕ) → well_made t ≡ true → (s : ℕ) → s < streams_of t → let r = record_at s t in
    (has (held_of r) 22 ≡ false)
    × (has (held_of r) 16 ≡ true → (e : ℕ) → passing e ≡ true → (has (state_in r) e ≡ false) × (has (state_in r) (e - 12) ≡ false))
never_lit t w s h = let c = ((judged.tables t).0 w).records s h in (c.never, c.unlit)
