-- The rules of a trace, when a packet more is heard. The idea: each rule of `before ++ (a ∷ [])` is that of `before`, taken one packet on; the last-carried
-- rule asks the new packet first, and a count goes on as `counted_of` says.
use Rattle.words.proofs.Kit.{◌≡◌, refl, sym, ap, ◌∙◌, Bool, true, false, List, [], ◌∷◌, ◌++◌, ℕ, ◌+◌, ◌-◌, ◌%◌, ◌^◌, arith, ne_eqb, eqb, length}
use mathlib.Core.Option.{Option, none, some, none-ne-some}
use native.Mathlib.Nat.{mod-add-mod, add_assoc}
use lib.ListN.{length-append}
use Rattle.words.specs.Tests.{pick}
use Rattle.words.specs.Outcome.{refused, accepted}
use Rattle.record.specs.Counts.{missed_of, added_of, counted_of}
use Rattle.demands.specs.Things.{Thing}
use Rattle.demands.specs.Trace.{Arrival, Trace, own, value_carried, or_else, last_carried, NoneCarried, LastCarried, counts_of, last_count}
use Rattle.demands.specs.Trace.{missed_after, missed, last_plus_one, count_rule, added_after}
use Rattle.demands.specs.Right.{LastMeant}

-- ---- a stream's own packets

pick_append : {A : Type 0} (t : Bool) (x : A) (xs ys : List A) → pick t (x ∷ xs) xs ++ ys ≡ pick t (x ∷ (xs ++ ys)) (xs ++ ys)
pick_append true x xs ys = refl
pick_append false x xs ys = refl

pub own_append : (s : ℕ) (xs ys : Trace) → own s (xs ++ ys) ≡ own s xs ++ own s ys
own_append s [] ys = refl
own_append s (refused n ∷ xs) ys = own_append s xs ys
own_append s (accepted a ∷ xs) ys =
    ap (λ (l : List Arrival). pick (eqb a.stream s) (a ∷ l) l) (own_append s xs ys) ∙ sym (pick_append (eqb a.stream s) a (own s xs) (own s ys))

-- ---- the last that carried a thing

or_none : {A : Type 0} (x : Option A) → or_else x none ≡ x
or_none none = refl
or_none (some a) = refl

or_assoc : {A : Type 0} (x y z : Option A) → or_else (or_else x y) z ≡ or_else x (or_else y z)
or_assoc none y z = refl
or_assoc (some a) y z = refl

module _ (x : Thing) where
  pub last_more : (before : List Arrival) (a : Arrival) → last_carried x (before ++ (a ∷ [])) ≡ or_else (value_carried x a) (last_carried x before)
  last_more [] a = simp or_none
  last_more (b ∷ before) a =
      ap (λ (o : Option (List ℕ)). or_else o (value_carried x b)) (last_more before a)
      ∙ or_assoc (value_carried x a) (last_carried x before) (value_carried x b)

  -- by a cut of the packets

  or_both : {A : Type 0} (y z : Option A) → or_else y z ≡ none → (y ≡ none) × (z ≡ none)
  or_both none z e = (refl, e)
  or_both (some a) z e = absurd (none-ne-some a (sym e))

  silent : (packets : List Arrival) → last_carried x packets ≡ none → NoneCarried x packets
  silent [] e = tt
  silent (a ∷ later) e = let k = or_both (last_carried x later) (value_carried x a) e in (k.1, silent later k.0)

  from_silent : (packets : List Arrival) → NoneCarried x packets → last_carried x packets ≡ none
  from_silent [] h = refl
  from_silent (a ∷ later) h = rw (from_silent later h.1) h.0

  further : (a : Arrival) (packets : List Arrival) (v : List ℕ) → LastCarried x packets v → LastCarried x (a ∷ packets) v
  further a packets v l =
      record {
        before = a ∷ l.before;
        last = l.last;
        later = l.later;
        cut = ap (λ (ps : List Arrival). a ∷ ps) l.cut;
        value = l.value;
        silent = l.silent;
      }

  found : (a : Arrival) (later : List Arrival) (v : List ℕ) (o : Option (List ℕ)) → last_carried x later ≡ o
      → ((w : List ℕ) → last_carried x later ≡ some w → LastCarried x later w) → or_else o (value_carried x a) ≡ some v → LastCarried x (a ∷ later) v
  found a later v none e ih f = record { before = []; last = a; later = later; cut = refl; value = f; silent = silent later e }
  found a later v (some w) e ih f = further a later v (ih v (e ∙ f))

  last_found : (packets : List Arrival) (v : List ℕ) → last_carried x packets ≡ some v → LastCarried x packets v
  last_found [] v e = absurd (none-ne-some v e)
  last_found (a ∷ later) v e = found a later v (last_carried x later) refl (last_found later) e

  found_last : (before later : List Arrival) (a : Arrival) (v : List ℕ) → value_carried x a ≡ some v → NoneCarried x later
      → last_carried x (before ++ (a ∷ later)) ≡ some v
  found_last [] later a v d n = rw (from_silent later n) d
  found_last (b ∷ before) later a v d n = rw (found_last before later a v d n)

pub last_meant : LastMeant
last_meant x packets = (
  λ v. (last_found x packets v, λ l. ap (last_carried x) l.cut ∙ found_last x l.before l.later l.last v l.value l.silent),
  (silent x packets, from_silent x packets),
)

-- ---- counts

pub counts_append : (kind : ℕ) (before bs : List Arrival) → counts_of kind (before ++ bs) ≡ counts_of kind before ++ counts_of kind bs
counts_append kind [] bs = refl
counts_append kind (a ∷ before) bs =
    ap (λ (l : List ℕ). pick (eqb a.kind kind) (a.count ∷ l) l) (counts_append kind before bs)
    ∙ sym (pick_append (eqb a.kind kind) a.count (counts_of kind before) (counts_of kind bs))

last_of_more : (c : ℕ) (cs : List ℕ) (d : ℕ) → last_count c (cs ++ (d ∷ [])) ≡ d
last_of_more c [] d = refl
last_of_more c (x ∷ cs) d = last_of_more x cs d

missed_after_more : (c : ℕ) (cs : List ℕ) (d : ℕ) → missed_after c (cs ++ (d ∷ [])) ≡ missed_after c cs + missed_of (last_count c cs) d
missed_after_more c [] d = omega arith
missed_after_more c (x ∷ cs) d =
    ap (λ (n : ℕ). missed_of c x + n) (missed_after_more x cs d) ∙ sym (add_assoc (missed_of c x) (missed_after x cs) (missed_of (last_count x cs) d))

missed_more : (cs : List ℕ) (d : ℕ) → missed (cs ++ (d ∷ [])) ≡ missed cs + added_after cs d
missed_more [] d = refl
missed_more (c ∷ cs) d = missed_after_more c cs d

last_plus_more : (cs : List ℕ) (d : ℕ) → last_plus_one (cs ++ (d ∷ [])) ≡ d + 1
last_plus_more [] d = refl
last_plus_more (c ∷ cs) d = ap (λ (n : ℕ). n + 1) (last_of_more c cs d)

-- what a packet adds to missing, by the last count that a record keeps
pub added_by_last : (cs : List ℕ) (d : ℕ) → added_of (last_plus_one cs) d ≡ added_after cs d
unfolding added_of
added_by_last [] d = refl
added_by_last (c ∷ cs) d =
    let n : last_count c cs + 1 ≡ 0 → ⊥ = λ e. omega (arith, e) in
    let m : last_count c cs + 1 - 1 ≡ last_count c cs = omega arith in
    rw (ne_eqb (last_count c cs + 1) 0 n, m)

-- one more is seen, what it adds is missing, and its count is the last
pub rule_more : (cs : List ℕ) (d : ℕ) → count_rule (cs ++ (d ∷ [])) ≡ counted_of d (count_rule cs)
unfolding counted_of
rule_more cs d =
    let seen : length (cs ++ (d ∷ [])) % 2 ^ 32 ≡ (length cs % 2 ^ 32 + 1) % 2 ^ 32 =
    ap (λ (n : ℕ). n % 2 ^ 32) (length-append cs (d ∷ [])) ∙ sym (mod-add-mod (length cs) (2 ^ 32) 1) in
    let missing : missed (cs ++ (d ∷ [])) % 2 ^ 32 ≡ (missed cs % 2 ^ 32 + added_of (last_plus_one cs) d) % 2 ^ 32 =
    ap (λ (n : ℕ). n % 2 ^ 32) (missed_more cs d ∙ ap (λ (n : ℕ). missed cs + n) (sym (added_by_last cs d)))
    ∙ sym (mod-add-mod (missed cs) (2 ^ 32) (added_of (last_plus_one cs) d)) in
    rw (seen, missing, last_plus_more cs d)
