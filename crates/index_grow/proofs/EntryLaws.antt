-- The next entry of an index. The idea: each return is a row of `entry_lacks`, and the last is what making the entry answers.
use Rattle.std.specs.Prelude.{Result, Ok, Err, is_ok}
use Rattle.words.proofs.Kit.{◌≡◌, refl, sym, ap, ◌∙◌, Bool, true, false, not, ⊎_elim, List, ℕ, ◌+◌, ◌^◌, ◌≤◌, ◌<◌, arith, le-leb, lt-leb, le-ltb, lt-ltb}
use Rattle.words.proofs.Kit.{ltb-false, not-true, not-false, leb, ltb, length}
use borrow.Author.Tests.{leb-false}
use Rattle.words.specs.declared.refusals.Refusal.{Refusal}
use Rattle.words.specs.Listed.{list_number, on_paper}
use Rattle.words.specs.Outcome.{accepted, refused, Done, left_of, Meets}
use Rattle.words.proofs.Cases.{le_or_lt, accepted_same}
use Rattle.words.proofs.RefusalLaws.{first_passed, none_given, either_passed}
use Rattle.words.proofs.MeetLaws.{meets_accepted, said_refused}
use Rattle.page.specs.Layout.{page_length}
use Rattle.index.specs.Layout.{most_entries, index_contents, entries_in, packets_taken, place_reached, pages_end, with_reached, with_entry}
use Rattle.index.specs.inner.Entered.{enter_list, entered_at}
use Rattle.index.proofs.WrittenLaws.{entry_long, pages_behind}
use Rattle.index_grow.specs.Grow.{entry_lacks}
use Rattle.index_grow.specs.inner.Steps.{Ready, EntryMade, EntryTaken}
use Rattle.index_grow.proofs.ReadyLaws.{ready_whole}

module _ (t ix : List ℕ) (place j : ℕ) (i : (j ≡ entries_in ix) × (j < 2 ^ 32)) where
  e : j ≡ entries_in ix
  e = i.0

  pub made_many : 1024 ≤ j → EntryMade t place ix false ix
  unfolding entry_lacks
  made_many h = record { fits = rw (← e, le-leb most_entries j h); index = refl }

  module _ (offset : ℕ) (few : j < 1024) (f : offset ≡ pages_end ix) where
    pub made_far : 4294967295 < offset → EntryMade t place ix false ix
    unfolding entry_lacks
    made_far h =
        let far : 4294967296 ≤ offset = omega arith in
        record { fits = rw (lt-leb most_entries (entries_in ix) (rw e at few), le-leb (2 ^ 32) (pages_end ix) (rw f at far)); index = refl }

    module _ (near : offset ≤ 4294967295) (r : Result ℕ Refusal) (left : List ℕ) (m : Meets on_paper (entered_at t j place offset ix) ix r left) where
      lacks_is : entry_lacks t ix ≡ ltb (length ix) (offset + page_length t)
      unfolding entry_lacks
      lacks_is =
          let near-too : offset < 2 ^ 32 = omega arith in
          rw (lt-leb most_entries (entries_in ix) (rw e at few), lt-leb (2 ^ 32) (pages_end ix) (rw f at near-too), f)

      made_room : (n : ℕ) → r ≡ Ok n → EntryMade t place ix true left
      unfolding entered_at
      made_room n y =
          let k = meets_accepted m (ap on_paper y) in
          let q = first_passed (enter_list t offset ix) _ k.done k.wants in
          let d = accepted_same q.1 in
          record {
            fits = rw (lacks_is, q.0.1.0);
            index = k.leaves ∙ sym (ap (λ (x : Done ℕ (List ℕ)). x.leaves) d) ∙ rw (e, f);
          }

      made_full : Ready t ix → (k : Refusal) → r ≡ Err k → EntryMade t place ix false left
      unfolding entered_at
      made_full w k y =
          let n = list_number k in
          let no : entered_at t j place offset ix ≡ refused n = said_refused (entered_at t j place offset ix) n (sym m.answer ∙ ap on_paper y) in
          ⊎_elim
          (λ (h : offset + page_length t ≤ length ix).
          let yes : entered_at t j place offset ix ≡ accepted (record { says = page_length t; leaves = with_entry j place offset t ix }) =
          none_given (enter_list t offset ix) _ (rw w.table, (le-ltb (length ix) (offset + page_length t) h, tt)) in
          let z : ◌≡◌ {A = ℕ} 0 1 = cc (yes, no) in
          absurd (omega arith))
          (λ (h : length ix < offset + page_length t).
          record { fits = rw (lacks_is, lt-ltb (length ix) (offset + page_length t) h); index = m.buffer ∙ ap (λ o. left_of o ix) no })
          (le_or_lt (offset + page_length t) (length ix))

      made_by : Ready t ix → (s : Result ℕ Refusal) → r ≡ s → EntryMade t place ix (is_ok s) left
      made_by w (Ok n) y = made_room n y
      made_by w (Err k) y = made_full w k y

      pub made_asked : Ready t ix → (b : Bool) → b ≡ is_ok r → EntryMade t place ix b left
      made_asked w b y = rw y (made_by w r refl)

-- the index stays as long
pub made_whole : (t ix mid : List ℕ) (place : ℕ) (made : Bool) → Ready t ix → EntryMade t place ix made mid → not made ≡ false → index_contents ≤ length mid
unfolding entry_lacks
made_whole t ix mid place made q m i =
    let yes : made ≡ true = not-false made i in
    let n = either_passed (leb most_entries (entries_in ix)) _ (not-true (entry_lacks t ix) (sym m.fits ∙ yes)) in
    let room : pages_end ix + page_length t ≤ length ix = ltb-false _ _ (either_passed (leb (2 ^ 32) (pages_end ix)) _ n.1).1 in
    let few : entries_in ix < most_entries = leb-false most_entries (entries_in ix) n.0 in
    let long : length mid ≡ length ix =
    ap length m.index ∙ rw yes (entry_long (entries_in ix) place (pages_end ix) t ix q.table few (pages_behind ix (entries_in ix)) room) in
    omega (arith, long, ready_whole ix q.index)

-- ---- and the packet counted, of so many words: n packets were taken in before it, and it stands at the word place p

pub taken_full : (t ix mid : List ℕ) (size place : ℕ) (made : Bool) → EntryMade t place ix made mid → not made ≡ true → EntryTaken t size ix false mid
taken_full t ix mid size place made m i =
    let no : made ≡ false = not-true made i in
    record { fits = sym no ∙ m.fits; index = m.index ∙ rw no }

pub taken_made : (t ix mid last : List ℕ) (size n p : ℕ) (made : Bool) → (n ≡ packets_taken ix) × (n < 2 ^ 32) → p ≡ place_reached ix
    → EntryMade t (p + size) ix made mid → not made ≡ false → last ≡ with_reached (n + 1) (p + size) mid → EntryTaken t size ix true last
taken_made t ix mid last size n p made e f m i g =
    let yes : made ≡ true = not-false made i in
    record { fits = sym yes ∙ m.fits; index = g ∙ rw (m.index, yes, e.0, f) }
