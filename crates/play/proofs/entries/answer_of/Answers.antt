-- `answer_of` meets its promise: a number of the list is not 0 (`listed_some`), and one that is not in it is 0.
use Rattle.words.proofs.Kit.{◌≡◌, ne_eqb, ⊎_elim, eqb, arith, ℕ}
use Rattle.words.specs.declared.refusals.Refusal.{Refusal}
use Rattle.words.specs.declared.Where.{Where}
use Rattle.words.specs.declared.Where.TheVariants.{Word, Field}
use Rattle.words.specs.Numbers.{FIELD}
use Rattle.words.specs.Tests.{pick}
use Rattle.words.specs.Listed.{list_number, IsListed}
use Rattle.words.specs.Outcome.{refused, accepted}
use Rattle.words.specs.Told.{refusal}
use Rattle.words.proofs.Cases.{same_or_not}
use Rattle.words.proofs.ListedLaws.{listed_some}
use Rattle.play.specs.declared.run.Entry.{Entry}
use Rattle.play.specs.inner.Entered.{Sayable, said_by}
use Rattle.play.proofs.entries.answer_of.Goals as goal

module _ (x : Entry) where
  refused_by : (k : Refusal) (place : Where) → list_number k ≡ x.number → place ≡ pick (eqb (list_number k) FIELD) (Field x.what x.which) (Word x.what)
      → refused (refusal (list_number k) place) ≡ said_by x
  refused_by k place e p =
      let some = listed_some x.number (k, e) in
      rw (p, e, ne_eqb x.number 0 (λ z. omega (arith, z, some)))

  heard_by : Sayable x.number → ((k : Refusal) → list_number k ≡ x.number → ⊥)
      → accepted (record { size = x.size; kind = x.what; stream = x.which; missing = x.missing }) ≡ said_by x
  heard_by sayable none =
      let zero : x.number ≡ 0 = ⊎_elim (λ z. z) (λ n. let k = sayable n in absurd (none k.0 k.1)) (same_or_not x.number 0) in
      rw zero

pub returns-in-Ok : goal.returns-in-Ok
returns-in-Ok c = refused_by _ _ _ c.in-Ok.ensures c.place_of.ensures

pub returns-in-Err : goal.returns-in-Err
returns-in-Err c = heard_by _ c.requires c.in-Err.ensures.1
