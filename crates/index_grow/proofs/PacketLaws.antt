-- A packet that is played, and what growing answers of it by what play says.
use Rattle.std.specs.Prelude.{Result, Ok, Err, Option, Some, None}
use Rattle.words.proofs.Kit.{◌≡◌, ◌∙◌, Bool, true, false, List, [], ◌∷◌, ℕ, ◌^◌, ◌<◌, arith, length, get_or}
use native.Mathlib.Nat.{mod-lt}
use Rattle.words.specs.declared.Where.TheVariants.{Word}
use Rattle.words.specs.declared.RefusedAt.{RefusedAt}
use Rattle.words.specs.declared.refusals.Refusal.TheVariants as refusals
use Rattle.words.specs.Listed.{list_number}
use Rattle.words.specs.Tests.{when}
use Rattle.words.specs.Outcome.{refused, accepted}
use Rattle.words.specs.Told.{Told, RefusalTold, refusal, told_paper, place_word}
use Rattle.packet.specs.Header.{size_of}
use Rattle.packet.specs.Told.{where_of}
use Rattle.table.specs.Well.{well_made}
use Rattle.play.specs.declared.Heard.{Heard}
use Rattle.play.specs.declared.step.Happened.{Happened}
use Rattle.play.specs.Play.{play_of, play_told}
use Rattle.play.specs.Run.{goes_on, said_at, left_at, next_of, Stepped}
use Rattle.play.proofs.EntryLaws.{step_goes}
use Rattle.index_grow.specs.declared.Taken.{Taken}
use Rattle.index_grow.specs.declared.Taken.TheVariants.{Declared, Undeclared}
use Rattle.index_grow.specs.inner.Steps.{answer_by}

-- ---- where no word is left

pub none_stepped : (t ws : List ℕ) → well_made t ≡ true → length ws ≡ 0
    → Stepped t ws 0 (record { answer = Err (record { refusal = refusals.Empty; place = Word 0 }); next = None }) t
unfolding said_at left_at next_of play_told play_of where_of
none_stepped t [] w e = record { answer = rw w; next = rw w; table = rw w }
none_stepped t (x ∷ ws) w e = absurd (omega (arith, e))

-- ---- the words that a packet has

when_small : (b : Bool) (w : ℕ) → when b (size_of w) < 2 ^ 16
when_small true w = mod-lt w (omega arith)
when_small false w = omega arith

pub next_small : (t ws left : List ℕ) (s : Happened) → Stepped t ws 0 s left → (size : ℕ) → s.next ≡ Some size → size < 2 ^ 16
unfolding next_of
next_small t ws left s k size e = rw (step_goes k size e).1 (omega (arith, when_small (goes_on (said_at t ws 0)) (get_or ws 0 0)))

-- ---- the answer, by what play says, and the size of the packet that the recording goes on behind

module _ (r : RefusalTold) (next : Option ℕ) where
  pub unheard_on : (size k : ℕ) → next ≡ Some size → k ≡ place_word r.place
      → accepted (Undeclared (record { size = size; place = k })) ≡ answer_by (refused r) next
  unheard_on size k e f = rw (e, f)

  pub unheard_off : next ≡ None → refused r ≡ answer_by (refused r) next
  unheard_off e = rw e

module _ (a : Result Heard RefusedAt) (next : Option ℕ) where
  pub heard_answer : (h : Heard) → a ≡ Ok h → accepted (Declared h) ≡ answer_by (told_paper a) next
  heard_answer h e = rw e

  pub unheard_answer : (r : RefusedAt) (k : Told Taken) → a ≡ Err r → k ≡ answer_by (refused (refusal (list_number r.refusal) r.place)) next
      → k ≡ answer_by (told_paper a) next
  unheard_answer r k e f = f ∙ rw e
