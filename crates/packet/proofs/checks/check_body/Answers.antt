-- `check_body` meets its promise: the body of a type 4 packet lies inside (`room`), and is what is lent.
use Rattle.std.specs.Prelude.{Result}
use Rattle.words.proofs.Kit.{◌≡◌, List, ℕ, ◌+◌, ◌-◌, arith, eq-eqb, ne_eqb, take, drop}
use Rattle.words.specs.declared.refusals.Refusal.{Refusal}
use Rattle.words.specs.Listed.{on_paper}
use Rattle.words.specs.Outcome.{accepted}
use Rattle.words.proofs.PartLaws.{seen}
use Rattle.packet.specs.Header.{type_of}
use Rattle.packet.specs.Parts.{body_at, body_length, body_of}
use Rattle.fields.specs.Layout.{context_of}
use Rattle.packet.specs.inner.Steps.{body_checks}
use Rattle.packet.proofs.RoomLaws.{body_ends}
use Rattle.packet.proofs.checks.check_body.Goals as goal

module _ (w : ℕ) (ws : List ℕ) where
  module _ (kind : ℕ) (k : kind ≡ type_of w) where
    other_type : (kind ≡ 4 → ⊥) → accepted tt ≡ body_checks (type_of w) (body_of w ws)
    unfolding body_checks
    other_type d = rw (← k, ne_eqb kind 4 d)

    body_asked : kind ≡ 4 → (at end : ℕ) → at ≡ body_at w → end ≡ body_at w + body_length w → (r : Result Unit Refusal) → on_paper r
        ≡ context_of (take (end - at) (drop at ws))
        → on_paper r ≡ body_checks (type_of w) (body_of w ws)
    unfolding body_checks body_of context_of
    body_asked f at end a e r c = rw (← k, eq-eqb kind 4 f, ← a, ← seen at end (body_length w) ws (omega arith)) c

pub returns-then-type_of-ne4 : goal.returns-then-type_of-ne4
returns-then-type_of-ne4 c = search other_type

pub slice_bounds-check_body-end : goal.slice_bounds-check_body-end
slice_bounds-check_body-end c = search body_ends

pub returns : goal.returns
returns c = search body_asked
