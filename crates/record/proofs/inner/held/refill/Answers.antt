-- `refill` meets its promise: the fields of each part lie inside, behind those of the part before, and the three parts are all bits that have a slot.
use Rattle.words.proofs.Kit.{◌≡◌, ◌∙◌, List, ℕ, ◌+◌, arith, rules}
use Rattle.record.specs.After.{Inside}
use Rattle.record.specs.inner.Filled.{InsideBetween}
use Rattle.record.proofs.SlotLaws.{placed}
use Rattle.record.proofs.HoldLaws.{inside_all, inside_upper, inside_lower, filled_then, filled_all}
use Rattle.record.proofs.inner.held.refill.Goals as goal

-- the fields from bit 21 down lie inside, behind those of the first part
below_inside : (bits at middle : ℕ) (ws : List ℕ) → Inside bits at ws → middle ≡ at + placed 31 bits 21 → InsideBetween 21 9 bits middle ws
below_inside bits at middle ws i e = inside_lower 30 9 bits at ws (inside_all bits at ws i) 21 (omega arith) middle (omega arith) e

pub fill-middle-requires : goal.fill-middle-requires
fill-middle-requires c =
    let bits = c.args.bits in
    let at = c.args.at in
    let ws = c.args.source.now in
    (search rules, omega arith, omega arith, omega arith, inside_upper 30 9 bits at ws (inside_all bits at ws c.requires.2) _ (omega arith))

pub fill-low-requires : goal.fill-low-requires
fill-low-requires c =
    let bits = c.args.bits in
    let middle = c.fill-middle.result in
    let ws = c.args.source.now in
    let below = below_inside bits c.args.at middle ws c.requires.2 c.fill-middle.ensures.1 in
    (c.fill-middle.ensures.0.same ∙ c.requires.0, omega arith, omega arith, omega arith, inside_upper 21 9 bits middle ws below _ (omega arith))

pub fill-requires : goal.fill-requires
fill-requires c =
    let bits = c.args.bits in
    let middle = c.fill-middle.result in
    let ws = c.args.source.now in
    let below = below_inside bits c.args.at middle ws c.requires.2 c.fill-middle.ensures.1 in (
      c.fill-low.ensures.0.same ∙ c.fill-middle.ensures.0.same ∙ c.requires.0,
      omega arith,
      omega arith,
      omega arith,
      inside_lower 21 9 bits middle ws below 14 (omega arith) c.fill-low.result (omega arith) c.fill-low.ensures.1,
    )

pub returns : goal.returns
returns c =
    let lower =
    filled_then c.fill-low.ensures.0 c.fill-low.ensures.1 c.fill.ensures.0 (omega arith) (omega arith) (omega arith) (omega arith) in
    filled_all (filled_then c.fill-middle.ensures.0 c.fill-middle.ensures.1 lower (omega arith) (omega arith) (omega arith) (omega arith))
    c.requires.0
