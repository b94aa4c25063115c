-- `squeeze` meets its promise: the held words of the three parts, one after the other, are all held words (`held_parts`), and so there is room for each.
use Rattle.words.proofs.Kit.{◌+◌, ◌≤◌, arith, rules, length}
use Rattle.words.proofs.LaidLaws.{then, laid_length}
use Rattle.page.specs.inner.Squeezed.{held_between}
use Rattle.page.proofs.SqueezeLaws.{held_parts, held_parts_length}
use Rattle.page.proofs.bodies.squeeze.Goals.{Start}
use Rattle.page.proofs.bodies.squeeze.Goals as goal

-- there is room for the held words of the three parts
parts-room : (c : Start) → let held = c.args.held in let slots = c.args.slots.now in
    c.args.at + (length (held_between 30 21 held slots) + (length (held_between 21 14 held slots) + length (held_between 14 9 held slots)))
    ≤ length c.args.page.now
parts-room c =
    omega (arith, c.requires.2, held_parts_length c.args.held c.args.slots.now c.requires.1 21 14 (omega arith) (omega arith) (omega arith) c.requires.0)

pub squeeze_between-middle-requires : goal.squeeze_between-middle-requires
squeeze_between-middle-requires c =
    (search rules, omega arith, omega arith, omega arith, omega (arith, parts-room ((goal.at.squeeze_between-middle-requires c).Start)))

pub squeeze_between-low-requires : goal.squeeze_between-low-requires
squeeze_between-low-requires c =
    let first = c.squeeze_between-middle.ensures in (
      search rules,
      omega arith,
      omega arith,
      omega arith,
      omega (
        arith,
        parts-room ((goal.at.squeeze_between-low-requires c).Start),
        first.past,
        laid_length first,
      ),
    )

pub squeeze_between-requires : goal.squeeze_between-requires
squeeze_between-requires c =
    let first = c.squeeze_between-middle.ensures in
    let second = c.squeeze_between-low.ensures in (
      search rules,
      omega arith,
      omega arith,
      omega arith,
      omega (arith, parts-room ((goal.at.squeeze_between-requires c).Start), first.past, second.past, laid_length first, laid_length second),
    )

pub returns : goal.returns
returns c =
    let all = held_parts c.args.held c.args.slots.now c.requires.1 21 14 (omega arith) (omega arith) (omega arith) in
    rw all at (then c.squeeze_between-middle.ensures (then c.squeeze_between-low.ensures c.squeeze_between.ensures))
