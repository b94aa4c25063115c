-- `word_if` meets its promise: a part that is there lies inside.
use Rattle.packet.specs.Parts.{word_if}
use borrow.Author.Rules.{rules}
use Rattle.packet.proofs.prologue.word_if.Goals as goal

pub offset_bounds-ws-at : goal.offset_bounds-ws-at
offset_bounds-ws-at c = search (rules, c.requires c.if-present.true)

pub bounds-ws-at : goal.bounds-ws-at
bounds-ws-at c = c.requires c.if-present.true

pub returns-then-present : goal.returns-then-present
unfolding word_if
returns-then-present c = rw c.if-present.true

pub returns-else-present : goal.returns-else-present
unfolding word_if
returns-else-present c = rw c.if-present.false
