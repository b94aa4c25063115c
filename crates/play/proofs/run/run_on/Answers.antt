-- `run_on` meets its promise. The invariant `Running` says that the entries so far and the walk that is left are the whole walk; its laws carry the turn.
use Rattle.words.proofs.Kit.{◌≡◌, ◌-◌, ◌/◌, arith, length, rules}
use Rattle.play.specs.Run.{entry_words, walk_of}
use Rattle.play.proofs.EntryLaws.{noted_small, unread_small}
use Rattle.play.proofs.RunLaws.{Running, running_start, running_over, running_all, running_end}
use Rattle.play.proofs.RunLaws.{written_long, stopped_placeable, turned, stopped_same, stopped_done}
use Rattle.play.proofs.run.run_on.Goals as goal

pub loop-n-init : goal.loop-n-init
loop-n-init c = search running_start

pub returns-then-recording-at : goal.returns-then-recording-at
returns-then-recording-at c = search (running_end, running_over)

pub entry_unread-told-requires : goal.entry_unread-told-requires
entry_unread-told-requires c = search (stopped_placeable, c.enter-e.ensures)

pub write_entry-requires : goal.write_entry-requires
write_entry-requires c = search (rules, unread_small)

pub shape_of-table-then-e-eq0 : goal.shape_of-table-then-e-eq0
shape_of-table-then-e-eq0 c = search stopped_same

pub shape_of-answers-then-e-eq0 : goal.shape_of-answers-then-e-eq0
shape_of-answers-then-e-eq0 c = search written_long

pub returns-then-e-eq0 : goal.returns-then-e-eq0
returns-then-e-eq0 c = search (stopped_done, c.enter-e.ensures, c.entry_unread-told.ensures)

pub write_entry-requires-in-loop-n : goal.write_entry-requires-in-loop-n
write_entry-requires-in-loop-n c = search (rules, noted_small)

pub overflow_add-at : goal.overflow_add-at
overflow_add-at c = omega (arith, noted_small)

pub loop-n-preserved : goal.loop-n-preserved
loop-n-preserved c = search turned

pub returns : goal.returns
returns c = running_all c.loop-n.invariant.1 c.loop-n-test.false c.loop-n.invariant.0
