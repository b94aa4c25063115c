-- `seek_stream` meets its promise. The invariant `Seeking` says that none of the identifiers passed is the one looked for; its laws carry the turn.
use Rattle.words.proofs.Kit.{arith, rules}
use Rattle.play.proofs.StreamLaws.{table_there, table_few, Seeking, seeking_start, seeking_small, seeking_inside, seeking_found}
use Rattle.play.proofs.StreamLaws.{seeking_turn, seeking_none}
use Rattle.play.proofs.streams.seek_stream.Goals as goal

pub bounds-table-0 : goal.bounds-table-0
bounds-table-0 c = search table_there

pub loop-s-init : goal.loop-s-init
loop-s-init c = search seeking_start

pub record_at-requires : goal.record_at-requires
record_at-requires c = search seeking_small

pub bounds-table-record_at : goal.bounds-table-record_at
bounds-table-record_at c = search seeking_inside

pub returns-then-table-record_at : goal.returns-then-table-record_at
returns-then-table-record_at c = search seeking_found

pub loop-s-preserved : goal.loop-s-preserved
loop-s-preserved c = search seeking_turn

pub returns : goal.returns
returns c = seeking_none _ _ _ c.loop-s.invariant (omega arith)
