-- `is_apart` meets its promise: the identifiers passed are others.
use Rattle.words.proofs.Kit.{rules}
use Rattle.words.proofs.AllLaws.{all_none}
use Rattle.table.proofs.ListLaws.{apart_more, apart_twice, apart_ended}
use Rattle.table.proofs.identifiers.is_apart.Goals as goal

pub loop-u-init : goal.loop-u-init
loop-u-init c = search (rules, all_none)

pub returns-then-ws-first : goal.returns-then-ws-first
returns-then-ws-first c = search apart_twice

pub loop-u-preserved : goal.loop-u-preserved
loop-u-preserved c = search (rules, apart_more)

pub returns : goal.returns
returns c = search apart_ended
