-- `write_records` meets its promise. The invariant `Starting` says that the records passed are fresh and the rest is as it was.
use Rattle.words.proofs.Kit.{◌-◌, length, rules}
use Rattle.table.proofs.StartLaws.{Starting, writing_start, writing_turn, writing_end}
use Rattle.table.proofs.records.write_records.Given as goal

abbrev pub invariant-loop-s : goal.invariant-loop-s
invariant-loop-s l = Starting l.ids l.choices l.initial.table l.table l.s
