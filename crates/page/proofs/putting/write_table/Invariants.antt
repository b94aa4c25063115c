-- `write_table` meets its promise. The records written so far are laid behind S (`Putting`); its laws carry the turn.
use Rattle.words.proofs.Kit.{◌-◌, rules}
use Rattle.page.proofs.PutLaws.{Putting, putting_start, putting_contents, putting_body, putting_has, putting_turn, putting_kept, table_laid}
use Rattle.page.proofs.putting.write_table.Given as goal

abbrev pub invariant-loop-s : goal.invariant-loop-s
invariant-loop-s l = Putting l.page l.initial.table l.table l.n l.s
