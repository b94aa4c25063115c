-- `write_table` meets its promise. The records written so far are laid behind S (`Putting`); its laws carry the turn.
use Rattle.words.proofs.Kit.{◌-◌, rules}
use Rattle.page.proofs.PutLaws.{Putting, putting_start, putting_contents, putting_body, putting_has, putting_turn, putting_kept, table_laid}
use Rattle.page.proofs.putting.write_table.Goals as goal

pub loop-s-init : goal.loop-s-init
loop-s-init c = search putting_start

pub put_record-requires : goal.put_record-requires
put_record-requires c = search (putting_contents, putting_body, putting_has)

pub loop-s-preserved : goal.loop-s-preserved
loop-s-preserved c = search putting_turn

pub shape_of-table : goal.shape_of-table
shape_of-table c = search putting_kept

pub returns : goal.returns
returns c = search table_laid
