-- `grow` meets its promise: the table and the contents are tested, and then the packet is taken in.
use Rattle.words.proofs.Kit.{ap, not, rules}
use Rattle.index_grow.proofs.GrowLaws.{grow_ill, grow_contents, grow_tested, grow_ready, reaches_yes, reaches_no}
use Rattle.index_grow.proofs.grow.Goals as goal

pub returns-then-not-well_made : goal.returns-then-not-well_made
returns-then-not-well_made c = search grow_ill

pub returns-then-not-index_good : goal.returns-then-not-index_good
returns-then-not-index_good c = search grow_contents

pub reaches_entry-requires : goal.reaches_entry-requires
reaches_entry-requires c = grow_tested _ _ c.index_good.ensures
    (ap not c.if-not-index_good.false)

pub grow_to_entry-requires : goal.grow_to_entry-requires
grow_to_entry-requires c = (search grow_ready, search reaches_yes)

pub grow_on-requires : goal.grow_on-requires
grow_on-requires c = (search grow_ready, search reaches_no)
