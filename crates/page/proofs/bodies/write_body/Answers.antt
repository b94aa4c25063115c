-- `write_body` meets its promise: the first words are copied, the slots are lent to `squeeze`, and `body_laid` joins the two.
use Rattle.page.proofs.SaveLaws.{head_room, squeeze_held, squeeze_room, body_laid}
use borrow.Author.Rules.{rules}
use Rattle.page.proofs.bodies.write_body.Goals as goal

pub copy_part-requires : goal.copy_part-requires
copy_part-requires c = (search head_room, search rules)

pub squeeze-requires : goal.squeeze-requires
squeeze-requires c = search (squeeze_held, squeeze_room)

pub returns : goal.returns
returns c = search body_laid
