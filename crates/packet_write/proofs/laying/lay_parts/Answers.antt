-- `lay_parts` meets its promise: three lends in turn, each where the one before it ended (`lend`, `then`).
use Rattle.words.proofs.LaidLaws.{then, lend}
use borrow.Author.Rules.{rules}
use Rattle.packet_write.proofs.laying.lay_parts.Goals as goal

pub returns : goal.returns
returns c =
    then (then (lend _ (search rules) c.lay_prologue.ensures) (lend _ (search rules) c.lay_body.ensures)) (lend _ (search rules) c.lay_trailer.ensures)
