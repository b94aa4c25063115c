-- An item that is let through is below 2,097,120, which 32 bits hold.
use Rattle.words.proofs.Kit.{arith}
use Rattle.payload_format.proofs.FormatLaws.{items_few}
use Rattle.payload_order.proofs.coordinates_of.Goals as goal

pub overflow_cast-item : goal.overflow_cast-item
overflow_cast-item c = omega (arith, items_few c.args.first c.args.second c.args.n c.in_ok-items_check.ensures)
