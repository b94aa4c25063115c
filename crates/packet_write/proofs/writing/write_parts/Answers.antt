-- `write_parts` meets its promise: without 49A there is no pad count.
use Rattle.packet_write.proofs.WriteLaws.{chosen_plain}
use Rattle.packet_write.proofs.writing.write_parts.Goals as goal

pub write_chosen-requires : goal.write_chosen-requires
write_chosen-requires c = search chosen_plain
