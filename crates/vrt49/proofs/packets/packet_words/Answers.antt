-- `packet_words` meets its promise: the values are those of the packet, the flags as words.
use borrow.Author.Rules.{rules}
use Rattle.vrt49.proofs.packets.packet_words.Goals as goal

pub returns : goal.returns
returns c =
    rw (← c.flag-3.ensures, ← c.flag-2.ensures, ← c.flag.ensures)
