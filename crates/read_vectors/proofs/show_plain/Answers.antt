-- The body of an accepted packet lies inside the words that were read.
use Rattle.words.proofs.Kit.{◌≡◌, sym, arith, false}
use Rattle.words.specs.Outcome.{accepted}
use Rattle.packet.specs.Read.{read_of}
use Rattle.packet.proofs.ReadLaws.{body_inside, read_inside}
use Rattle.packet.proofs.ToldLaws.{told_packet}
use Rattle.read_vectors.proofs.show_plain.Goals as goal

pub show_context-requires : goal.show_context-requires
show_context-requires g c =
    let ws = c.args.ws.now in
    let p = c.in-Ok.p in
    let e : read_of ws ≡ accepted p = told_packet ws p (sym c.in-Ok.ensures) in
    omega (arith, body_inside false ws p e, read_inside false ws p e)
