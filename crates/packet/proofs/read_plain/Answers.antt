-- `read_plain` meets its promise: a refusal of any step is given, and else the packet is what its words say.
use Rattle.words.proofs.ListedLaws.{passed_on}
use Rattle.packet.proofs.FrontLaws.{refused_first, header_there, required_fits, size_fits, none_reserved, refused_then, packet_given, prologue_refused}
use Rattle.packet.proofs.FrontLaws.{body_asked}
use Rattle.packet.proofs.read_plain.Goals as goal

pub returns-in_err-check_sized : goal.returns-in_err-check_sized
returns-in_err-check_sized c = passed_on _ _ c.from_residual.ensures.1 _ (refused_first _ _ _ c.in_err-check_sized.ensures)

pub bounds-ws-0 : goal.bounds-ws-0
bounds-ws-0 c = header_there _ c.in_ok-check_sized.ensures

pub check_prologue-requires : goal.check_prologue-requires
check_prologue-requires c = search (required_fits, size_fits, c.in_ok-check_sized.ensures)

pub returns-in_err-check_prologue : goal.returns-in_err-check_prologue
returns-in_err-check_prologue c =
    let rest = prologue_refused _ _ _ c.in_err-check_prologue.ensures in
    passed_on _ _ c.from_residual-in_err-check_prologue.ensures.1 _ (refused_then _ c.in_ok-check_sized.ensures _ _ rest)

pub check_body-requires : goal.check_body-requires
check_body-requires c = search (required_fits, size_fits, c.in_ok-check_sized.ensures)

pub returns-in_err-check_body : goal.returns-in_err-check_body
returns-in_err-check_body c =
    let rest = body_asked _ _ _ c.in_ok-check_prologue.ensures c.in_err-check_body.ensures in
    passed_on _ _ c.from_residual-in_err-check_body.ensures.1 _ (refused_then _ c.in_ok-check_sized.ensures _ _ rest)

pub class_high-high-requires : goal.class_high-high-requires
class_high-high-requires c = search (required_fits, size_fits, c.in_ok-check_sized.ensures)

pub class_low-low-requires : goal.class_low-low-requires
class_low-low-requires c = search (required_fits, size_fits, c.in_ok-check_sized.ensures)

pub packet_of-requires-clause-packet_whole : goal.packet_of-requires-clause-packet_whole
packet_of-requires-clause-packet_whole c = search (required_fits, size_fits, none_reserved, c.in_ok-check_sized.ensures)

pub returns : goal.returns
returns c =
    let body = body_asked _ _ _ c.in_ok-check_prologue.ensures c.in_ok-check_body.ensures in
    packet_given _ c.in_ok-check_sized.ensures _ body _ c.packet_of.ensures
