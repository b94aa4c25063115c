-- `read_governed` meets its promise: a refusal of any step is given, and else what the packet's words say.
use Rattle.words.proofs.Kit.{refl, sym}
use Rattle.words.proofs.ListedLaws.{passed_on}
use Rattle.packet.proofs.FrontLaws.{refused_first, header_there, required_fits, size_fits, none_reserved, refused_then, accepted_then}
use Rattle.packet.proofs.FrontLaws.{governed_refused, payload_asked, governed_asked, survey_refused, survey_given_lem}
use Rattle.packet.proofs.surveys.read_governed.Goals as goal

pub returns-in_err-check_sized : goal.returns-in_err-check_sized
returns-in_err-check_sized c =
    passed_on _ _ c.from_residual.ensures.1 _ (survey_refused _ _ (refused_first _ _ _ c.in_err-check_sized.ensures))

pub bounds-ws-0 : goal.bounds-ws-0
bounds-ws-0 c = header_there _ c.in_ok-check_sized.ensures

pub check_prologue-requires : goal.check_prologue-requires
check_prologue-requires c = search (required_fits, size_fits, c.in_ok-check_sized.ensures)

pub returns-in_err-check_prologue : goal.returns-in_err-check_prologue
returns-in_err-check_prologue c =
    let rest = governed_asked _ _ _ refl _ c.requires (governed_refused _ _ _ c.in_err-check_prologue.ensures) in
    passed_on _ _ c.from_residual-in_err-check_prologue.ensures.1 _ (survey_refused _ _ (refused_then _ c.in_ok-check_sized.ensures _ _ rest))

pub class_high-high-requires : goal.class_high-high-requires
class_high-high-requires c = search (required_fits, size_fits, c.in_ok-check_sized.ensures)

pub class_low-low-requires : goal.class_low-low-requires
class_low-low-requires c = search (required_fits, size_fits, c.in_ok-check_sized.ensures)

pub body_length-payload-requires : goal.body_length-payload-requires
body_length-payload-requires c = required_fits _ c.in_ok-check_sized.ensures

pub returns-in_err-check_payload : goal.returns-in_err-check_payload
returns-in_err-check_payload c =
    let all = payload_asked _ _ _ _ _ c.in_ok-check_prologue.ensures c.class_high-high.ensures c.class_low-low.ensures c.in_err-check_payload.ensures in
    let rest = governed_asked _ _ _ refl _ c.requires all in
    passed_on _ _ c.from_residual-in_err-check_payload.ensures.1 _ (survey_refused _ _ (refused_then _ c.in_ok-check_sized.ensures _ _ rest))

pub survey_of-requires-clause-survey_packet : goal.survey_of-requires-clause-survey_packet
survey_of-requires-clause-survey_packet c =
    let fine = c.in_ok-check_sized.ensures in
    (required_fits _ fine, size_fits _ fine, none_reserved _ fine, c.requires, sym c.in_ok-check_payload.ensures)

pub returns : goal.returns
returns c =
    let all = payload_asked _ _ _ _ _ c.in_ok-check_prologue.ensures c.class_high-high.ensures c.class_low-low.ensures c.in_ok-check_payload.ensures in
    let rest = governed_asked _ _ _ refl _ c.requires all in
    survey_given_lem _ _ c.survey_of.ensures (accepted_then _ c.in_ok-check_sized.ensures _ rest)
