-- `read_other` meets its promise: a refusal of either step is given, and else what the packet's words say.
use Rattle.words.proofs.Kit.{rules}
use Rattle.words.proofs.ListedLaws.{passed_on}
use Rattle.packet.proofs.FrontLaws.{refused_first, header_there, required_fits, size_fits, none_reserved, refused_then, accepted_then, survey_refused}
use Rattle.packet.proofs.FrontLaws.{survey_given_lem}
use Rattle.packet.proofs.surveys.read_other.Goals as goal

pub returns-in_err-check_sized : goal.returns-in_err-check_sized
returns-in_err-check_sized c =
    passed_on _ _ c.from_residual.ensures.1 _ (survey_refused _ _ (refused_first _ _ _ c.in_err-check_sized.ensures))

pub bounds-ws-0 : goal.bounds-ws-0
bounds-ws-0 c = header_there _ c.in_ok-check_sized.ensures

pub check_survey-requires : goal.check_survey-requires
check_survey-requires c = search (required_fits, size_fits, c.in_ok-check_sized.ensures)

pub returns-in_err-check_survey : goal.returns-in_err-check_survey
returns-in_err-check_survey c =
    let read = refused_then _ c.in_ok-check_sized.ensures _ _ c.in_err-check_survey.ensures in
    passed_on _ _ c.from_residual-in_err-check_survey.ensures.1 _ (survey_refused _ _ read)

pub other_of-requires : goal.other_of-requires
other_of-requires c = search (rules, required_fits, size_fits, none_reserved, c.in_ok-check_sized.ensures)

pub returns : goal.returns
returns c = survey_given_lem _ _ c.other_of.ensures (accepted_then _ c.in_ok-check_sized.ensures _ c.in_ok-check_survey.ensures)
