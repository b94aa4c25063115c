-- `enter_survey` meets its promise: what reading by 49A refuses is given, and another packet is counted.
use Rattle.words.proofs.Kit.{sym}
use Rattle.play.proofs.StreamLaws.{sized_parts, sized_whole, known_below, known_few, known_data}
use Rattle.play.proofs.CheckedLaws.{unread_survey, headed_survey}
use Rattle.play.proofs.PlayLaws.{heard_data}
use Rattle.play.proofs.EntryLaws.{noted_unread, noted_heard}
use Rattle.play.proofs.entries.enter_survey.Goals as goal

pub check_survey-rest-requires : goal.check_survey-rest-requires
check_survey-rest-requires c = let p = c.requires.survey_packet.1 in (sized_parts _ _ p, sized_whole _ _ p)

pub returns-in_default : goal.returns-in_default
returns-in_default c =
    let r = c.requires.survey_packet in
    let f = c.requires.stream_found in
    noted_unread _ _ r.0 _ _ (unread_survey _ _ _ r.1 _ f.0 f.1 _ (rw c.unwrap_err.ensures at c.check_survey-rest.ensures)) c.note_unread.ensures

pub hear_data-missing-requires : goal.hear_data-missing-requires
hear_data-missing-requires c =
    let r = c.requires.survey_packet in
    let f = c.requires.stream_found.0 in
    (r.0, known_below _ _ r.1 _ _ f, known_data _ _ r.1 _ _ f r.2)

pub entry_heard-requires : goal.entry_heard-requires
entry_heard-requires c =
    known_few _ _ c.requires.survey_packet.1 _ _ c.requires.stream_found.0 c.requires.survey_packet.0

pub returns : goal.returns
returns c =
    let r = c.requires.survey_packet in
    let f = c.requires.stream_found in
    let read = headed_survey _ _ _ r.1 _ f.0 f.1 c.in-Ok.ensures in
    noted_heard _ _ r.0 _ read _ _ _ _ (sym f.0) (search heard_data) c.entry_heard.ensures
