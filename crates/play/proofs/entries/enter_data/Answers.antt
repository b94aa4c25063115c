-- `enter_data` meets its promise: a packet of no stream of the table is what plain reading refuses, and else STREAM; another is entered by its stream's choice,
-- and counted.
use Rattle.words.proofs.Kit.{sym, ◌∙◌}
use Rattle.play.proofs.StreamLaws.{sized_parts, sized_whole, known_below, known_few, known_data}
use Rattle.play.proofs.CheckedLaws.{unread_plain, headed_plain, unread_data, headed_data}
use Rattle.play.proofs.PlayLaws.{heard_data}
use Rattle.play.proofs.EntryLaws.{noted_unread, noted_undeclared, noted_heard}
use Rattle.play.proofs.entries.enter_data.Goals as goal

pub check_prologue-prologue-requires : goal.check_prologue-prologue-requires
check_prologue-prologue-requires c = (sized_parts _ _ c.requires.1, sized_whole _ _ c.requires.1)

pub returns-in_default-prologue : goal.returns-in_default-prologue
returns-in_default-prologue c =
    let r = c.requires in
    noted_unread _ _ r.0 _ _ (unread_plain _ _ _ r.1 r.2 _ c.in_default.ensures _ (rw c.unwrap_err.ensures at c.check_prologue-prologue.ensures))
    c.note_unread.ensures

pub returns-in_default : goal.returns-in_default
returns-in_default c =
    let r = c.requires in
    let read = headed_plain _ _ _ r.1 r.2 _ c.in_default.ensures c.in-Ok.ensures in
    noted_undeclared _ _ r.0 _ read _ c.in_default.ensures c.entry_undeclared.ensures

pub is_survey-requires : goal.is_survey-requires
is_survey-requires c = (c.requires.0, known_below _ _ c.requires.1 _ _ (sym c.in-Some.ensures))

pub enter_survey-requires : goal.enter_survey-requires
enter_survey-requires c = record {
  survey_packet = c.requires;
  stream_found = (sym c.in-Some.ensures, sym c.is_survey.ensures ∙ c.if-is_survey.true);
}

pub check_prologue-prologue-requires-2 : goal.check_prologue-prologue-requires-2
check_prologue-prologue-requires-2 c = (sized_parts _ _ c.requires.1, sized_whole _ _ c.requires.1)

pub returns-in_default-prologue-2 : goal.returns-in_default-prologue-2
returns-in_default-prologue-2 c =
    let r = c.requires in
    let read = unread_data _ _ _ r.1 r.2 _ c.in-Some.ensures _ c.is_survey.ensures c.if-is_survey.false _
    (rw c.unwrap_err-in_default-prologue-2.ensures at c.check_prologue-prologue-2.ensures) in
    noted_unread _ _ r.0 _ _ read c.note_unread-in_default-prologue-2.ensures

pub hear_data-missing-requires : goal.hear_data-missing-requires
hear_data-missing-requires c =
    let r = c.requires in
    let f = sym c.in-Some.ensures in
    (r.0, known_below _ _ r.1 _ _ f, known_data _ _ r.1 _ _ f r.2)

pub entry_heard-requires : goal.entry_heard-requires
entry_heard-requires c = known_few _ _ c.requires.1 _ _ (sym c.in-Some.ensures) c.requires.0

pub returns : goal.returns
returns c =
    let r = c.requires in
    let e = c.in-Ok-prologue.ensures in
    let read = headed_data _ _ _ r.1 r.2 _ c.in-Some.ensures _ c.is_survey.ensures c.if-is_survey.false e in
    noted_heard _ _ r.0 _ read _ _ _ _ c.in-Some.ensures (search heard_data) c.entry_heard.ensures
