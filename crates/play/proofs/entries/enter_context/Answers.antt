-- `enter_context` meets its promise: what reading refuses is given, then a packet of no stream of the table is STREAM, and another is counted and its fields
-- are held.
use Rattle.words.proofs.Kit.{sym}
use Rattle.play.proofs.StreamLaws.{sized_parts, sized_whole, known_below, known_few}
use Rattle.play.proofs.CheckedLaws.{unread_prologue, unread_body, headed_context}
use Rattle.play.proofs.EntryLaws.{noted_unread, noted_undeclared, noted_heard}
use Rattle.play.proofs.entries.enter_context.Goals as goal

pub check_prologue-prologue-requires : goal.check_prologue-prologue-requires
check_prologue-prologue-requires c = (sized_parts _ _ c.requires.1, sized_whole _ _ c.requires.1)

pub returns-in_default : goal.returns-in_default
returns-in_default c =
    let r = c.requires in
    noted_unread _ _ r.0 _ _ (unread_prologue _ _ _ r.1 r.2 _ (rw c.unwrap_err.ensures at c.check_prologue-prologue.ensures)) c.note_unread.ensures

pub check_body-body-requires : goal.check_body-body-requires
check_body-body-requires c = (sized_parts _ _ c.requires.1, sized_whole _ _ c.requires.1)

pub returns-in_default-body : goal.returns-in_default-body
returns-in_default-body c =
    let r = c.requires in
    let read = unread_body _ _ _ r.1 r.2 c.in-Ok.ensures _ (rw c.unwrap_err-in_default-body.ensures at c.check_body-body.ensures) in
    noted_unread _ _ r.0 _ _ read c.note_unread-in_default-body.ensures

pub returns-in_default-seek : goal.returns-in_default-seek
returns-in_default-seek c =
    let r = c.requires in
    let read = headed_context _ _ _ r.1 r.2 c.in-Ok.ensures c.in-Ok-body.ensures in
    noted_undeclared _ _ r.0 _ read _ c.in_default-seek.ensures c.entry_undeclared.ensures

pub hear_context-missing-requires : goal.hear_context-missing-requires
hear_context-missing-requires c =
    let r = c.requires in
    let read = headed_context _ _ _ r.1 r.2 c.in-Ok.ensures c.in-Ok-body.ensures in
    (r.0, known_below _ _ r.1 _ _ (sym c.in-Some.ensures), read, r.2)

pub entry_heard-requires : goal.entry_heard-requires
entry_heard-requires c = known_few _ _ c.requires.1 _ _ (sym c.in-Some.ensures) c.requires.0

pub returns : goal.returns
returns c =
    let r = c.requires in
    let read = headed_context _ _ _ r.1 r.2 c.in-Ok.ensures c.in-Ok-body.ensures in
    noted_heard _ _ r.0 _ read _ _ _ _ c.in-Some.ensures c.hear_context-missing.ensures c.entry_heard.ensures
