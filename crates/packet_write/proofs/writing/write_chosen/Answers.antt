-- `write_chosen` meets its promise, step by step.
use Rattle.words.proofs.Kit.{◌≡◌, length, rules}
use Rattle.words.specs.Outcome.{accepted}
use Rattle.words.proofs.PassedLaws.{passed}
use Rattle.packet_write.specs.inner.Given.{Layable}
use Rattle.packet_write.specs.inner.Steps.{write_checks}
use Rattle.packet_write.specs.AsWords.{parts_in}
use Rattle.packet_write.proofs.WriteLaws.{parts_refused, kind_small, numbers_fit, parts_typed, count_refused, count_fits, content_refused}
use Rattle.packet_write.proofs.WriteLaws.{body_small, payload_refused, room_refused, passes, may_lay, laid}
use Rattle.packet_write.proofs.writing.write_chosen.Goals.{In_ok-check_room}
use Rattle.packet_write.proofs.writing.write_chosen.Goals as goal

-- nothing is refused
nothing : (c : In_ok-check_room) → write_checks c.args.governed c.args.pad (parts_in c.args.q.now) c.args.body.now (length c.args.out.now) c.args.at
    ≡ accepted tt
nothing c =
    search (passes, count_fits, c.in_ok-check_parts.ensures, c.in_ok-check_content.ensures, c.in_ok-check_pad.ensures, c.in_ok-check_room.ensures)

may-be-laid : (c : In_ok-check_room) → Layable c.args.pad (parts_in c.args.q.now) c.args.body.now (length c.args.out.now) c.args.at
may-be-laid c = search (may_lay, nothing c)

pub returns-in_err-check_parts : goal.returns-in_err-check_parts
returns-in_err-check_parts c = rw (passed _ c.from_residual.ensures.1) (search (parts_refused, c.in_err-check_parts.ensures))

pub returns-then-not-pad_fits : goal.returns-then-not-pad_fits
returns-then-not-pad_fits c = search (count_refused, c.in_ok-check_parts.ensures)

pub header_word-w-requires : goal.header_word-w-requires
header_word-w-requires c = search (kind_small, numbers_fit, c.in_ok-check_parts.ensures)

pub size_for-size-requires : goal.size_for-size-requires
size_for-size-requires c = search (rules, kind_small, numbers_fit, c.in_ok-check_parts.ensures)

pub check_content-requires : goal.check_content-requires
check_content-requires c = search (rules, parts_typed, c.in_ok-check_parts.ensures)

pub returns-in_err-check_content : goal.returns-in_err-check_content
returns-in_err-check_content c =
    rw (passed _ c.from_residual-in_err-check_content.ensures.1)
    (search (content_refused, count_fits, c.in_ok-check_parts.ensures, c.in_err-check_content.ensures))

pub check_pad-requires : goal.check_pad-requires
check_pad-requires c = search (rules, numbers_fit, count_fits, body_small, c.in_ok-check_parts.ensures, c.in_ok-check_content.ensures)

pub returns-in_err-check_pad : goal.returns-in_err-check_pad
returns-in_err-check_pad c =
    rw (passed _ c.from_residual-in_err-check_pad.ensures.1)
    (search (payload_refused, count_fits, c.in_ok-check_parts.ensures, c.in_ok-check_content.ensures, c.in_err-check_pad.ensures))

pub returns-in_err-check_room : goal.returns-in_err-check_room
returns-in_err-check_room c =
    rw (passed _ c.from_residual-in_err-check_room.ensures.1)
    (search (room_refused, count_fits, c.in_ok-check_parts.ensures, c.in_ok-check_content.ensures, c.in_ok-check_pad.ensures, c.in_err-check_room.ensures))

pub lay-requires : goal.lay-requires
lay-requires c = record { parts_given = (search, search (may-be-laid ((goal.at.lay-requires c).In_ok-check_room))); header_given = (search, search) }

pub returns : goal.returns
returns c = search (laid, nothing ((goal.at.returns c).In_ok-check_room))
