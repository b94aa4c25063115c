-- `unpack` meets its promise: a refusal of either check is given on (`unpack_asked`, `unpack_unfit`), and what both let through is unpacked
-- (`unpack_accepted`).
use Rattle.std.proofs.lemmas.Result.{err_from_is_err_and}
use Rattle.payload_format.proofs.FormatLaws.{items_legal, items_few}
use Rattle.payload_unpack.proofs.UnpackLaws.{unpack_asked, unpack_unfit, lent_rightly, unpack_accepted}
use Rattle.payload_unpack.proofs.unpacking.unpack.Goals as goal

pub returns-in_err-items_check : goal.returns-in_err-items_check
returns-in_err-items_check c =
    let e = err_from_is_err_and c.from_residual.result c.from_residual.ensures.1 in
    rw (e.1, e.2) (unpack_asked _ _ _ _ _ _ _ _ c.in_err-items_check.ensures)

pub fit_check-requires : goal.fit_check-requires
fit_check-requires c =
    (rw c.packing_of-p.ensures (items_legal _ _ _ c.in_ok-items_check.ensures), items_few _ _ _ c.in_ok-items_check.ensures)

pub returns-in_err-fit_check : goal.returns-in_err-fit_check
returns-in_err-fit_check c =
    let e = err_from_is_err_and c.from_residual-in_err-fit_check.result c.from_residual-in_err-fit_check.ensures.1 in
    rw (e.1, e.2) (unpack_unfit _ _ _ _ _ _ _ c.in_ok-items_check.ensures _ c.packing_of-p.ensures _ c.in_err-fit_check.ensures)

pub unpack_fields-requires : goal.unpack_fields-requires
unpack_fields-requires c =
    lent_rightly _ _ _ _ _ _ _ c.in_ok-items_check.ensures _ c.packing_of-p.ensures c.in_ok-fit_check.ensures

pub returns : goal.returns
returns c =
    unpack_accepted _ _ _ _ _ _ _ c.in_ok-items_check.ensures _ c.packing_of-p.ensures c.in_ok-fit_check.ensures _ c.unpack_fields.ensures
