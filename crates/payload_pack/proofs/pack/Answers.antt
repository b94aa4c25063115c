-- `pack` meets its promise: a refusal of `pack_check` is given on (`pack_refused`), and what it lets through is packed (`pack_accepted`).
use Rattle.std.proofs.lemmas.Result.{err_from_is_err_and}
use Rattle.payload_pack.proofs.PackLaws.{ready, pack_refused, pack_accepted}
use Rattle.payload_pack.proofs.pack.Goals as goal

pub returns-in_err-pack_check : goal.returns-in_err-pack_check
returns-in_err-pack_check c =
    let p = err_from_is_err_and c.from_residual.result c.from_residual.ensures.1 in
    rw (p.1, p.2) (pack_refused _ _ _ _ _ _ _ c.in_err-pack_check.ensures)

pub pack_fields-requires : goal.pack_fields-requires
pack_fields-requires c = ready _ _ _ _ _ _ c.in_ok-pack_check.ensures _ c.packing_of.ensures

pub returns : goal.returns
returns c = pack_accepted _ _ _ _ _ _ c.in_ok-pack_check.ensures _ c.packing_of.ensures _ _ c.words_for.ensures c.pack_fields.ensures
