-- `unpack_fields` meets its promise: no field leaves all as it is (`unpacked_none`), and tags of size zero read as 0 (`unpacked_plain`).
use Rattle.payload_unpack.proofs.UnpackLaws.{unpacked_none, unpacked_plain}
use Rattle.payload_unpack.proofs.unpacking.unpack_fields.Goals as goal

pub returns-then-n-eq0 : goal.returns-then-n-eq0
returns-then-n-eq0 c = search (unpacked_none c.args.p c.args.payload.now)

pub returns-then-p-eq0 : goal.returns-then-p-eq0
returns-then-p-eq0 c = search (unpacked_plain c.args.p c.args.payload.now)
