-- `pack_fields` meets its promise: where both tags have size zero, `untagged` says that the fields hold items alone.
use Rattle.payload_pack.proofs.PackLaws.{untagged}
use Rattle.words.proofs.Kit.{◌∙◌}
use Rattle.payload_pack.proofs.making.pack_fields.Goals as goal

pub returns-then-p-eq0 : goal.returns-then-p-eq0
returns-then-p-eq0 c =
    let a = c.args in
    let r = c.requires in
    c.pack_items.ensures
    ∙ untagged a.p a.n a.items.now a.events.now a.channels.now a.out.now c.if-p-eq0.true r.2 r.3
