-- `pack_items` meets its promise. The invariant: k fields are put (`Writing`); `writing_next` carries the turn, `writing_done` the end.
use Rattle.payload_pack.proofs.WritingLaws.{writing_start, writing_length, writing_can, writing_last, writing_done, writing_next}
use Rattle.payload_format.proofs.FieldLaws.{item_alone, item_below, items_blank}
use Rattle.words.proofs.Kit.{◌∙◌, arith}
use Rattle.payload_pack.proofs.making.pack_items.Goals as goal

pub loop-k-init : goal.loop-k-init
loop-k-init c = writing_start _ _ _ _ _ c.requires.0.legal.some c.empty-s.ensures

pub push_field-requires : goal.push_field-requires
push_field-requires c =
    let a = c.args in
    let r = c.requires in
    let l = c.loop-k in
    rw (item_alone a.p r.0.legal _ (r.1.each l.k c.loop-k-test.true))
    (writing_can a.p a.n _ a.out.now _ _ _ r.0 l.invariant _ c.loop-k-test.true
    (item_below a.p r.0.legal _ (r.1.each l.k c.loop-k-test.true)))

pub loop-k-preserved : goal.loop-k-preserved
loop-k-preserved c =
    let a = c.args in
    let r = c.requires in
    let l = c.loop-k in
    let h = r.1.each l.k c.loop-k-test.true in
    writing_next l.invariant c.push_field.ensures (item_alone a.p r.0.legal _ h) (item_below a.p r.0.legal _ h)

pub finish-requires : goal.finish-requires
finish-requires c =
    let a = c.args in
    let l = c.loop-k in
    writing_last a.p a.n _ a.out.now _ _ _ c.requires.0 l.invariant (omega arith)

pub shape_of-out : goal.shape_of-out
shape_of-out c =
    c.finish.auto.out ∙ writing_length c.loop-k.invariant

pub returns : goal.returns
returns c =
    let a = c.args in
    let r = c.requires in
    let l = c.loop-k in
    writing_done a.p a.n _ a.out.now _ _ _ r.0 l.invariant _ (omega arith)
    (λ j h. items_blank a.items.now j _ (omega (arith, r.1.many))) c.finish.ensures
