-- `pack_tagged` meets its promise. The invariant: k fields are put (`Writing`); `writing_next` carries the turn, `writing_done` the end.
use Rattle.payload_format.proofs.FieldLaws.{fields_blank}
use Rattle.words.proofs.Kit.{arith, subst, ◌∙◌, ℕ, ◌^◌, ◌<◌}
use Rattle.payload_pack.proofs.WritingLaws.{writing_start, writing_length, writing_can, writing_last, writing_done, writing_next}
use Rattle.payload_pack.proofs.making.pack_tagged.Goals as goal

pub loop-k-init : goal.loop-k-init
loop-k-init c = writing_start _ _ _ _ _ c.requires.0.legal.some c.empty-s.ensures

pub make-v-requires : goal.make-v-requires
make-v-requires c =
    let r = c.requires in
    let h = c.loop-k-test.true in
    (r.0.legal, r.1.each _ h, r.2.each _ h, r.3.each _ h)

pub push_field-requires : goal.push_field-requires
push_field-requires c =
    let a = c.args in
    writing_can a.p a.n _ a.out.now _ _ _ c.requires.0 c.loop-k.invariant _ c.loop-k-test.true
    c.make-v.ensures.1

pub loop-k-preserved : goal.loop-k-preserved
loop-k-preserved c =
    let m = c.make-v.ensures in
    writing_next c.loop-k.invariant c.push_field.ensures m.0 (subst (λ (x : ℕ). x < 2 ^ c.args.p.field) m.0 m.1)

pub finish-requires : goal.finish-requires
finish-requires c =
    let a = c.args in
    let l = c.loop-k in
    writing_last a.p a.n _ a.out.now _ _ _ c.requires.0 l.invariant (omega arith)

pub shape_of-out : goal.shape_of-out
shape_of-out c =
    c.finish.auto.out ∙ writing_length c.loop-k.invariant

pub returns : goal.returns
returns c =
    let a = c.args in
    let r = c.requires in
    let l = c.loop-k in
    writing_done a.p a.n _ a.out.now _ _ _ r.0 l.invariant _ (omega arith)
    (λ j h. fields_blank a.p j a.items.now a.events.now a.channels.now (omega (arith, r.1.many)) (omega (arith, r.2.many))
    (omega (arith, r.3.many)))
    c.finish.ensures
