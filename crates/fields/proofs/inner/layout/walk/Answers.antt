-- `walk` meets its promise. The invariant `Striding` says what is left: the fields of the bits that are left, from the place reached on, decide; its laws carry
-- the turn.
use Rattle.words.proofs.Kit.{sym, ◌∙◌, ◌-◌, drop, arith}
use Rattle.fields.proofs.PlaceLaws.{first_word}
use Rattle.fields.proofs.RuleLaws.{word_only}
use Rattle.fields.proofs.WalkLaws.{striding_start, striding_near, striding_fits, striding_over}
use Rattle.fields.proofs.WalkLaws.{striding_broken, striding_turn, striding_end, striding_past}
use Rattle.fields.proofs.inner.layout.walk.Goals as goal

pub loop-bit-init : goal.loop-bit-init
loop-bit-init c = search striding_start

pub returns-then-not-first_ok-clause-broken : goal.returns-then-not-first_ok-clause-broken
returns-then-not-first_ok-clause-broken c =
    let first = c.word_at.ensures ∙ sym (first_word c.loop-bit.place c.args.body.now) in
    let rule = word_only (c.loop-bit.bit - 1) _ (drop c.loop-bit.place c.args.body.now) first _ c.first_ok.ensures.0 c.first_ok.ensures.1 (omega arith) in
    search striding_broken

pub overflow_add-place : goal.overflow_add-place
overflow_add-place c = search striding_fits

pub loop-bit-preserved-then-bits-bit-eq1 : goal.loop-bit-preserved-then-bits-bit-eq1
loop-bit-preserved-then-bits-bit-eq1 c =
    let first = c.word_at.ensures ∙ sym (first_word c.loop-bit.place c.args.body.now) in
    let rule = word_only (c.loop-bit.bit - 1) _ (drop c.loop-bit.place c.args.body.now) first _ c.first_ok.ensures.0 c.first_ok.ensures.1 (omega arith) in
    search striding_turn

pub loop-bit-preserved : goal.loop-bit-preserved
loop-bit-preserved c = search striding_over

pub returns-clause-kept : goal.returns-clause-kept
returns-clause-kept c = (search striding_end, search striding_past, search striding_near)
