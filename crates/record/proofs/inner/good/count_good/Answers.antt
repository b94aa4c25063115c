-- `count_good` meets its promise: each return is a row of the definition.
use Rattle.words.proofs.Kit.{ne_eqb, arith, rules}
use Rattle.words.proofs.Cases.{cases}
use Rattle.record.specs.Good.{count_good}
use Rattle.record.proofs.inner.good.count_good.Goals as goal

pub returns-then-last-gt16 : goal.returns-then-last-gt16
unfolding count_good
returns-then-last-gt16 c =
    let started = ne_eqb c.args.last 0 (λ e. absurd (omega (arith, e))) in
    rw started (search cases)

pub returns-then-last-ne0 : goal.returns-then-last-ne0
unfolding count_good
returns-then-last-ne0 c = search cases

pub both_of-requires : goal.both_of-requires
unfolding count_good
both_of-requires c = search rules

pub returns : goal.returns
unfolding count_good
returns c = search (cases, c.both_of.ensures)
