-- `flags_fit` meets its promise.
use Rattle.words.proofs.Cases.{cases}
use Rattle.packet_write.specs.Write.{flags_fit}
use Rattle.packet_write.proofs.fit.flags_fit.Goals as goal

pub returns-then-kind-lt4 : goal.returns-then-kind-lt4
unfolding flags_fit
returns-then-kind-lt4 c = search cases

pub returns-else-kind-lt4 : goal.returns-else-kind-lt4
unfolding flags_fit
returns-else-kind-lt4 c = search cases
