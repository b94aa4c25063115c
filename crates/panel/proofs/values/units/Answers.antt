-- `units` meets its promise: two words are 64 bits.
use Rattle.words.proofs.Kit.{ap, ◌∙◌, rules}
use Rattle.panel.specs.Values.{units_of}
use Rattle.words.specs.Signed.{twos_complement}
use Rattle.panel.proofs.ValueLaws.{back}
use Rattle.panel.proofs.values.units.Goals as goal

pub returns : goal.returns
unfolding units_of
returns c = back c.value_of.result c.value_of.type_inv (c.value_of.ensures ∙ ap (twos_complement 64) c.high_first.ensures)
