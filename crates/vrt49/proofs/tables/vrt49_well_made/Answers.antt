-- `vrt49_well_made` meets its promise: the test as a word.
use Rattle.words.proofs.Kit.{ap, ◌∙◌, Bool, rules}
use Rattle.words.specs.Tests.{when}
use Rattle.vrt49.proofs.tables.vrt49_well_made.Goals as goal

pub returns : goal.returns
returns c = c.flag.ensures ∙ ap (λ (t : Bool). when t 1) c.well_made.ensures
