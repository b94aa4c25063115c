-- `whole_hertz` meets its promise: the machine's division rounds down.
use Rattle.panel.proofs.ValueLaws.{floored}
use Rattle.panel.proofs.values.whole_hertz.Goals as goal

pub returns : goal.returns
returns c = search floored
