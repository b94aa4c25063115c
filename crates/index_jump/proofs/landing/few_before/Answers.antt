-- `few_before` meets its promise: the first word of a page is the number of its streams.
use Rattle.words.proofs.Kit.{rules}
use Rattle.index_jump.proofs.LandLaws.{entry_there, few_said}
use Rattle.index_jump.proofs.landing.few_before.Goals as goal

pub page_in-page-requires : goal.page_in-page-requires
page_in-page-requires c = search entry_there

pub returns : goal.returns
returns c = search few_said
