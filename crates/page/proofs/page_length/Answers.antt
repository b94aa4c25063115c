-- `page_length` meets its promise: each return is one law of the definition's chain.
use Rattle.page.proofs.SaveLaws.{length_ill, made_well, length_over, length_fine}
use borrow.Author.Rules.{rules}
use Rattle.page.proofs.page_length.Goals as goal

pub returns-then-not-well_made : goal.returns-then-not-well_made
returns-then-not-well_made c = search length_ill

pub page_words-length-requires : goal.page_words-length-requires
page_words-length-requires c = search made_well

pub returns-then-length-gt-SIZE_LIMIT : goal.returns-then-length-gt-SIZE_LIMIT
returns-then-length-gt-SIZE_LIMIT c = search length_over

pub returns : goal.returns
returns c = search length_fine
