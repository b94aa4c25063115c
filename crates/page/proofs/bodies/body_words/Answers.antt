-- `body_words` meets its promise: the first words, and those that the counts of the held bits give.
use Rattle.page.proofs.BodyLaws.{words_added, added_most}
use borrow.Author.Rules.{rules}
use Rattle.page.proofs.bodies.body_words.Goals as goal

pub returns : goal.returns
returns c = (search words_added, search added_most)
