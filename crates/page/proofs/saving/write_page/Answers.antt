-- `write_page` meets its promise: S, the size, the pairs and the bodies are laid one after the other, and `page_laid` says that they are the page.
use Rattle.page.proofs.SaveLaws.{size_small, page_some, page_more, page_room, page_kept, page_laid}
use borrow.Author.Rules.{rules}
use Rattle.page.proofs.saving.write_page.Goals as goal

pub bounds-page-0 : goal.bounds-page-0
bounds-page-0 c = search page_some

pub overflow_cast-page-2 : goal.overflow_cast-page-2
overflow_cast-page-2 c = search size_small

pub bounds-page-1 : goal.bounds-page-1
bounds-page-1 c = search page_more

pub write_streams-requires : goal.write_streams-requires
write_streams-requires c = (search, search page_room)

pub shape_of-page : goal.shape_of-page
shape_of-page c = search page_kept

pub returns : goal.returns
returns c = search page_laid
