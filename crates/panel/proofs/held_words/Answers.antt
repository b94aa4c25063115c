-- `held_words` meets its promise: what may not be asked for is refused, and else the words are copied.
use Rattle.words.proofs.PassedLaws.{passed}
use Rattle.panel.proofs.ReadingLaws.{asked_few, asked_has, asked_least, asked_most, words_refused, words_copied}
use Rattle.panel.proofs.held_words.Goals as goal

pub returns-in_err-check : goal.returns-in_err-check
returns-in_err-check c = rw (passed _ c.from_residual.ensures.1) (search (words_refused, c.in_err-check.ensures))

pub copy_at-requires : goal.copy_at-requires
copy_at-requires c = search (asked_few, asked_has, asked_least, asked_most, c.in_ok-check.ensures)

pub returns : goal.returns
returns c = search (words_copied, c.in_ok-check.ensures)
