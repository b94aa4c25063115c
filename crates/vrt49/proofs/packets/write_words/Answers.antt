-- `write_words` meets its promise: what the checks refuse, and else what writing answers.
use Rattle.words.proofs.PassedLaws.{passed}
use Rattle.vrt49.proofs.PartsLaws.{words_refused, words_written}
use Rattle.vrt49.proofs.packets.write_words.Goals as goal

pub returns-in_err-check_words : goal.returns-in_err-check_words
returns-in_err-check_words c = rw (passed _ c.from_residual.ensures.1) (search (words_refused, c.in_err-check_words.ensures))

pub returns : goal.returns
returns c = search (words_written, c.in_ok-check_words.ensures)
