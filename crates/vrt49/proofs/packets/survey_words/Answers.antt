-- `survey_words` meets its promise: the packet's values are copied, and four are stored behind them.
use Rattle.vrt49.proofs.SurveyLaws.{survey_laid}
use borrow.Author.Rules.{rules}
use Rattle.vrt49.proofs.packets.survey_words.Goals as goal

pub returns : goal.returns
returns c = search survey_laid
