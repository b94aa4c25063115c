-- `is_survey` meets its promise: the choice stands in the record of the stream.
use Rattle.play.proofs.StreamLaws.{chosen_small, chosen_inside, chosen_read}
use borrow.Author.Rules.{rules}
use Rattle.play.proofs.streams.is_survey.Goals as goal

pub record_at-requires : goal.record_at-requires
record_at-requires c = search chosen_small

pub bounds-table-record_at : goal.bounds-table-record_at
bounds-table-record_at c = search chosen_inside

pub returns : goal.returns
returns c = search chosen_read
