-- `show_in` meets its promise: each return is a line of the definition, of the words where they stand.
use Rattle.panel.proofs.ReadingLaws.{shows_absent}
use Rattle.panel.proofs.InRecordLaws.{first_fits, later_fits, here_frequency, here_level, here_gain, here_temperature, here_other}
use borrow.Author.Rules.{rules}
use Rattle.panel.proofs.shows.show_in.Goals as goal

pub returns-then-not-is_held : goal.returns-then-not-is_held
returns-then-not-is_held c = search shows_absent

pub overflow_add-at : goal.overflow_add-at
overflow_add-at c = search first_fits

pub overflow_add-at-then-is_frequency : goal.overflow_add-at-then-is_frequency
overflow_add-at-then-is_frequency c = search (rules, later_fits)

pub returns-then-is_frequency : goal.returns-then-is_frequency
returns-then-is_frequency c = search here_frequency

pub returns-in-24 : goal.returns-in-24
returns-in-24 c = search here_level

pub returns-in-23 : goal.returns-in-23
returns-in-23 c = search here_gain

pub returns-in-18 : goal.returns-in-18
returns-in-18 c = search here_temperature

pub returns-in_default : goal.returns-in_default
returns-in_default c = search here_other
