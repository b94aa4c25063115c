-- `code_of` meets its promise: each return is a range of the table.
use Rattle.words.proofs.Kit.{rules}
use Rattle.packet_survey.proofs.ClassLaws.{signed_code, float_code, unsigned_code}
use Rattle.packet_survey.proofs.inner.code_of.Goals as goal

pub returns-in-0-to-5 : goal.returns-in-0-to-5
returns-in-0-to-5 c = search (rules, signed_code)

pub returns-in-6-to-7 : goal.returns-in-6-to-7
returns-in-6-to-7 c = search (rules, float_code)

pub returns-in_default : goal.returns-in_default
returns-in_default c = search (rules, unsigned_code)
