-- `record_good_in` meets its promise: the body is tested for its record.
use Rattle.page.proofs.PutLaws.{load_asks, record_in}
use borrow.Author.Rules.{rules}
use Rattle.page.proofs.good.record_good_in.Goals as goal

pub body_good-requires : goal.body_good-requires
body_good-requires c = search load_asks

pub returns : goal.returns
returns c = search record_in
