-- `hear_context` meets its promise: the packet is counted, and then its fields are held.
use Rattle.record.proofs.PacketLaws.{context_most, context_adds, context_leaves}
use Rattle.std.proofs.Common.{rules}
use Rattle.record.proofs.inner.after.hear_context.Goals as goal

pub count-more-requires : goal.count-more-requires
count-more-requires c = (search, search rules, search, search context_most)

pub returns : goal.returns
returns c = (search context_adds, search context_leaves)
