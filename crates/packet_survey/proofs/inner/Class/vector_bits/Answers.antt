-- `vector_bits` meets its promise: the product is the definition's, and its factors are small.
use Rattle.words.proofs.Kit.{rules}
use Rattle.packet_survey.specs.Payload.{vector_bits}
use Rattle.packet_survey.proofs.PayloadLaws.{sample_small, vector_small, vector_some}
use Rattle.packet_survey.proofs.inner.Class.vector_bits.Goals as goal

pub overflow_mul-result : goal.overflow_mul-result
overflow_mul-result c = search (rules, sample_small)

pub overflow_mul-result-2 : goal.overflow_mul-result-2
overflow_mul-result-2 c = search (rules, vector_small)

pub returns : goal.returns
unfolding vector_bits
returns c = (rw (c.components.ensures.0, c.item_bits.ensures.0), search (rules, vector_some))
