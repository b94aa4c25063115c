-- `items_in` meets its promise: the quotient is the definition's.
use Rattle.words.proofs.Kit.{◌≡◌, ℕ, ◌/◌, rules}
use Rattle.packet_survey.specs.Class.{data_type, item_bits}
use Rattle.packet_survey.specs.Payload.{payload_bits, items_in}
use Rattle.packet_survey.proofs.ClassLaws.{class_low_lem}
use Rattle.packet_survey.proofs.PayloadLaws.{pad_inside}
use Rattle.packet_survey.proofs.inner.Class.items_in.Goals as goal

quotient_is : (high low l payload bits : ℕ) → payload ≡ payload_bits high l → bits ≡ item_bits (data_type low) → payload / bits ≡ items_in high low l
unfolding items_in
quotient_is high low l payload bits p b = rw (p, b)

pub payload_bits-requires : goal.payload_bits-requires
payload_bits-requires c = search (rules, pad_inside)

pub item_bits-requires : goal.item_bits-requires
item_bits-requires c = search class_low_lem

pub returns : goal.returns
returns c = search quotient_is
