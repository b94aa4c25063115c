-- `item_bits` meets its promise: the constant gives the table's bits, by a test that computes once over all data types (`bits_doubled`).
use Rattle.packet_survey.proofs.ClassLaws.{bits_doubled, bits_least, bits_most}
use Rattle.packet_survey.proofs.inner.item_bits.Goals as goal

pub returns : goal.returns
returns c =
    let k = c.args.data_type in
    let h = c.requires in
    let d = bits_doubled k h.0 h.1 in
    (d, rw d (bits_least k h.0 h.1), rw d (bits_most k h.0 h.1))
