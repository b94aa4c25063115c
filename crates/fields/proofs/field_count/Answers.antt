-- `field_count` meets its promise: the law of counts of ones, of an indicator without its bits 7-0.
use Rattle.words.proofs.Kit.{sym, ap, ◌∙◌, ◌*◌, ◌/◌, length}
use Rattle.words.proofs.SetBitLaws.{bits_counted, bits_above}
use Rattle.fields.specs.Layout.{field_count}
use Rattle.fields.proofs.field_count.Goals as goal

pub returns : goal.returns
unfolding field_count
returns c =
    let n = c.args.indicator in
    sym (bits_counted 31 (n / 256 * 256)) ∙ ap length (bits_above 31 7 n)
