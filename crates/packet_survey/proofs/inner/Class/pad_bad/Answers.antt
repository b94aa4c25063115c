-- `pad_bad` meets its promise: each return is a part of the definition, in its order.
use Rattle.words.proofs.Kit.{◌≡◌, sym, ◌∙◌, Bool, true, false, not, ℕ}
use Rattle.packet_survey.specs.Class.{class_known}
use Rattle.packet_survey.specs.Payload.{payload_whole, pad_bad}
use Rattle.packet_survey.proofs.ClassLaws.{class_low_lem}
use Rattle.packet_survey.proofs.inner.Class.pad_bad.Goals as goal
use Rattle.packet_survey.proofs.inner.Class.pad_bad.Goals.{else-classed-via-then-classed+then-trailed+else-class_known}
use Rattle.packet_survey.proofs.inner.Class.pad_bad.Goals.{else-classed-via-then-classed+else-trailed, else-classed-via-else-classed}

module _ (classed trailed : Bool) (high low l : ℕ) where
  no_class : classed ≡ false → true ≡ pad_bad classed trailed high low l
  unfolding pad_bad
  no_class a = rw a

  no_trailer : classed ≡ true → trailed ≡ false → true ≡ pad_bad classed trailed high low l
  unfolding pad_bad
  no_trailer a b = rw (a, b)

  no_table : classed ≡ true → trailed ≡ true → class_known high low ≡ false → true ≡ pad_bad classed trailed high low l
  unfolding pad_bad
  no_table a b k = rw (a, b, k)

  payload_asked : classed ≡ true → trailed ≡ true → class_known high low ≡ true → (whole : Bool) → whole ≡ payload_whole high low l
      → not whole ≡ pad_bad classed trailed high low l
  unfolding pad_bad
  payload_asked a b k whole w = rw (a, b, k, w)

pub payload_whole-requires : goal.payload_whole-requires
payload_whole-requires c = (class_low_lem c.args.self.high c.args.self.low (sym c.if-class_known.ensures), c.requires)

pub returns-then-class_known : goal.returns-then-class_known
returns-then-class_known c =
    payload_asked _ _ _ _ _ c.if-classed.true c.if-trailed.true (sym c.if-class_known.ensures) c.payload_whole.result c.payload_whole.ensures

pub returns : goal.returns
returns c =
    elim c.else-classed.branch [
      | else-classed-via-then-classed+then-trailed+else-class_known w ↦
          no_table _ _ _ _ _ w.if-classed.true w.if-trailed.true (sym w.class_known.ensures ∙ w.if-class_known.false)
      | else-classed-via-then-classed+else-trailed w ↦ no_trailer _ _ _ _ _ w.if-classed.true w.if-trailed.false
      | else-classed-via-else-classed w ↦ no_class _ _ _ _ _ w.if-classed.false
    ]
