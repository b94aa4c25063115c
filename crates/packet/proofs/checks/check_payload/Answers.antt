-- `check_payload` meets its promise: PAD is what the class, the trailer and the payload say.
use Rattle.words.proofs.Kit.{◌≡◌, Bool, true, false, ℕ}
use Rattle.words.specs.Numbers.{PAD}
use Rattle.words.specs.Outcome.{refused, accepted}
use Rattle.packet_survey.specs.Payload.{pad_bad}
use Rattle.packet.specs.Header.{classed, trailed}
use Rattle.packet.specs.Parts.{body_length}
use Rattle.packet.specs.inner.Steps.{payload_checks}
use Rattle.packet.proofs.checks.check_payload.Goals as goal

module _ (w high low l : ℕ) (class trailer bad : Bool) (c : class ≡ classed w) (t : trailer ≡ trailed w) (e : l ≡ body_length w)
    (b : bad ≡ pad_bad class trailer high low l) where
  is_pad : bad ≡ true → refused PAD ≡ payload_checks w high low
  unfolding payload_checks
  is_pad on = rw (← c, ← t, ← e, ← b, on)

  not_pad : bad ≡ false → accepted tt ≡ payload_checks w high low
  unfolding payload_checks
  not_pad off = rw (← c, ← t, ← e, ← b, off)

pub returns-then-pad_bad : goal.returns-then-pad_bad
returns-then-pad_bad c = search is_pad

pub returns : goal.returns
returns c = search not_pad
