-- `check_size` meets its promise: each return is a line of the chain.
use Rattle.words.proofs.Kit.{◌≡◌, ℕ, ◌≤◌, ◌<◌, lt-ltb, le-ltb}
use Rattle.words.specs.Numbers.{SHORT, CUT}
use Rattle.words.specs.Outcome.{refused, accepted}
use Rattle.packet.specs.Header.{size_of}
use Rattle.packet.specs.Parts.{required_of}
use Rattle.packet.specs.inner.Steps.{size_checks}
use Rattle.packet.proofs.checks.check_size.Goals as goal

module _ (w given size need : ℕ) (s : size ≡ size_of w) (n : need ≡ required_of w) where
  size_short : size < need → refused SHORT ≡ size_checks w given
  unfolding size_checks
  size_short h = rw (← s, ← n, lt-ltb size need h)

  module _ (h : need ≤ size) where
    size_cut : given < size → refused CUT ≡ size_checks w given
    unfolding size_checks
    size_cut g = rw (← s, ← n, le-ltb size need h, lt-ltb given size g)

    size_fine : size ≤ given → accepted tt ≡ size_checks w given
    unfolding size_checks
    size_fine g = rw (← s, ← n, le-ltb size need h, le-ltb given size g)

pub returns-then-size-required : goal.returns-then-size-required
returns-then-size-required c = search size_short

pub returns-then-given-size : goal.returns-then-given-size
returns-then-given-size c = search size_cut

pub returns : goal.returns
returns c = search size_fine
