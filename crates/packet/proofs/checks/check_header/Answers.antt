-- `check_header` meets its promise: each return is a line of the chain.
use Rattle.words.proofs.Kit.{◌≡◌, ℕ, ◌≤◌, ◌<◌, eq-eqb, ne_eqb, lt-ltb, le-ltb}
use Rattle.words.specs.Numbers.{TYPE, BITS}
use Rattle.words.specs.Outcome.{refused, accepted}
use Rattle.packet.specs.Header.{type_of, reserved_of}
use Rattle.packet.specs.inner.Steps.{header_checks}
use Rattle.packet.proofs.checks.check_header.Goals as goal

module _ (w kind : ℕ) (k : kind ≡ type_of w) where
  type_refused : 5 < kind → refused TYPE ≡ header_checks w
  unfolding header_checks
  type_refused h = rw (← k, lt-ltb 5 kind h)

  module _ (h : kind ≤ 5) (reserved : ℕ) (r : reserved ≡ reserved_of w) where
    bits_refused : (reserved ≡ 0 → ⊥) → refused BITS ≡ header_checks w
    unfolding header_checks
    bits_refused d = rw (← k, le-ltb 5 kind h, ← r, ne_eqb reserved 0 d)

    header_fine : reserved ≡ 0 → accepted tt ≡ header_checks w
    unfolding header_checks
    header_fine e = rw (← k, le-ltb 5 kind h, ← r, eq-eqb reserved 0 e)

pub returns-then-type_of-gt5 : goal.returns-then-type_of-gt5
returns-then-type_of-gt5 c = search type_refused

pub returns-then-reserved_of-ne0 : goal.returns-then-reserved_of-ne0
returns-then-reserved_of-ne0 c = search bits_refused

pub returns : goal.returns
returns c = search header_fine
