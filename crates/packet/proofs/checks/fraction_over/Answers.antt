-- `fraction_over` meets its promise: the high words decide, unless they are equal.
use Rattle.words.proofs.Kit.{◌≡◌, sym, ◌∙◌, true, false, ⊎_elim, ℕ, ◌^◌, ◌≤◌, ◌<◌, arith, le-leb, lt-leb, leb}
use Rattle.words.specs.Word.{high_first}
use Rattle.words.proofs.Cases.{le_or_lt}
use Rattle.packet.proofs.checks.fraction_over.Goals as goal

module _ (high low : ℕ) where
  high_below : low < 2 ^ 32 → high < 232 → false ≡ leb (10 ^ 12) (high_first high low)
  high_below l h = sym (lt-leb (10 ^ 12) (high_first high low) (omega arith))

  high_above : 232 < high → true ≡ leb (10 ^ 12) (high_first high low)
  high_above h = sym (le-leb (10 ^ 12) (high_first high low) (omega arith))

  low_decides : 232 ≤ high → high ≤ 232 → leb 3567587328 low ≡ leb (10 ^ 12) (high_first high low)
  low_decides least most =
      ⊎_elim (λ (h : 3567587328 ≤ low). le-leb 3567587328 low h ∙ sym (le-leb (10 ^ 12) (high_first high low) (omega arith)))
      (λ (h : low < 3567587328). lt-leb 3567587328 low h ∙ sym (lt-leb (10 ^ 12) (high_first high low) (omega arith))) (le_or_lt 3567587328 low)

pub returns-then-high-lt232 : goal.returns-then-high-lt232
returns-then-high-lt232 c = high_below c.args.high c.args.low (omega arith) (omega arith)

pub returns-then-high-gt232 : goal.returns-then-high-gt232
returns-then-high-gt232 c = search high_above

pub returns : goal.returns
returns c = search low_decides
