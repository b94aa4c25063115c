-- The slots of some bits one after the other, which are tested together. All of them are what a good record is asked (`good_parts`, proofs/GoodLaws.antt).
use Rattle.std.specs.Prelude.{ℕ, suc, Bool, List, leb}
use Rattle.words.specs.Tests.{either}
use Rattle.words.specs.All.{all}
use Rattle.record.specs.Good.{slot_good}

-- the slots of the bits from `first` down to the one above `past` are good
unfoldable pub good_between : ℕ → ℕ → List ℕ → Bool
good_between first past r = all (suc first) (λ b. either (leb b past) (slot_good r b))
