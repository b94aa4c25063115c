-- The words before the slots, which a record and its body in a page have alike. They and the slots are what a good record is asked (`head_slots`,
-- proofs/GoodLaws.antt).
use Rattle.std.specs.Prelude.{Bool, List, ℕ}
use Rattle.words.specs.Tests.{both}
use Rattle.words.specs.All.{all}
use Rattle.record.specs.Layout.{held_of, choice_of, count_words, last_of}
use Rattle.record.specs.Good.{count_good_at, held_good, choice_good}

-- the held indicator, the counts and the choice are good
unfoldable pub head_good : List ℕ → Bool
head_good r = both (held_good (held_of r) (last_of (count_words 2 r))) (both (all 4 (count_good_at r)) (choice_good (choice_of r)))
