-- What is held of field 16, the state word, by document 02, C-11: "In field 16 an enabled persistent indicator replaces its held enable and value, one not
-- enabled stays, over-range and sample loss (25/13, 24/12) are never held, and user bits 7-0 are replaced together." The persistent indicators have their
-- enables in bits 31 to 26 and each its value 12 bits below: calibrated time 31/19, valid data 30/18, reference lock 29/17, AGC 28/16, detected signal 27/15,
-- spectral inversion 26/14.
use Rattle.std.specs.Prelude.{ℕ, ◌+◌, Bool, true, eqb, leb, ltb}
use Rattle.words.specs.Tests.{pick, both}
use Rattle.words.specs.Word.{has, marked}

-- a state word speaks of bit i: of each user bit, of an enable that it sets, and of the value of an enable that it sets; of no other
unfoldable pub spoken : ℕ → ℕ → Bool
spoken w i =
    pick (ltb i 8) true
    (pick (leb 26 i) (has w i)
    (both (both (leb 14 i) (ltb i 20)) (has w (i + 12))))

-- what is held after a state word w, where h was held before it: the bits that w speaks of are w's, and the others stay
unfoldable pub state_after : ℕ → ℕ → ℕ
state_after w h = marked 32 (λ i. pick (spoken w i) (has w i) (has h i))

-- a word that can be held: what is held after it, where nothing was, is all of it. So it has neither over-range nor sample loss, no reserved bit, and no
-- value without its enable.
unfoldable pub state_good : ℕ → Bool
state_good w = eqb (state_after w 0) w
