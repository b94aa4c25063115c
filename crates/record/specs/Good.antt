-- Document 01, 'The table and its page', of a stream's record: "unheld fields .. zero; held fields obey their rules; a count not started has zeros; a last
-- count is at most 15; no field held unless type 4 has started"; and what of field 16 is held is by document 02, C-11, and the choice by C-13. Each is a
-- test, and `Good` says the same in facts (proofs/GoodLaws.antt: `Good-of`, `of_good`).
use Rattle.std.specs.Prelude.{◌≡◌, ℕ, ◌^◌, ◌≤◌, ◌<◌, Bool, true, false, List, [], ◌∷◌, eqb, leb, length, get_or, replicate, bit_and}
use Rattle.words.specs.Tests.{pick, both, among}
use Rattle.words.specs.Word.{has}
use Rattle.words.specs.All.{all}
use Rattle.fields.specs.Sizes.{field_size}
use Rattle.fields.specs.Rules.{rule_of}
use Rattle.record.specs.Held.{slotted, held_mask, holds}
use Rattle.record.specs.State.{state_good}
use Rattle.record.specs.Layout.{held_of, choice_of, count_words, seen_of, missing_of, last_of, slot_of}

-- the words are zero
unfoldable pub zeros : List ℕ → Bool
zeros ws = all (length ws) (λ i. eqb (get_or ws i 0) 0)

-- "a count not started has zeros; a last count is at most 15"
unfoldable pub count_good : ℕ → ℕ → ℕ → Bool
count_good seen missing last = pick (eqb last 0) (both (eqb seen 0) (eqb missing 0)) (leb last 16)

unfoldable pub count_good_at : List ℕ → ℕ → Bool
count_good_at r k = count_good (seen_of (count_words k r)) (missing_of (count_words k r)) (last_of (count_words k r))

-- no bit is held but those of held fields; "no field held unless type 4 has started"
unfoldable pub held_good : ℕ → ℕ → Bool
held_good held last = both (eqb (bit_and held held_mask) held) (pick (eqb last 0) (eqb held 0) true)

-- the rule of a held field of bit b: that of the field, and of 16 that the word can be held
unfoldable pub held_rule : ℕ → List ℕ → Bool
held_rule b ws = both (rule_of b ws) (pick (eqb b 16) (state_good (get_or ws 0 0)) true)

-- "unheld fields .. zero; held fields obey their rules", of the slot of bit b
unfoldable pub slot_good : List ℕ → ℕ → Bool
slot_good r b = pick (slotted b) (pick (has (held_of r) b) (held_rule b (slot_of b r)) (zeros (slot_of b r))) true

-- a choice is 0 or 1
unfoldable pub choice_good : ℕ → Bool
choice_good choice = among choice (0 ∷ 1 ∷ [])

-- a record is good
unfoldable pub record_good : List ℕ → Bool
record_good r =
    both (held_good (held_of r) (last_of (count_words 2 r)))
    (both (all 4 (count_good_at r))
    (both (choice_good (choice_of r))
    (all 31 (slot_good r))))

-- ---- the same in facts

pub record GoodCount (seen missing last : ℕ) : Type 0 where
  pub unstarted : last ≡ 0 → (seen ≡ 0) × (missing ≡ 0)
  pub most : last ≤ 16

pub record Good (r : List ℕ) : Type 0 where
  -- a held bit is one of a held field
  pub bits : (b : ℕ) → has (held_of r) b ≡ true → holds b ≡ true
  pub small : held_of r < 2 ^ 31
  pub started : last_of (count_words 2 r) ≡ 0 → held_of r ≡ 0
  pub counts : (k : ℕ) → k < 4 → GoodCount (seen_of (count_words k r)) (missing_of (count_words k r)) (last_of (count_words k r))
  pub choice : choice_of r ≤ 1
  pub unheld : (b : ℕ) → slotted b ≡ true → has (held_of r) b ≡ false → slot_of b r ≡ replicate (field_size b) 0
  pub obeys : (b : ℕ) → slotted b ≡ true → has (held_of r) b ≡ true → held_rule b (slot_of b r) ≡ true
