-- Words that are written into the contents. The idea: four stores one after the other are a part that is replaced (`four_stores`).
use Rattle.words.proofs.Kit.{◌≡◌, ◌∙◌, List, [], ◌∷◌, ℕ, suc, ◌+◌, ◌/◌, ◌%◌, ◌^◌, ◌≤◌, arith, length, set}
use native.Mathlib.Numerals.{add-one}
use Rattle.words.specs.Part.{put}
use Rattle.words.proofs.LaidLaws.{sets_put}
use Rattle.index.specs.Layout.{entry_from, place_words, with_reached}

pub four_stores : (xs : List ℕ) (at a b c d : ℕ) → at + 4 ≤ length xs
    → set (set (set (set xs at a) (at + 1) b) (at + 2) c) (at + 3) d ≡ put at 4 (a ∷ b ∷ c ∷ d ∷ []) xs
four_stores xs at a b c d h =
    let two : at + 2 ≡ suc (suc at) = omega arith in
    let three : at + 3 ≡ suc (suc (suc at)) = omega arith in
    rw (add-one at, two, three) (sets_put xs (a ∷ b ∷ c ∷ d ∷ []) at h)

-- the entry's place, and the packets taken in with the place behind them
pub entry_written : (ix last : List ℕ) (j at place high low offset size : ℕ) → (at ≡ entry_from j) × (at ≤ 4096) → high ≡ place / 2 ^ 32
    → low ≡ place % 2 ^ 32 → last ≡ put at 4 (high ∷ low ∷ offset ∷ size ∷ []) ix
    → last ≡ put (entry_from j) 4 (place_words place (offset ∷ size ∷ [])) ix
entry_written ix last j at place high low offset size e f g h = h ∙ rw (e.0, f, g)

pub reached_written : (ix last : List ℕ) (n place high low : ℕ) → high ≡ place / 2 ^ 32 → low ≡ place % 2 ^ 32
    → last ≡ put 0 4 ((n / 1024 + 1) ∷ n ∷ high ∷ low ∷ []) ix → last ≡ with_reached n place ix
unfolding with_reached
reached_written ix last n place high low f g h = h ∙ rw (f, g)
