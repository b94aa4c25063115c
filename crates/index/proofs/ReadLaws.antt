-- Words of an entry, which begins at the place at.
use Rattle.words.proofs.Kit.{◌≡◌, ap, ◌∙◌, List, ℕ, ◌+◌, ◌≤◌, get_or}
use Rattle.words.specs.Word.{high_first}
use Rattle.index.specs.Layout.{entry_from, entry_place}

pub word_read : (ix : List ℕ) (j at k r : ℕ) → (at ≡ entry_from j) × (at ≤ 4096) → r ≡ get_or ix (at + k) 0 → r ≡ get_or ix (entry_from j + k) 0
word_read ix j at k r e f = f ∙ ap (λ (i : ℕ). get_or ix (i + k) 0) e.0

pub place_read : (ix : List ℕ) (j at r : ℕ) → (at ≡ entry_from j) × (at ≤ 4096) → r ≡ high_first (get_or ix at 0) (get_or ix (at + 1) 0) → r ≡ entry_place ix j
place_read ix j at r e f = f ∙ ap (λ (i : ℕ). high_first (get_or ix i 0) (get_or ix (i + 1) 0)) e.0
