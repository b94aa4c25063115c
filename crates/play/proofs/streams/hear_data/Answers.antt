-- `hear_data` meets its promise: the stream's record is lent, and the packet is counted there.
use Rattle.words.proofs.Kit.{◌≡◌, true, [], ◌∷◌, ℕ, arith, rules}
use Rattle.words.specs.Tests.{among}
use Rattle.table.proofs.WellLaws.{well_few}
use Rattle.play.proofs.PlayLaws.{lent_inside, lent_length, lent_good, lent_adds, lent_leaves}
use Rattle.play.proofs.streams.hear_data.Goals as goal

same_kind : (k kind : ℕ) → k ≡ kind → among kind (1 ∷ 3 ∷ 5 ∷ []) ≡ true → among k (1 ∷ 3 ∷ 5 ∷ []) ≡ true
same_kind k kind e a = rw e a

pub record_at-first-requires : goal.record_at-first-requires
record_at-first-requires c = omega (arith, well_few)

pub slice_bounds-hear_data-end : goal.slice_bounds-hear_data-end
slice_bounds-hear_data-end c = search lent_inside

pub hear_data-requires : goal.hear_data-requires
hear_data-requires c = (search lent_length, search lent_good, search rules, search same_kind)

pub returns : goal.returns
returns c = (search lent_adds, search lent_leaves)
