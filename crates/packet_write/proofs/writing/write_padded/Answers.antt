-- `write_padded` meets its promise: a packet of type 1 is one that 49A governs, and of another its pad count is not looked at.
use Rattle.words.proofs.Kit.{◌≡◌, List, ℕ, get_or, rules}
use Rattle.packet_write.specs.AsWords.{parts_in}
use Rattle.packet_write.proofs.WriteLaws.{chosen_plain, chosen_governed, written_plain}
use Rattle.packet_write.proofs.writing.write_padded.Goals as goal

-- the type, as the program reads it
type_one : (q : List ℕ) → get_or q 0 0 ≡ 1 → (parts_in q).kind ≡ 1
unfolding parts_in
type_one q e = e

other_type : (q : List ℕ) → (get_or q 0 0 ≡ 1 → ⊥) → (parts_in q).kind ≡ 1 → ⊥
unfolding parts_in
other_type q d = d

pub write_chosen-requires : goal.write_chosen-requires
write_chosen-requires c = search (chosen_governed, type_one)

pub returns-else-q-eq1 : goal.returns-else-q-eq1
returns-else-q-eq1 c = search (written_plain, other_type)
