-- `item_bits` meets its promise: the data type of a class that fits is 1 to 13.
use Rattle.words.proofs.Kit.{◌≡◌, true, ℕ, ◌≤◌, arith, rules}
use Rattle.packet_survey.specs.Class.{data_type, low_known, item_bits}
use Rattle.packet_survey.proofs.ClassLaws.{type_least, type_most}
use Rattle.packet_survey.proofs.inner.Class.item_bits.Goals as goal

module _ (low kind : ℕ) (known : low_known low ≡ true) (k : kind ≡ data_type low) where
  least : 1 ≤ kind
  least = omega (arith, type_least low known)

  most : kind ≤ 13
  most = omega (arith, type_most low known)

bits_are : (low kind bits : ℕ) → kind ≡ data_type low → bits ≡ item_bits kind → bits ≡ item_bits (data_type low)
bits_are low kind bits k b = rw (← k) b

pub item_bits-requires : goal.item_bits-requires
item_bits-requires c = search (least, most)

pub returns : goal.returns
returns c = search (rules, bits_are)
