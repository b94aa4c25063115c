-- `format_first` meets its promise: the sum is the word of the definition's fields.
use Rattle.words.proofs.Kit.{◌≡◌, true, ℕ, ◌+◌, ◌-◌, ◌*◌, ◌/◌, ◌%◌, ◌^◌, ◌≤◌, arith}
use Rattle.words.specs.Word.{join}
use Rattle.packet_survey.specs.Class.{data_type, low_known, item_bits, code_of}
use Rattle.packet_survey.specs.Payload.{format_first}
use Rattle.packet_survey.proofs.ClassLaws.{type_most}
use Rattle.packet_survey.proofs.inner.Class.format_first.Goals as goal

first_joined : (low kind bits code : ℕ) → kind ≡ data_type low → bits ≡ item_bits (data_type low) → code ≡ code_of kind
    → (low / 2 ^ 20 % 4 * 32 + code) * 2 ^ 24 + (bits - 1) * 64 + (bits - 1) ≡ format_first low
unfolding format_first join
first_joined low kind bits code k b e = rw (e, b, k) (omega arith)

most : (low kind : ℕ) → low_known low ≡ true → kind ≡ data_type low → kind ≤ 13
most low kind known k = omega (arith, type_most low known)

pub code_of-requires : goal.code_of-requires
code_of-requires c = search most

pub returns : goal.returns
returns c = search first_joined
