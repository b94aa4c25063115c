-- `make` meets its promise: no shift loses a bit (`made_exact`), and the field fits (`made_below`).
use Rattle.words.proofs.Kit.{ℕ, ◌+◌, ◌-◌, ◌*◌, ◌%◌, ◌^◌, ◌<◌, arith}
use Rattle.payload_format.specs.declared.inner.Packing.{Packing}
use Rattle.payload_format.specs.inner.Legal.{Legal}
use Rattle.payload_format.proofs.FieldLaws.{made_below, made_exact, made_fits, tags_fit}
use Rattle.payload_pack.proofs.making.make.Goals as goal

shifted_below : (p : Packing) → Legal p → (i e c : ℕ) → i < 2 ^ p.item → e < 2 ^ p.event → c < 2 ^ p.channel
    → (i * 2 ^ (p.field - p.item)) % 2 ^ 64 + ((e * 2 ^ p.channel) % 2 ^ 64 + c) < 2 ^ p.field
shifted_below p l i e c hi he hc = rw (made_exact p l i e c he hc hi) (made_below p l i e c he hc hi)

pub overflow_add-result : goal.overflow_add-result
overflow_add-result c = record { fits = tags_fit _ _ _ (omega arith) (omega arith) (omega arith) }

pub overflow_add-result-2 : goal.overflow_add-result-2
overflow_add-result-2 c = search made_fits

pub returns : goal.returns
returns c = search (made_exact, shifted_below)
