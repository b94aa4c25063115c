-- `unpack_parts_last` meets its promise: each field lies in the last word (`field_last`).
use Rattle.words.proofs.Kit.{◌≡◌, ℕ, ◌*◌, ◌-◌, ◌%◌, ◌/◌, ◌^◌, ◌<◌, ◌∙◌, refl, arith, get_or, length, rules}
use Rattle.payload_unpack.proofs.WindowLaws.{field_last}
use Rattle.payload_unpack.proofs.tagged.unpack_parts_last.Goals as goal

pub returns : goal.returns
returns c =
    let p = c.args.p in
    let ws = c.args.payload.now in
    let words_small : (j : ℕ) → get_or ws j 0 < 2 ^ 32 = λ j. omega (arith, c.type_inv.payload j) in
    c.write_parts.ensures _
    (λ k v from turn given.
    let e : v ≡ get_or ws (length ws - 1) 0 * 2 ^ (k * p.field % 32) % 2 ^ 32 / 2 ^ (32 - p.field) = search rules in
    e ∙ field_last c.requires.0 words_small _ k _ c.requires.4 from turn refl)
