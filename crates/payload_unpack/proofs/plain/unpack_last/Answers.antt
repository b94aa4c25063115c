-- `unpack_last` meets its promise: each field lies in the last word (`item_last`).
use Rattle.words.proofs.Kit.{◌≡◌, ℕ, ◌*◌, ◌-◌, ◌%◌, ◌/◌, ◌^◌, ◌<◌, ◌∙◌, refl, arith, get_or, length, rules}
use Rattle.payload_unpack.proofs.WindowLaws.{item_last}
use Rattle.payload_unpack.proofs.plain.unpack_last.Goals as goal

pub returns : goal.returns
returns c =
    let p = c.args.p in
    let ws = c.args.payload.now in
    let words_small : (j : ℕ) → get_or ws j 0 < 2 ^ 32 = λ j. omega (arith, c.type_inv.payload j) in
    c.write_items.ensures _
    (λ k x from turn given.
    let e : x ≡ get_or ws (length ws - 1) 0 * 2 ^ (k * p.field % 32) % 2 ^ 32 / 2 ^ (32 - p.item) = search rules in
    e ∙ item_last c.requires.0 words_small _ k _ c.requires.2 from turn refl)
