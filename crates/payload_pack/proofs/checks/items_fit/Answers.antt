-- `items_fit` meets its promise: all items fit where the bits that any of them has do (`fitting_joined`).
use Rattle.words.proofs.Kit.{◌≡◌, sym, ap, ◌∙◌, suc, length, rules}
use lib.Dec.{leb, leb-suc-suc}
use native.Mathlib.Numerals.{add-one}
use lib.Bits.{bit_or}
use Rattle.std.specs.List.{fold}
use Rattle.payload_pack.specs.inner.AnyBits.{any_bits}
use Rattle.payload_pack.proofs.FitLaws.{joined_all, fitting_joined}
use Rattle.payload_pack.proofs.checks.items_fit.Goals as goal

pub returns : goal.returns
returns c =
    let a = c.args in
    let l = a.items.now in
    let m = c.ones.result in
    let e : c.fold.result ≡ fold bit_or 0 l = search rules in
    rw (e, joined_all l)
    (sym (leb-suc-suc (any_bits (length l) l) m)
    ∙ ap (leb (suc (any_bits (length l) l))) (sym (add-one m) ∙ c.ones.ensures)
    ∙ sym (fitting_joined a.w l))
