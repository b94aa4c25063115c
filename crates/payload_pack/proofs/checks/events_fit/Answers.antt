-- `events_fit` meets its promise: all fit where the bits that any of them has do (`fitting_joined`).
use Rattle.words.proofs.Kit.{◌≡◌, sym, rules}
use lib.Bits.{bit_or}
use Rattle.std.specs.List.{fold}
use Rattle.payload_pack.proofs.FitLaws.{joined_all, fitting_joined}
use Rattle.payload_pack.proofs.checks.events_fit.Goals as goal

pub returns : goal.returns
returns c =
    let l = c.args.events.now in
    let e : c.fold.result ≡ fold bit_or 0 l = search rules in
    rw (e, joined_all l, c.power.ensures.0) (sym (fitting_joined c.args.w l))
