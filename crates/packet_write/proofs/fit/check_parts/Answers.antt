-- `check_parts` meets its promise: each return is a line of the chain.
use Rattle.words.proofs.Kit.{◌≡◌, Bool, true, false, not, ◌≤◌, ◌<◌, lt-ltb, le-ltb, not-true, not-false, rules}
use Rattle.words.specs.Numbers.{TYPE, VALUE}
use Rattle.words.specs.Outcome.{refused, accepted}
use Rattle.packet.specs.declared.Parts.{Parts}
use Rattle.packet_write.specs.Write.{codes_fit, flags_fit, class_fits, parts_fit}
use Rattle.packet_write.specs.inner.Steps.{plain_checks}
use Rattle.packet_write.specs.AsWords.{parts_in}
use Rattle.packet_write.proofs.fit.check_parts.Goals as goal

module _ (p : Parts) where
  type_refused : 5 < p.kind → refused TYPE ≡ plain_checks p
  unfolding plain_checks
  type_refused h = rw (lt-ltb 5 p.kind h)

  module _ (h : p.kind ≤ 5) (codes : Bool) (c : codes ≡ codes_fit p.tsi p.tsf p.count) where
    codes_refused : not codes ≡ true → refused VALUE ≡ plain_checks p
    unfolding plain_checks parts_fit
    codes_refused e = rw (le-ltb 5 p.kind h, ← c, not-true codes e)

    module _ (e : not codes ≡ false) (flags : Bool) (f : flags ≡ flags_fit p.kind p.trailed p.tsm) where
      flags_refused : not flags ≡ true → refused VALUE ≡ plain_checks p
      unfolding plain_checks parts_fit
      flags_refused g = rw (le-ltb 5 p.kind h, ← c, not-false codes e, ← f, not-true flags g)

      module _ (g : not flags ≡ false) (class : Bool) (k : class ≡ class_fits p.classed p.oui p.information p.code) where
        class_refused : not class ≡ true → refused VALUE ≡ plain_checks p
        unfolding plain_checks parts_fit
        class_refused i = rw (le-ltb 5 p.kind h, ← c, not-false codes e, ← f, not-false flags g, ← k, not-true class i)

        all_fit : not class ≡ false → accepted tt ≡ plain_checks p
        unfolding plain_checks parts_fit
        all_fit i = rw (le-ltb 5 p.kind h, ← c, not-false codes e, ← f, not-false flags g, ← k, not-false class i)

pub returns-then-q-gt5 : goal.returns-then-q-gt5
unfolding parts_in
returns-then-q-gt5 c = search type_refused

pub returns-then-not-codes_fit : goal.returns-then-not-codes_fit
unfolding parts_in
returns-then-not-codes_fit c = search codes_refused

pub returns-then-not-flags_fit : goal.returns-then-not-flags_fit
unfolding parts_in
returns-then-not-flags_fit c = search flags_refused

pub returns-then-not-class_fits : goal.returns-then-not-class_fits
unfolding parts_in
returns-then-not-class_fits c = search class_refused

pub returns : goal.returns
unfolding parts_in
returns c = search all_fit
