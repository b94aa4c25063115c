-- `check_pad` meets its promise: a packet that 49A governs is of type 1.
use Rattle.words.proofs.Kit.{◌≡◌, Bool, true, false, not, List, ℕ, ◌≤◌, eqb, eqb-true, not-true, not-false, length, rules}
use Rattle.words.specs.Numbers.{PAD}
use Rattle.words.specs.Tests.{both}
use Rattle.words.specs.Outcome.{refused, accepted}
use Rattle.packet_survey.specs.Payload.{pad_bad}
use Rattle.packet.specs.declared.Parts.{Parts}
use Rattle.packet_write.specs.Write.{class_first, class_word, parts_fit, pad_fits, governs}
use Rattle.packet_write.specs.inner.Given.{Chosen, Governed}
use Rattle.packet_write.specs.inner.Steps.{pad_checks}
use Rattle.packet_write.proofs.FitLaws.{no_payload}
use Rattle.packet_write.proofs.fit.check_pad.Goals as goal

module _ (governed : Bool) (pad : ℕ) (p : Parts) (k : Chosen governed pad p) where
  other : (body : List ℕ) → not governed ≡ true → accepted tt ≡ pad_checks governed pad p body
  other body n = no_payload governed pad p (rw (not-true governed n)) body

  module _ (n : not governed ≡ false) where
    chosen : governed ≡ true
    chosen = not-false governed n

    of_type_1 : p.kind ≡ 1
    of_type_1 = eqb-true p.kind 1 (rw chosen at k.choice)

    fits_governed : parts_fit p ≡ true → pad_fits governed pad p ≡ true → Governed pad p
    fits_governed fit small = record { kind = of_type_1; fit = fit; padding = rw chosen at small }

    module _ (body : List ℕ) (bad : Bool)
        (b : bad ≡ pad_bad p.classed p.trailed (class_first pad p.oui) (class_word p.information p.code) (length body)) where
      pad_refused : bad ≡ true → refused PAD ≡ pad_checks governed pad p body
      unfolding pad_checks
      pad_refused on = rw (chosen, of_type_1, ← b, on)

      pad_fine : bad ≡ false → accepted tt ≡ pad_checks governed pad p body
      unfolding pad_checks
      pad_fine off = rw (chosen, of_type_1, ← b, off)

pub returns-then-not-governed : goal.returns-then-not-governed
returns-then-not-governed c = search other

pub pad_bad-requires : goal.pad_bad-requires
pad_bad-requires c = search (rules, fits_governed)

pub returns-then-pad_bad : goal.returns-then-pad_bad
returns-then-pad_bad c = search pad_refused

pub returns : goal.returns
returns c = search pad_fine
