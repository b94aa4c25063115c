-- `pad_bad` meets its promise: where there is a class it asks what the definition asks, of the class's words; without a class the packet is PAD.
use Rattle.words.proofs.Kit.{◌≡◌, Bool, true, false, ℕ, eq-eqb, ne_eqb, rules}
use Rattle.packet_survey.specs.Payload.{pad_bad}
use Rattle.packet_write.specs.Write.{class_first, class_word}
use Rattle.packet_write.specs.AsWords.{parts_in}
use Rattle.packet_write.proofs.FitLaws.{governed_pad, governed_class}
use Rattle.packet_write.proofs.LayLaws.{oui_fits, information_fits, code_fits}
use Rattle.packet_write.proofs.fit.pad_bad.Goals as goal

module _ (classed trailed : Bool) (pad oui information code n : ℕ) where
  class_asked : classed ≡ true → (first second : ℕ) → first ≡ class_first pad oui → second ≡ class_word information code → (bad : Bool)
      → bad ≡ pad_bad true trailed first second n → bad ≡ pad_bad classed trailed (class_first pad oui) (class_word information code) n
  class_asked on first second f s bad b = rw (on, ← f, ← s) b

  no_class : classed ≡ false → true ≡ pad_bad classed trailed (class_first pad oui) (class_word information code) n
  unfolding pad_bad
  no_class off = rw off

pub bounds-q-1 : goal.bounds-q-1
unfolding parts_in
bounds-q-1 c = search rules

pub bounds-q-8 : goal.bounds-q-8
unfolding parts_in
bounds-q-8 c = search rules

pub class_first-requires : goal.class_first-requires
unfolding parts_in
class_first-requires c = (search (governed_pad, eq-eqb), search (oui_fits, governed_class, eq-eqb))

pub bounds-q-9 : goal.bounds-q-9
unfolding parts_in
bounds-q-9 c = search rules

pub bounds-q-10 : goal.bounds-q-10
unfolding parts_in
bounds-q-10 c = search rules

pub class_word-requires : goal.class_word-requires
unfolding parts_in
class_word-requires c = (search (information_fits, governed_class, eq-eqb), search (code_fits, governed_class, eq-eqb))

pub bounds-q-2 : goal.bounds-q-2
unfolding parts_in
bounds-q-2 c = search rules

pub pad_bad-requires : goal.pad_bad-requires
unfolding parts_in
pad_bad-requires c = search rules

pub returns-then-q-eq1 : goal.returns-then-q-eq1
unfolding parts_in
returns-then-q-eq1 c = search (class_asked, eq-eqb)

pub returns : goal.returns
unfolding parts_in
returns c = search (no_class, ne_eqb)
