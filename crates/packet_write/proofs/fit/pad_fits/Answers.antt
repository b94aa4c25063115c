-- `pad_fits` meets its promise: the five bits are asked where 49A governs the packet and there is a class.
use Rattle.words.proofs.Kit.{◌≡◌, Bool, true, false, not, ℕ, eq-eqb, ne_eqb, not-true, not-false, ltb, rules}
use Rattle.packet.specs.declared.Parts.{Parts}
use Rattle.packet_write.specs.Write.{pad_fits}
use Rattle.packet_write.specs.AsWords.{parts_in}
use Rattle.packet_write.specs.inner.Given.{Chosen}
use Rattle.packet_write.proofs.fit.pad_fits.Goals as goal

module _ (governed : Bool) (pad : ℕ) (p : Parts) (k : Chosen governed pad p) where
  other : not governed ≡ true → true ≡ pad_fits governed pad p
  unfolding pad_fits
  other n = rw (k.choice, not-true governed n)

  bits_asked : not governed ≡ false → p.classed ≡ true → ltb pad 32 ≡ pad_fits governed pad p
  unfolding pad_fits
  bits_asked n on = rw (k.choice, not-false governed n, on)

  not_asked : not governed ≡ false → p.classed ≡ false → true ≡ pad_fits governed pad p
  unfolding pad_fits
  not_asked n off = rw (k.choice, not-false governed n, off)

pub returns-then-not-governed : goal.returns-then-not-governed
unfolding parts_in
returns-then-not-governed c = search other

pub returns-then-q-eq1 : goal.returns-then-q-eq1
unfolding parts_in
returns-then-q-eq1 c = search (bits_asked, eq-eqb)

pub returns : goal.returns
unfolding parts_in
returns c = search (not_asked, ne_eqb)
