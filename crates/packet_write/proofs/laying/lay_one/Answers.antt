-- `lay_one` meets its promise: a word that is there has its place.
use Rattle.words.proofs.Kit.{refl, sym, arith, rules}
use native.Mathlib.Nat.{add-zero}
use Rattle.packet_write.proofs.laying.lay_one.Goals as goal

pub bounds-out-at : goal.bounds-out-at
bounds-out-at c = let h = rw c.if-present.true at c.requires in omega arith

pub returns-then-present : goal.returns-then-present
returns-then-present c = rw c.if-present.true (record { past = refl; kept = refl })

pub returns : goal.returns
returns c = rw c.if-present.false (record { past = sym (add-zero _); kept = refl })
