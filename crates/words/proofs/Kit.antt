-- The names of the kit that proofs speak with, passed on: those of the definitions, equations, and the tactics' lists.
pub use mathlib.Core.Path.{◌≡◌}
pub use mathlib.Core.Bool.{Bool, true, false, not}
pub use mathlib.Core.List.{List, [], ◌∷◌, ◌++◌}
pub use Prim.Native.Nat.{ℕ, zero, suc, ◌+◌, ◌-◌, ◌*◌, ◌/◌, ◌%◌, ◌^◌, ◌≤◌, ◌<◌}
pub use lib.Dec.{eqb, ltb, leb}
pub use lib.ListN.{length, take, drop, get_or, set}
pub use mathlib.Core.Path.{refl, sym, ap, ap₂, subst, ◌∙◌}
pub use mathlib.Core.Logic.{⊎_elim}
pub use native.Mathlib.Omega.{arith}
pub use borrow.Author.Rules.{rules}
pub use borrow.Author.Tests.{eq-eqb, ne_eqb, lt-ltb, le-ltb, le-leb, lt-leb, eqb-true, ltb-false, not-true, not-false}
