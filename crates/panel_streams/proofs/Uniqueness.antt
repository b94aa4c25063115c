-- Two outcomes that meet a public call's promise are equal. The idea: each `paper` has a left inverse. (Of `own_table` it is `on_paper_meets_once`, of
-- `changed` `on_paper_once`.)
use Rattle.std.specs.Prelude.{Option, None, Some, Result}
use Rattle.words.proofs.Kit.{◌≡◌, refl, List, ℕ}
use Rattle.words.specs.declared.refusals.Refusal.{Refusal}
use Rattle.words.proofs.Once.{on_paper_as_once}
use Rattle.panel_streams.specs.Identity.{Declared, identity_of, declared_as, identity_paper}
use Rattle.panel_streams.specs.TypeCounts.{Count, started, not_started, type_counts_of, count_as, type_counts_paper}
use Rattle.panel_streams.specs.declared.records.Identity.{Identity}
use Rattle.panel_streams.specs.declared.records.TypeCounts.{TypeCounts}

-- ---- the left inverses
abbrev identity_back : Declared → Identity
identity_back d = record { identifier = d.identifier; choice = d.choice; held = d.held }

abbrev type_counts_back : Count → Option TypeCounts
type_counts_back (started seen missing last) = Some (record { seen = seen; missing = missing; last = last })
type_counts_back not_started = None

type_counts_left : (a : Option TypeCounts) → type_counts_back (count_as a) ≡ a
type_counts_left (Some c) = refl
type_counts_left None = refl

-- ---- one law for each public call
pub identity_once : (t : List ℕ) (stream : ℕ) (r s : Result Identity Refusal) → identity_paper r ≡ identity_of t stream
    → identity_paper s ≡ identity_of t stream → r ≡ s
identity_once t stream r s p q = on_paper_as_once declared_as identity_back (λ a. refl) p q

pub counts_once : (t : List ℕ) (stream kind : ℕ) (r s : Result (Option TypeCounts) Refusal) → type_counts_paper r ≡ type_counts_of t stream kind
    → type_counts_paper s ≡ type_counts_of t stream kind → r ≡ s
counts_once t stream kind r s p q = on_paper_as_once count_as type_counts_back type_counts_left p q
