-- The public answers. The idea: what is asked of a stream's record comes after TABLE and STREAM (`then_refused`, `then_fine`).
use Rattle.std.specs.Prelude.{Result, Err}
use Rattle.words.proofs.Kit.{◌≡◌, sym, ap, ◌∙◌, List, ℕ}
use Rattle.words.specs.Outcome.{Outcome, refused, accepted, Meets}
use Rattle.words.specs.Refusals.{first_given}
use Rattle.words.specs.Listed.{list_number, on_paper}
use Rattle.words.specs.declared.refusals.Refusal.{Refusal}
use Rattle.words.proofs.RefusalLaws.{first_refused, first_fine}
use Rattle.words.proofs.MeetLaws.{meets_err}
use Rattle.table.specs.Layout.{record_at}
use Rattle.table.specs.Stream.{stream_number_list}
use Rattle.table.specs.inner.Checked.{stream_checks}
use Rattle.panel_streams.specs.Identity.{declared_in, identity_of, declared_as}
use Rattle.panel_streams.specs.TypeCounts.{Count, type_counts_of}
use Rattle.panel_streams.specs.OwnTable.{own_table_of}
use Rattle.panel_streams.specs.inner.Asked.{count_asked, own_asked}
use Rattle.panel_streams.specs.declared.records.Identity.{Identity}

-- ---- the public answers
module _ (t : List ℕ) (s : ℕ) where
  -- what follows TABLE and STREAM
  then_refused : {A : Type 0} (rest : Outcome A) (n : ℕ) → refused n ≡ stream_checks t s → first_given (stream_number_list t s) rest ≡ refused n
  unfolding stream_checks
  then_refused rest n e = first_refused (stream_number_list t s) tt n rest (sym e)

  then_fine : {A : Type 0} (rest : Outcome A) → accepted tt ≡ stream_checks t s → first_given (stream_number_list t s) rest ≡ rest
  unfolding stream_checks
  then_fine rest e = first_fine (stream_number_list t s) tt tt rest (sym e)

  pub identity_refused : (n : ℕ) → refused n ≡ stream_checks t s → refused n ≡ identity_of t s
  unfolding identity_of
  identity_refused n e = sym (then_refused _ n e)

  pub identity_said : (i : Identity) → accepted tt ≡ stream_checks t s → declared_as i ≡ declared_in (record_at s t)
      → accepted (declared_as i) ≡ identity_of t s
  unfolding identity_of
  identity_said i e h = ap accepted h ∙ sym (then_fine _ e)

  module _ (kind : ℕ) where
    pub counts_refused : (n : ℕ) → refused n ≡ stream_checks t s → refused n ≡ type_counts_of t s kind
    unfolding type_counts_of
    counts_refused n e = sym (then_refused _ n e)

    pub counts_said : (o : Outcome Count) → accepted tt ≡ stream_checks t s → o ≡ count_asked kind (record_at s t) → o ≡ type_counts_of t s kind
    unfolding type_counts_of count_asked
    counts_said o e h = h ∙ sym (then_fine _ e)

  module _ (out : List ℕ) where
    pub own_refused : (r : Refusal) → refused (list_number r) ≡ stream_checks t s → Meets on_paper (own_table_of t s out) out (Err r) out
    unfolding own_table_of
    own_refused r e = meets_err (then_refused _ (list_number r) e)

    pub own_copied : (last : List ℕ) (r : Result ℕ Refusal) → accepted tt ≡ stream_checks t s → Meets on_paper (own_asked (record_at s t) out) out r last
        → Meets on_paper (own_table_of t s out) out r last
    unfolding own_table_of own_asked
    own_copied last r e h = rw (then_fine _ e) h
