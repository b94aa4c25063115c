-- A stream's own table. The idea: its one record is the stream's, so the table is well made as the table that it comes from is, and says of stream 0 what that
-- table says of the stream; x has whatever words stand past it.
use Rattle.words.proofs.Kit.{◌≡◌, refl, sym, ap, ◌∙◌, true, List, [], ◌∷◌, ◌++◌, ℕ, ◌+◌, ◌<◌, arith, lt-leb, length}
use lib.ListN.{length-append}
use Rattle.words.specs.Outcome.{Outcome, accepted}
use Rattle.words.specs.Refusals.{first_given}
use Rattle.words.proofs.PartLaws.{part_front, part_past}
use Rattle.record.specs.Layout.{record_words}
use Rattle.record.specs.Good.{Good}
use Rattle.table.specs.Layout.{streams_of, layout_words, record_at}
use Rattle.table.specs.Well.{well_made}
use Rattle.table.specs.Stream.{stream_number_list}
use Rattle.table.proofs.RecordLaws.{record_length}
use Rattle.table.proofs.WellLaws.{layout_has, well_whole, well_of, of_well}
use Rattle.panel_streams.specs.Identity.{declared_in, identity_of}
use Rattle.panel_streams.specs.TypeCounts.{type_count_in, type_list, type_counts_of}
use Rattle.panel_streams.specs.OwnTable.{own_layout}
use Rattle.panel_streams.specs.Changed.{changed_of}
use Rattle.panel_streams.proofs.ChangedLaws.{changed_self}

-- ---- the table of one record r
module _ (r x : List ℕ) (l : length r ≡ record_words) where
  pub own_streams : streams_of (own_layout r ++ x) ≡ 1
  unfolding own_layout
  own_streams = refl

  pub own_record : record_at 0 (own_layout r ++ x) ≡ r
  unfolding own_layout record_at
  own_record = part_past 1 0 record_words (1 ∷ []) (r ++ x) refl ∙ part_front record_words r x l

  own_whole : length (own_layout r ++ x) ≡ layout_words 1 + length x
  unfolding own_layout
  own_whole = omega (arith, length-append r x, l)

  pub own_good : Good r → well_made (own_layout r ++ x) ≡ true
  own_good g =
      of_well (own_layout r ++ x)
      (record {
        whole = omega (arith, own_whole, own_streams);
        list = record { some = omega (arith, own_streams); few = omega (arith, own_streams); apart = λ u s h k e. absurd (omega (arith, own_streams, h, k)) };
        records = λ s h. let z : s ≡ 0 = omega (arith, own_streams, h) in rw (z, own_record) g;
      })

-- ---- of a stream of a well-made table
stream_known : {A : Type 0} (t : List ℕ) (s : ℕ) → well_made t ≡ true → s < streams_of t → (answer : Outcome A)
    → first_given (stream_number_list t s) answer ≡ answer
stream_known t s w h answer = rw (w, lt-leb (streams_of t) s h)

module _ (t x : List ℕ) (s : ℕ) (w : well_made t ≡ true) (h : s < streams_of t) where
  long : length (record_at s t) ≡ record_words
  long = record_length s t (layout_has t s (well_whole t w) h)

  pub own_well : well_made (own_layout (record_at s t) ++ x) ≡ true
  own_well = own_good (record_at s t) x long ((well_of t w).records s h)

  -- whatever is asked of a stream's record is answered alike
  pub own_says : {A : Type 0} (f : List ℕ → Outcome A)
      → let own = own_layout (record_at s t) ++ x in
      first_given (stream_number_list own 0) (f (record_at 0 own)) ≡ first_given (stream_number_list t s) (f (record_at s t))
  own_says f =
      stream_known (own_layout (record_at s t) ++ x) 0 own_well (omega (arith, own_streams (record_at s t) x long)) _
      ∙ ap f (own_record (record_at s t) x long) ∙ sym (stream_known t s w h _)

  pub own_identity : identity_of (own_layout (record_at s t) ++ x) 0 ≡ identity_of t s
  unfolding identity_of
  own_identity = own_says (λ r. accepted (declared_in r))

  pub own_counts : (kind : ℕ) → type_counts_of (own_layout (record_at s t) ++ x) 0 kind ≡ type_counts_of t s kind
  unfolding type_counts_of
  own_counts kind = own_says (λ r. first_given (type_list kind) (accepted (type_count_in kind r)))

  -- and no field is changed
  pub own_same : changed_of t s (own_layout (record_at s t) ++ x) 0 ≡ accepted 0
  unfolding changed_of
  own_same =
      rw (w, own_well, lt-leb (streams_of t) s h, own_streams (record_at s t) x long, own_record (record_at s t) x long)
      (ap accepted (changed_self (record_at s t)))
