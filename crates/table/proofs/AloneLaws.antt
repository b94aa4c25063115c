-- Words past a table's layout. The idea: S, the list and the records stand inside the layout, so they are those of the layout alone (`streams_alone`,
-- `declared_alone`, `record_alone`), and a record is replaced inside (`with_alone`); what looks at these is that of the layout alone (`well_alone`).
use Rattle.words.proofs.Kit.{◌≡◌, sym, ap, ◌∙◌, List, ◌++◌, ℕ, ◌+◌, ◌≤◌, ◌<◌, arith, le-leb, eqb, length, drop}
use mathlib.Core.List.{append_assoc}
use lib.ListN.{get_or-append, length-append}
use lib.Seq.{take-append-le, drop-append-le, drop-drop}
use Rattle.words.specs.Part.{put}
use Rattle.words.proofs.AllLaws.{all_same, first_one}
use Rattle.words.proofs.PartLaws.{part_within}
use Rattle.record.specs.Layout.{record_words}
use Rattle.record.specs.Good.{record_good}
use Rattle.table.specs.Layout.{streams_of, base, layout_words, record_at, with_record}
use Rattle.table.specs.Identifiers.{declared, stream_of}
use Rattle.table.specs.Well.{record_good_at, well_made}
use Rattle.table.proofs.ListLaws.{list_same, stream_is}

-- l has the words of a layout and no more, and x stands past it
module _ (l x : List ℕ) (e : length l ≡ layout_words (streams_of l)) where
  -- S, the places of the records, the list and the records
  pub streams_alone : streams_of (l ++ x) ≡ streams_of l
  streams_alone = get_or-append l x 0 0 (omega (arith, e))

  pub inside : (s : ℕ) → s < streams_of l → base s + record_words ≤ length l
  inside s h = omega (arith, e)

  pub declared_alone : (s : ℕ) → s < streams_of l → declared (l ++ x) s ≡ declared l s
  declared_alone s h = get_or-append l x 0 (base s) (omega (arith, inside s h))

  pub record_alone : (s : ℕ) → s < streams_of l → record_at s (l ++ x) ≡ record_at s l
  unfolding record_at
  record_alone s h = part_within (base s) record_words l x (inside s h)

  -- a record replaced
  pub with_alone : (s : ℕ) (r : List ℕ) → s < streams_of l → with_record s r (l ++ x) ≡ with_record s r l ++ x
  unfolding with_record put
  with_alone s r h =
      let i = inside s h in
      let before : base s ≤ length l = omega arith in
      let seam : (xs : List ℕ) → drop record_words (drop (base s) xs) ≡ drop (base s + record_words) xs = λ xs. drop-drop record_words (base s) xs in
      rw (seam (l ++ x), seam l, take-append-le (base s) l x before, drop-append-le (base s + record_words) l x i)
      (simp append_assoc)

  -- what looks at these
  pub well_alone : well_made (l ++ x) ≡ well_made l
  unfolding well_made record_good_at
  well_alone =
      let n = streams_of l in
      let longer : layout_words n ≤ length (l ++ x) = omega (arith, e, length-append l x) in
      let alone : layout_words n ≤ length l = omega (arith, e) in
      rw (
        streams_alone,
        le-leb (layout_words n) (length (l ++ x)) longer,
        le-leb (layout_words n) (length l) alone,
        list_same n (declared (l ++ x)) (declared l) declared_alone,
        all_same (record_good_at (l ++ x)) (record_good_at l) n (λ s h. ap record_good (record_alone s h)),
      )

  pub stream_alone : (identifier : ℕ) → stream_of identifier (l ++ x) ≡ stream_of identifier l
  unfolding stream_of
  stream_alone identifier =
      let q = stream_is identifier (l ++ x) in
      first_one (streams_of l) (stream_of identifier (l ++ x)) (λ s. eqb (declared l s) identifier)
      (record {
        most = omega (arith, q.most, streams_alone);
        passes = λ h. ap (λ (n : ℕ). eqb n identifier) (sym (declared_alone _ h)) ∙ q.passes (omega (arith, streams_alone));
        before = λ i h. ap (λ (n : ℕ). eqb n identifier) (sym (declared_alone i (omega (arith, q.most, streams_alone)))) ∙ q.before i h;
      })
