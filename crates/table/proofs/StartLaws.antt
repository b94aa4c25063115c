-- A fresh table. The idea: after s turns the first s records are fresh and the rest is as it was (`Starting`); the whole is well made, since a fresh record is
-- good and the list is that which was given, identifiers and choices.
use Rattle.std.specs.Prelude.{Ok, Err}
use Rattle.words.proofs.Kit.{◌≡◌, refl, sym, ap, ap₂, ◌∙◌, List, [], ◌∷◌, ◌++◌, Bool, true, false, not, ℕ, zero, suc, ◌+◌, ◌-◌, ◌*◌, ◌^◌, ◌≤◌, ◌<◌}
use Rattle.words.proofs.Kit.{arith, lt-ltb, le-ltb, ltb-false, not-true, not-false, length, get_or, take, drop, set}
use mathlib.Core.List.{append_assoc, append-nil}
use native.Mathlib.Nat.{not-suc-le-zero, le_of_suc-le-suc}
use native.Mathlib.Numerals.{add-one}
use lib.ListN.{length-append, length-drop, replicate, take-append-drop}
use lib.Seq.{take-suc, take_all, drop-drop, length-take-le, take-suc-set, drop-set-lt, drop_at}
use Rattle.words.specs.Part.{part, put}
use Rattle.words.specs.declared.refusals.Refusal.TheVariants as refusals
use Rattle.words.specs.Listed.{on_paper}
use Rattle.words.specs.Outcome.{Done, accepted, Meets}
use Rattle.words.specs.Tests.{both}
use Rattle.words.proofs.Cases.{both_left, both_right, accepted_same}
use Rattle.words.proofs.RefusalLaws.{first_passed}
use Rattle.words.proofs.MeetLaws.{meets_err, meets_ok}
use Rattle.words.proofs.PartLaws.{put_at, part_front, part_past, part_within}
use Rattle.record.specs.Layout.{head_words, slot_words, record_words, identifier_of, choice_of}
use Rattle.record.specs.Good.{record_good}
use Rattle.record.proofs.GoodLaws.{zero_at, of_good, blank_good}
use Rattle.table.specs.Layout.{streams_of, base, layout_words, Has, record_at, with_record}
use Rattle.table.specs.Identifiers.{spaced, listed, declared, list_good, choices_good}
use Rattle.table.specs.Well.{well_made}
use Rattle.table.specs.Start.{fresh_record, fresh_records, fresh_table, start_list, start_of}
use Rattle.table.proofs.RecordLaws.{record_identifier, with_length}
use Rattle.table.proofs.ListLaws.{list_of, list_same, list_next, choices_many, choices_most}
use Rattle.table.proofs.WellLaws.{well_from}

-- ---- fresh records

module _ (i c : ℕ) where
  pub fresh_length : length (fresh_record i c) ≡ record_words
  unfolding fresh_record
  fresh_length = refl

  fresh_identifier : identifier_of (fresh_record i c) ≡ i
  unfolding fresh_record
  fresh_identifier = refl

  fresh_chosen : choice_of (fresh_record i c) ≡ c
  unfolding fresh_record
  fresh_chosen = refl

records_append : (xs ys cs ds : List ℕ) → length cs ≡ length xs → fresh_records (xs ++ ys) (cs ++ ds) ≡ fresh_records xs cs ++ fresh_records ys ds
unfolding fresh_records
records_append [] ys [] ds e = refl
records_append [] ys (c ∷ cs) ds e = absurd (omega (arith, e))
records_append (x ∷ xs) ys [] ds e = absurd (omega (arith, e))
records_append (x ∷ xs) ys (c ∷ cs) ds e =
    ap (λ (z : List ℕ). fresh_record x c ++ z) (records_append xs ys cs ds (omega (arith, e)))
    ∙ sym (append_assoc (fresh_record x c) (fresh_records xs cs) (fresh_records ys ds))

pub records_length : (ids choices : List ℕ) → length choices ≡ length ids → length (fresh_records ids choices) ≡ record_words * length ids
unfolding fresh_records
records_length [] choices e = refl
records_length (i ∷ ids) [] e = absurd (omega (arith, e))
records_length (i ∷ ids) (c ∷ choices) e =
    length-append (fresh_record i c) (fresh_records ids choices) ∙ omega (arith, fresh_length i c, records_length ids choices (omega (arith, e)))

-- a zeroed array with the identifier and the choice, copied to the record's place
pub record_copied : (t after : List ℕ) (s i c at : ℕ) → at ≡ base s
    → after ≡ put at record_words (part 0 record_words (set (set (replicate record_words 0) 0 i) 14 c)) t → after ≡ with_record s (fresh_record i c) t
unfolding with_record part fresh_record
record_copied t after s i c at e f = f ∙ ap (λ (a : ℕ). put a record_words (i ∷ (replicate (head_words - 2) 0 ++ c ∷ replicate slot_words 0)) t) e

-- ---- the loop that writes them

-- the record of stream s of a list
abbrev pub fresh_at : List ℕ → List ℕ → ℕ → List ℕ
fresh_at ids choices s = fresh_record (get_or ids s 0) (get_or choices s 0)

-- the table after s records
abbrev pub reached : List ℕ → List ℕ → List ℕ → ℕ → List ℕ
reached ids choices t s = (take 1 t ++ fresh_records (take s ids) (take s choices)) ++ drop (base s) t

reached_none : (ids choices t : List ℕ) → t ≡ reached ids choices t 0
unfolding fresh_records
reached_none ids choices t = sym (rw (append-nil (take 1 t)) (take-append-drop 1 t))

records_one : (x c : ℕ) → fresh_records (x ∷ []) (c ∷ []) ≡ fresh_record x c
unfolding fresh_records
records_one x c = append-nil (fresh_record x c)

pub record Starting (ids choices t₀ t : List ℕ) (s : ℕ) : Type 0 where
  pub few : s ≤ length ids
  pub same : length t ≡ length t₀
  pub is : t ≡ reached ids choices t₀ s

pub writing_start : (ids choices t : List ℕ) → Starting ids choices t t 0
writing_start ids choices t = record { few = omega arith; same = refl; is = reached_none ids choices t }

module _ (ids choices : List ℕ) (many : length choices ≡ length ids) where
  taken : (s : ℕ) → s ≤ length ids → length (take s choices) ≡ length (take s ids)
  taken s h = length-take-le s choices (omega arith) ∙ sym (length-take-le s ids h)

  head_length : (t : List ℕ) (s : ℕ) → s ≤ length ids → 1 ≤ length t → length (take 1 t ++ fresh_records (take s ids) (take s choices)) ≡ base s
  head_length t s h g =
      rw (length-append, length-take-le 1 t g, records_length (take s ids) (take s choices) (taken s h), length-take-le s ids h)

  records_more : (s : ℕ) → s < length ids
      → fresh_records (take (s + 1) ids) (take (s + 1) choices) ≡ fresh_records (take s ids) (take s choices) ++ fresh_at ids choices s
  records_more s h =
      let g : s < length choices = omega arith in
      let l : s ≤ length ids = omega arith in
      rw (
        add-one s,
        take-suc ids s 0 h,
        take-suc choices s 0 g,
        records_append (take s ids) (get_or ids s 0 ∷ []) (take s choices) (get_or choices s 0 ∷ []) (taken s l),
        records_one (get_or ids s 0) (get_or choices s 0),
      )

  reached_more : (t : List ℕ) (s : ℕ) → s < length ids → 1 ≤ length t
      → with_record s (fresh_at ids choices s) (reached ids choices t s) ≡ reached ids choices t (s + 1)
  unfolding with_record
  reached_more t s h g =
      let i : s ≤ length ids = omega arith in
      let e : base s + record_words ≡ base (s + 1) = omega arith in
      put_at (base s) record_words (take 1 t ++ fresh_records (take s ids) (take s choices)) (drop (base s) t) (fresh_at ids choices s) (head_length t s i g)
      ∙ rw (drop-drop record_words (base s) t, e, records_more s h) (simp append_assoc)

  pub writing_turn : (t₀ t last : List ℕ) (s : ℕ) → Starting ids choices t₀ t s → base (length ids) ≤ length t₀ → s < length ids
      → last ≡ with_record s (fresh_at ids choices s) t → Starting ids choices t₀ last (s + 1)
  writing_turn t₀ t last s w h g e =
      let k : Has s t = omega (arith, w.same) in
      let o : 1 ≤ length t₀ = omega arith in
      record {
        few = omega arith;
        same = ap length e ∙ with_length s (fresh_at ids choices s) t k (fresh_length (get_or ids s 0) (get_or choices s 0)) ∙ w.same;
        is = e ∙ ap (with_record s (fresh_at ids choices s)) w.is ∙ reached_more t₀ s g o;
      }

  pub writing_end : (t₀ t : List ℕ) (s : ℕ) → Starting ids choices t₀ t s → length ids ≤ s
      → t ≡ take 1 t₀ ++ (fresh_records ids choices ++ drop (base (length ids)) t₀)
  writing_end t₀ t s w g =
      let e : s ≡ length ids = omega (arith, w.few) in
      let h : length ids ≤ length ids = omega arith in
      let k : length choices ≤ length ids = omega arith in
      w.is ∙ rw (e, take_all (length ids) ids h, take_all (length ids) choices k)
      (append_assoc (take 1 t₀) (fresh_records ids choices) (drop (base (length ids)) t₀))

-- ---- the answers

-- l is the answer to the identifiers, c that to the choices; and m the words of the layout
module _ (ids choices t : List ℕ) (l : Bool) (el : l ≡ list_good (length ids) (spaced 0 1 ids)) where
  listed_next : l ≡ list_good (length ids) (listed ids)
  listed_next = el ∙ list_next ids

  pub start_unlisted : not l ≡ true → Meets on_paper (start_of ids choices t) t (Err refusals.List) t
  unfolding start_of
  start_unlisted o = meets_err (rw (← listed_next, not-true l o))

  pub start_unchosen : not l ≡ false → (c : Bool) → c ≡ choices_good (length ids) choices → not c ≡ true
      → Meets on_paper (start_of ids choices t) t (Err refusals.List) t
  unfolding start_of
  start_unchosen o c ec i = meets_err (rw (← listed_next, not-false l o, ← ec, not-true c i))

  module _ (o : not l ≡ false) where
    pub start_few : length ids ≤ 32
    start_few = (list_of (length ids) (spaced 0 1 ids) (sym el ∙ not-false l o)).few

    pub start_small : length ids < 2 ^ 32
    start_small = omega (arith, start_few)

    module _ (c : Bool) (ec : c ≡ choices_good (length ids) choices) (i : not c ≡ false) where
      passed : both (list_good (length ids) (listed ids)) (choices_good (length ids) choices) ≡ true
      passed = rw (← listed_next, ← ec, not-false l o, not-false c i)

      pub start_many : length choices ≡ length ids
      start_many = choices_many (length ids) choices (sym ec ∙ not-false c i)

      module _ (m : ℕ) (f : m ≡ layout_words (length ids)) where
        pub start_room : length t < m → Meets on_paper (start_of ids choices t) t (Err refusals.Room) t
        unfolding start_of
        start_room h = meets_err (rw (passed, ← f, lt-ltb _ _ h))

        pub start_made : (last : List ℕ) → m ≤ length t
            → last ≡ take 1 (set t 0 (length ids)) ++ (fresh_records ids choices ++ drop (base (length ids)) (set t 0 (length ids)))
            → Meets on_paper (start_of ids choices t) t (Ok m) last
        unfolding start_of fresh_table
        start_made last h e =
            let k : 0 < length t = omega arith in
            let j : 0 < layout_words (length ids) = omega arith in
            meets_ok {left = fresh_table ids choices t} (rw (passed, ← f, le-ltb _ _ h))
            (e ∙ rw (take-suc-set t 0 (length ids) k, drop-set-lt (layout_words (length ids)) t 0 (length ids) j))

-- ---- a fresh table is well made

records_part : (ids choices : List ℕ) (s : ℕ) → length choices ≡ length ids → s < length ids
    → part (record_words * s) record_words (fresh_records ids choices) ≡ fresh_at ids choices s
unfolding fresh_records
records_part [] choices s e h = absurd (not-suc-le-zero h)
records_part (i ∷ ids) [] s e h = absurd (omega (arith, e))
records_part (i ∷ ids) (c ∷ choices) zero e h = part_front record_words (fresh_record i c) (fresh_records ids choices) (fresh_length i c)
records_part (i ∷ ids) (c ∷ choices) (suc s) e h =
    let k : record_words * suc s ≡ record_words + record_words * s = omega arith in
    ap (λ (z : ℕ). part z record_words (fresh_record i c ++ fresh_records ids choices)) k
    ∙ part_past record_words (record_words * s) record_words (fresh_record i c) (fresh_records ids choices) (fresh_length i c)
    ∙ records_part ids choices s (omega (arith, e)) (le_of_suc-le-suc h)

module _ (ids choices t : List ℕ) (s : ℕ) (many : length choices ≡ length ids) (h : s < length ids) where
  -- the record of stream s, with its identifier and its choice
  pub fresh_record_lem : record_at s (fresh_table ids choices t) ≡ fresh_record (get_or ids s 0) (get_or choices s 0)
  unfolding record_at fresh_table
  fresh_record_lem =
      part_past 1 (record_words * s) record_words (length ids ∷ []) (fresh_records ids choices ++ drop (layout_words (length ids)) t) refl
      ∙ part_within (record_words * s) record_words (fresh_records ids choices) (drop (layout_words (length ids)) t)
      (omega (arith, records_length ids choices many))
      ∙ records_part ids choices s many h

  pub fresh_list : declared (fresh_table ids choices t) s ≡ listed ids s
  fresh_list =
      sym (record_identifier s (fresh_table ids choices t)) ∙ ap identifier_of fresh_record_lem ∙ fresh_identifier (get_or ids s 0) (get_or choices s 0)

  pub fresh_choice : choice_of (record_at s (fresh_table ids choices t)) ≡ get_or choices s 0
  fresh_choice = ap choice_of fresh_record_lem ∙ fresh_chosen (get_or ids s 0) (get_or choices s 0)

-- a fresh record is good: its words but for the identifier and the choice are zero
zero_but : (n m c k : ℕ) → (k ≡ n → ⊥) → get_or (replicate n 0 ++ c ∷ replicate m 0) k 0 ≡ 0
zero_but zero m c zero e = absurd (e refl)
zero_but zero m c (suc k) e = zero_at m k
zero_but (suc n) m c zero e = refl
zero_but (suc n) m c (suc k) e = zero_but n m c k (λ i. e (ap suc i))

fresh_zero : (i c k : ℕ) → 1 ≤ k → (k ≡ 14 → ⊥) → get_or (fresh_record i c) k 0 ≡ 0
unfolding fresh_record
fresh_zero i c zero h e = absurd (not-suc-le-zero h)
fresh_zero i c (suc k) h e = zero_but (head_words - 2) slot_words c k (λ j. e (ap suc j))

pub fresh_good : (i c : ℕ) → c ≤ 1 → record_good (fresh_record i c) ≡ true
fresh_good i c h =
    of_good (fresh_record i c) (blank_good (fresh_record i c) (fresh_length i c) (rw (fresh_chosen i c) h) (fresh_zero i c))

module _ (ids choices t : List ℕ) (g : list_good (length ids) (listed ids) ≡ true) (c : choices_good (length ids) choices ≡ true)
    (h : layout_words (length ids) ≤ length t) where
  many : length choices ≡ length ids
  many = choices_many (length ids) choices c

  pub fresh_whole : length (fresh_table ids choices t) ≡ length t
  unfolding fresh_table
  fresh_whole =
      let e : length (fresh_records ids choices ++ drop (layout_words (length ids)) t) ≡ record_words * length ids + (length t - layout_words (length ids)) =
      rw (length-append, records_length ids choices many, length-drop) in
      omega (arith, e)

  pub fresh_streams : streams_of (fresh_table ids choices t) ≡ length ids
  unfolding fresh_table
  fresh_streams = refl

  pub fresh_past : drop (layout_words (length ids)) (fresh_table ids choices t) ≡ drop (layout_words (length ids)) t
  unfolding fresh_table
  fresh_past =
      drop_at (length ids ∷ fresh_records ids choices) (drop (layout_words (length ids)) t) (layout_words (length ids))
      (omega (arith, records_length ids choices many))

  pub fresh_well : well_made (fresh_table ids choices t) ≡ true
  fresh_well =
      well_from (fresh_table ids choices t)
      (rw (fresh_streams, fresh_whole) h)
      (rw fresh_streams (list_same (length ids) (declared (fresh_table ids choices t)) (listed ids) (λ s k. fresh_list ids choices t s many k) ∙ g))
      (λ s k.
      let i : s < length ids = rw fresh_streams at k in
      rw (fresh_record_lem ids choices t s many i) (fresh_good (get_or ids s 0) (get_or choices s 0) (choices_most (length ids) choices c s i)))

-- start gives a well-made table, with the layout's length and the list given
pub record Begun (ids choices t : List ℕ) (d : Done ℕ (List ℕ)) : Type 0 where
  pub well : well_made d.leaves ≡ true
  pub size : d.says ≡ layout_words (streams_of d.leaves)
  pub streams : streams_of d.leaves ≡ length ids
  pub list : (s : ℕ) → s < length ids → declared d.leaves s ≡ listed ids s
  pub many : length choices ≡ length ids
  pub chosen : (s : ℕ) → s < length ids → choice_of (record_at s d.leaves) ≡ get_or choices s 0
  pub past : drop (layout_words (length ids)) d.leaves ≡ drop (layout_words (length ids)) t

pub start_well_made : (ids choices t : List ℕ) (d : Done ℕ (List ℕ)) → start_of ids choices t ≡ accepted d → Begun ids choices t d
unfolding start_of
start_well_made ids choices t d e =
    let a = first_passed (start_list ids choices t) _ d e in
    let both-good = not-false _ a.0.0 in
    let g : list_good (length ids) (listed ids) ≡ true = both_left (list_good (length ids) (listed ids)) (choices_good (length ids) choices) both-good in
    let c : choices_good (length ids) choices ≡ true = both_right (list_good (length ids) (listed ids)) (choices_good (length ids) choices) both-good in
    let h : layout_words (length ids) ≤ length t = ltb-false _ _ a.0.1.0 in
    let many : length choices ≡ length ids = choices_many (length ids) choices c in
    rw (← accepted_same a.1)
    (record {
      well = fresh_well ids choices t g c h;
      size = rw (fresh_streams ids choices t g c h);
      streams = fresh_streams ids choices t g c h;
      list = λ s k. fresh_list ids choices t s many k;
      many = many;
      chosen = λ s k. fresh_choice ids choices t s many k;
      past = fresh_past ids choices t g c h;
    })
