-- A packet taken in on a copy of the table's layout. The idea: what is asked of a table is asked of its layout alone, so growing answers of the copy l as of
-- the table l ++ x, and leaves the same index (`grow_alone`); the copy is given back only where the packet is taken in (`copied`).
use Rattle.std.specs.Prelude.{Result, Ok, Err}
use Rattle.words.proofs.Kit.{◌≡◌, refl, sym, ap, ap₂, ◌∙◌, Bool, true, false, ⊎_elim, List, ◌++◌, ℕ, ◌+◌, ◌-◌, ◌^◌, ◌≤◌, ◌<◌, arith, length, take, drop}
use lib.ListN.{take-append-drop}
use lib.Seq.{get_or-take, length-take-le}
use Rattle.words.specs.Tests.{both}
use Rattle.words.specs.Part.{part, put}
use Rattle.words.specs.declared.RefusedAt.{RefusedAt}
use Rattle.words.specs.Listed.{list_number}
use Rattle.words.specs.Outcome.{refused, accepted, Done, said_of, left_of, Meets}
use Rattle.words.specs.Told.{Told, refusal, told_paper}
use Rattle.words.proofs.Cases.{true_or_false}
use Rattle.words.proofs.PartLaws.{part_whole, part_length, put_length, part_put}
use Rattle.words.proofs.MeetLaws.{said_accepted, said_refused}
use Rattle.table.specs.Layout.{streams_of, layout_words}
use Rattle.table.specs.Well.{well_made}
use Rattle.table.proofs.WellLaws.{well_whole, well_few}
use Rattle.table.proofs.AloneLaws.{well_alone}
use Rattle.play.specs.declared.Heard.{Heard}
use Rattle.play.specs.Play.{play_told}
use Rattle.play.specs.Run.{goes_on, left_at}
use Rattle.play.proofs.KeepLaws.{kept_at}
use Rattle.play.proofs.AloneLaws.{play_alone, layout_left}
use Rattle.page.proofs.AloneLaws.{page_alone, length_alone}
use Rattle.index.specs.Layout.{with_entry}
use Rattle.index.specs.Good.{index_good}
use Rattle.index_grow.specs.declared.Taken.{Taken}
use Rattle.index_grow.specs.Grow.{table_taken, reaches_entry, entry_lacks, index_then, grow_of, grow_told}
use Rattle.index_grow.specs.inner.Steps.{Ready, GrownOn, layout_in, given_back}
use Rattle.index_grow.proofs.GrowLaws.{grow_accepts, grow_refuses, unread_both}
use Rattle.index_grow.proofs.AnswerLaws.{grow_taken}

-- ---- the layout and the words past it

module _ (t : List ℕ) (w : well_made t ≡ true) where
  whole : layout_in t ++ drop (layout_words (streams_of t)) t ≡ t
  whole = take-append-drop (layout_words (streams_of t)) t

  layout_long : length (layout_in t) ≡ layout_words (streams_of t)
  layout_long = length-take-le (layout_words (streams_of t)) t (well_whole t w)

  layout_is : length (layout_in t) ≡ layout_words (streams_of (layout_in t))
  layout_is = layout_long ∙ ap layout_words (sym (get_or-take (layout_words (streams_of t)) t 0 0 (omega arith)))

  pub copy_well : well_made (layout_in t) ≡ true
  copy_well = sym (well_alone (layout_in t) (drop (layout_words (streams_of t)) t) layout_is) ∙ ap well_made whole ∙ w

-- ---- the copy, k being how many streams there are, and n the layout's words

module _ (k n : ℕ) (t : List ℕ) (e : (k ≡ streams_of t) × (k < 2 ^ 32)) (f : (n ≡ layout_words k) × (n < 2 ^ 39)) (w : well_made t ≡ true) where
  words_is : n ≡ layout_words (streams_of t)
  words_is = f.0 ∙ ap layout_words e.0

  pub copy_fits : (space : List ℕ) → length space ≡ 2849 → 0 + n ≤ length space
  copy_fits space l = omega (arith, l, words_is, well_few t w)

  pub copy_there : 0 + n ≤ length t
  copy_there = omega (arith, words_is, well_whole t w)

  module _ (space last : List ℕ) (l : length space ≡ 2849) (g : last ≡ put 0 n (part 0 n t) space) where
    pub copy_inside : n ≤ length last
    copy_inside =
        let long = ap length g ∙ put_length 0 n (part 0 n t) space (copy_fits space l) (part_length 0 n t copy_there) in
        omega (arith, long, copy_fits space l)

    pub copy_is : take (n - 0) last ≡ layout_in t
    unfolding part
    copy_is =
        let k : n - 0 ≡ n = omega arith in
        rw (k, g) (part_put 0 n (part 0 n t) space (copy_fits space l) (part_length 0 n t copy_there) ∙ ap (λ (i : ℕ). take i t) words_is)

pub copy_ready : (t ix copy : List ℕ) → Ready t ix → copy ≡ layout_in t → Ready copy ix
copy_ready t ix copy q e = record { table = rw e (copy_well t q.table); index = q.index }

-- ---- growing on the layout alone

-- what growing says and leaves of a table l ++ x, by what it does of l
pub record GrowAlone (l x ws ix : List ℕ) : Type 0 where
  pub said : said_of (grow_told (l ++ x) ws ix) ≡ said_of (grow_told l ws ix)
  pub table : (left_of (grow_told (l ++ x) ws ix) (l ++ x, ix)).0 ≡ (left_of (grow_told l ws ix) (l, ix)).0 ++ x
  pub index : (left_of (grow_told (l ++ x) ws ix) (l ++ x, ix)).1 ≡ (left_of (grow_told l ws ix) (l, ix)).1

module _ (l x ws ix : List ℕ) (e : length l ≡ layout_words (streams_of l)) (q : Ready l ix) where
  ready_too : Ready (l ++ x) ix
  ready_too = record { table = well_alone l x e ∙ q.table; index = q.index }

  taken_alone : table_taken (l ++ x) ws ≡ table_taken l ws ++ x
  unfolding table_taken
  taken_alone = (play_alone l x e ws).1

  said_alone : said_of (play_told (l ++ x) ws) ≡ said_of (play_told l ws)
  said_alone = (play_alone l x e ws).0

  taken_layout : length (table_taken l ws) ≡ layout_words (streams_of (table_taken l ws))
  unfolding table_taken left_at
  taken_layout = layout_left l ws 0 e

  lacks_alone : entry_lacks (table_taken (l ++ x) ws) ix ≡ entry_lacks (table_taken l ws) ix
  unfolding entry_lacks
  lacks_alone = rw (taken_alone, length_alone (table_taken l ws) x taken_layout)

  index_alone : index_then (l ++ x) ws ix ≡ index_then l ws ix
  unfolding index_then with_entry
  index_alone = rw (taken_alone, length_alone (table_taken l ws) x taken_layout, page_alone (table_taken l ws) x taken_layout)

  goes_alone : (b : Bool) → goes_on (said_of (play_told l ws)) ≡ b → goes_on (said_of (play_told (l ++ x) ws)) ≡ b
  goes_alone b g = ap goes_on said_alone ∙ g

  abbrev full : Bool
  full = both (reaches_entry ix) (entry_lacks (table_taken l ws) ix)

  full_alone : (b : Bool) → full ≡ b → both (reaches_entry ix) (entry_lacks (table_taken (l ++ x) ws) ix) ≡ b
  full_alone b h = rw lacks_alone h

  grow_alone : GrowAlone l x ws ix
  grow_alone =
      ⊎_elim
      (λ (g : goes_on (said_of (play_told l ws)) ≡ true).
      ⊎_elim
      (λ (h : full ≡ true).
      let a = grow_refuses (l ++ x) ws ix ready_too (goes_alone true g) (full_alone true h) in
      let b = grow_refuses l ws ix q g h in
      record { said = rw (a, b); table = rw (a, b); index = rw (a, b) })
      (λ (h : full ≡ false).
      let a = grow_accepts (l ++ x) ws ix ready_too (goes_alone true g) (full_alone false h) in
      let b = grow_accepts l ws ix q g h in
      record { said = rw (a, b, said_alone); table = rw (a, b) taken_alone; index = rw (a, b) index_alone })
      (true_or_false full))
      (λ (g : goes_on (said_of (play_told l ws)) ≡ false).
      let a = unread_both (l ++ x) ws ix ready_too (goes_alone false g) in
      let b = unread_both l ws ix q g in
      let both_say : ◌≡◌ {A = Told Heard} (refused a.says) (refused b.says) = sym (ap said_of a.plays) ∙ said_alone ∙ ap said_of b.plays in
      let same : a.says ≡ b.says = cc in
      record { said = rw (a.grows, b.grows, same); table = rw (a.grows, b.grows); index = rw (a.grows, b.grows) })
      (true_or_false (goes_on (said_of (play_told l ws))))

-- whatever the table and the contents are: words past the layout are not looked at
pub grow_past : (l x ws ix : List ℕ) → length l ≡ layout_words (streams_of l) → GrowAlone l x ws ix
unfolding grow_told grow_of
grow_past l x ws ix e =
    ⊎_elim
    (λ (w : well_made l ≡ true).
    ⊎_elim (λ (g : index_good ix ≡ true). grow_alone l x ws ix e (record { table = w; index = g }))
    (λ (g : index_good ix ≡ false). record { said = rw (well_alone l x e, w, g); table = rw (well_alone l x e, w, g); index = rw (well_alone l x e, w, g) })
    (true_or_false (index_good ix)))
    (λ (w : well_made l ≡ false). record { said = rw (well_alone l x e, w); table = rw (well_alone l x e, w); index = rw (well_alone l x e, w) })
    (true_or_false (well_made l))

-- ---- given back

pub given_back_lem : (answer : Result Taken RefusedAt) (x : Taken) (copy t last : List ℕ) → answer ≡ Ok x
    → last ≡ put 0 (length copy) (part 0 (length copy) copy) t → last ≡ given_back answer copy t
given_back_lem answer x copy t last e f = f ∙ rw (part_whole copy, e)

module _ (t ws ix copy : List ℕ) (q : Ready t ix) (e : copy ≡ layout_in t) (r : Result Taken RefusedAt)
    (left leftIndex : List ℕ) (k : GrownOn copy ws ix r left leftIndex) where
  long : length left ≡ layout_words (streams_of t)
  unfolding table_taken left_at
  long = ap length k.table ∙ (kept_at copy ws 0).whole ∙ ap length e ∙ layout_long t q.table

  pub back_fits : length left ≤ length t
  back_fits = omega (arith, long, well_whole t q.table)

  alone : GrowAlone (layout_in t) (drop (layout_words (streams_of t)) t) ws ix
  alone = grow_alone (layout_in t) (drop (layout_words (streams_of t)) t) ws ix (layout_is t q.table) (copy_ready t ix (layout_in t) q refl)

  -- so of the table itself
  said_whole : said_of (grow_told t ws ix) ≡ said_of (grow_told copy ws ix)
  said_whole = rw e (rw (whole t q.table) at alone.said)

  index_whole : (left_of (grow_told t ws ix) (t, ix)).1 ≡ leftIndex
  index_whole = rw (whole t q.table) at alone.index ∙ sym (k.index ∙ rw e)

  abbrev left_table : Done Taken (List ℕ × List ℕ) → List ℕ
  left_table d = d.leaves.0

  table_whole : (y : Taken) → said_of (grow_told copy ws ix) ≡ accepted y → (left_of (grow_told t ws ix) (t, ix)).0 ≡ left
      ++ drop (layout_words (streams_of t)) t
  table_whole y f =
      let d = said_accepted (grow_told copy ws ix) y f in
      let taken : (left_of (grow_told copy ws ix) (copy, ix)).0 ≡ left = rw d.1 (ap left_table (grow_taken copy ws ix d.0 d.1).is ∙ sym k.table) in
      rw (whole t q.table) at alone.table ∙ ap (λ (z : List ℕ). z ++ drop (layout_words (streams_of t)) t) (rw e at taken)

  copied_by : (g : Result Taken RefusedAt) (last : List ℕ) → r ≡ g → last ≡ given_back g left t → (left_of (grow_told t ws ix) (t, ix)).0 ≡ last
  unfolding put
  copied_by (Err x) last f h =
      let no = said_refused (grow_told t ws ix) (refusal (list_number x.refusal) x.place) (said_whole ∙ sym k.answer ∙ ap told_paper f) in
      ap (λ (o : Told (Done Taken (List ℕ × List ℕ))). (left_of o (t, ix)).0) no ∙ sym h
  copied_by (Ok y) last f h = table_whole y (sym k.answer ∙ ap told_paper f) ∙ sym (h ∙ rw long)

  pub copied : (last : List ℕ) → last ≡ given_back r left t → Meets told_paper (grow_told t ws ix) (t, ix) r (last, leftIndex)
  copied last f = record { answer = k.answer ∙ sym said_whole; buffer = sym (ap₂ (λ a b. (a, b)) (copied_by r last refl f) index_whole) }
