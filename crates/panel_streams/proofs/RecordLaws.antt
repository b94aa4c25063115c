-- What the record of a stream says. The idea: the record is a part of the table, so a word of it stands as far behind the record's place (`word_there`); at is
-- that place.
use Rattle.std.specs.Prelude.{Option, Ok, Err}
use Rattle.words.proofs.Kit.{◌≡◌, refl, sym, ap, ◌∙◌, Bool, true, false, not, List, [], ◌∷◌, ◌++◌, ℕ, ◌+◌, ◌-◌, ◌≤◌, ◌<◌, arith, eq-eqb, ne_eqb, lt-ltb}
use Rattle.words.proofs.Kit.{le-ltb, not-true, not-false, length, drop, get_or, set}
use lib.ListN.{length-set}
use Rattle.words.specs.Numbers.{VALUE}
use Rattle.words.specs.Tests.{among}
use Rattle.words.specs.Part.{part, put}
use Rattle.words.specs.Outcome.{refused, accepted, Meets}
use Rattle.words.specs.Listed.{on_paper}
use Rattle.words.specs.declared.refusals.Refusal.TheVariants.{Room}
use Rattle.words.proofs.MeetLaws.{meets_err, meets_ok}
use Rattle.words.proofs.PartLaws.{get_d_part}
use Rattle.record.specs.Layout.{record_words, counted_types, order_of, count_at, count_words}
use Rattle.record.proofs.PacketLaws.{order_small}
use Rattle.table.specs.Layout.{base, layout_words, record_at}
use Rattle.panel_streams.specs.Identity.{declared_in}
use Rattle.panel_streams.specs.TypeCounts.{started, not_started, count_in, type_count_in, count_as}
use Rattle.panel_streams.specs.OwnTable.{own_layout}
use Rattle.panel_streams.specs.inner.Asked.{count_asked, own_asked}
use Rattle.panel_streams.specs.declared.records.TypeCounts.{TypeCounts}

word_there : (t : List ℕ) (s i : ℕ) → i < record_words → get_or (record_at s t) i 0 ≡ get_or t (base s + i) 0
unfolding record_at
word_there t s i h = get_d_part (base s) record_words i t h

pub declared_there : (t : List ℕ) (s at : ℕ) → at ≡ base s
    → record { identifier = get_or t at 0; choice = get_or t (at + 14) 0; held = get_or t (at + 1) 0 } ≡ declared_in (record_at s t)
unfolding declared_in
declared_there t s at e =
    let i : get_or (record_at s t) 0 0 ≡ get_or t at 0 = word_there t s 0 (omega arith) ∙ ap (λ (n : ℕ). get_or t n 0) (omega (arith, e)) in
    let c : get_or (record_at s t) 14 0 ≡ get_or t (at + 14) 0 = word_there t s 14 (omega arith) ∙ ap (λ (n : ℕ). get_or t n 0) (omega (arith, e)) in
    let h : get_or (record_at s t) 1 0 ≡ get_or t (at + 1) 0 = word_there t s 1 (omega arith) ∙ ap (λ (n : ℕ). get_or t n 0) (omega (arith, e)) in
    rw (i, c, h)

-- ---- counts: o is the order of the type, and c where its count begins in a record
module _ (t : List ℕ) (s kind at o c : ℕ) (e : at ≡ base s) (f : o ≡ order_of kind) (g : c ≡ count_at o) where
  count_word : (i : ℕ) → i < 3 → get_or (count_words (order_of kind) (record_at s t)) i 0 ≡ get_or t (at + c + i) 0
  unfolding count_words
  count_word i h =
      get_d_part (count_at (order_of kind)) 3 i (record_at s t) h
      ∙ word_there t s (count_at (order_of kind) + i) (omega (arith, order_small kind))
      ∙ ap (λ (n : ℕ). get_or t n 0) (omega (arith, e, f, g))

  pub count_none : get_or t (at + c + 2) 0 ≡ 0 → not_started ≡ type_count_in kind (record_at s t)
  unfolding type_count_in count_in
  count_none z = rw (count_word 2 (omega arith), eq-eqb _ 0 z)

  pub count_some : (get_or t (at + c + 2) 0 ≡ 0 → ⊥)
      → started (get_or t (at + c) 0) (get_or t (at + c + 1) 0) (get_or t (at + c + 2) 0 - 1) ≡ type_count_in kind (record_at s t)
  unfolding type_count_in count_in
  count_some z =
      let first : get_or (count_words (order_of kind) (record_at s t)) 0 0 ≡ get_or t (at + c) 0 =
      count_word 0 (omega arith) ∙ ap (λ (n : ℕ). get_or t n 0) (omega arith) in
      rw (count_word 2 (omega arith), ne_eqb _ 0 z, first, count_word 1 (omega arith))

-- q is whether the type is counted
module _ (kind : ℕ) (r : List ℕ) (q : Bool) (e : q ≡ among kind counted_types) where
  pub type_counted : not q ≡ false → among kind counted_types ≡ true
  type_counted i = sym e ∙ not-false q i

  pub count_value : not q ≡ true → refused VALUE ≡ count_asked kind r
  unfolding count_asked
  count_value i = rw (← e, not-true q i)

  pub count_said : (a : Option TypeCounts) → not q ≡ false → count_as a ≡ type_count_in kind r → accepted (count_as a) ≡ count_asked kind r
  unfolding count_asked
  count_said a i h = rw (← e, not-false q i) (ap accepted h)

-- ---- the own table
module _ (n : ℕ) (e : n ≡ layout_words 1) where
  pub own_room : (r out : List ℕ) → length out < n → Meets on_paper (own_asked r out) out (Err Room) out
  unfolding own_asked
  own_room r out h = meets_err (rw (← e, lt-ltb (length out) n h))

  pub own_inside : (out : List ℕ) → n ≤ length out → 1 + record_words ≤ length (set out 0 1)
  own_inside out h = omega (arith, e, length-set out 0 1)

  own_words : (ys out : List ℕ) → 1 ≤ length out → put 1 record_words ys (set out 0 1) ≡ own_layout ys ++ drop (layout_words 1) out
  unfolding put own_layout
  own_words ys [] h = absurd (omega (arith, h))
  own_words ys (x ∷ out) h = refl

  pub own_made : (t out last : List ℕ) (s at : ℕ) → at ≡ base s → n ≤ length out → last ≡ put 1 record_words (part at record_words t) (set out 0 1)
      → Meets on_paper (own_asked (record_at s t) out) out (Ok n) last
  unfolding own_asked record_at
  own_made t out last s at f h l =
      meets_ok {left = own_layout (part (base s) record_words t) ++ drop (layout_words 1) out} (rw (← e, le-ltb (length out) n h))
      (l ∙ own_words (part at record_words t) out (omega (arith, e, h)) ∙ ap (λ (a : ℕ). own_layout (part a record_words t) ++ drop (layout_words 1) out) f)
