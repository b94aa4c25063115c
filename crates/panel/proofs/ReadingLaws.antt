-- The answers. The idea: where nothing is refused the record is there and the bit has a slot; the slot is a part of the record, and so are the held words,
-- also those of an absent field, which are none.
use Rattle.std.specs.Prelude.{Result, Ok, Err}
use Rattle.words.proofs.Kit.{◌≡◌, refl, sym, ap, subst, ◌∙◌, Bool, true, false, not, List, ◌++◌, ℕ, ◌+◌, ◌-◌, ◌≤◌, ◌<◌, arith, lt-ltb, le-ltb}
use Rattle.words.proofs.Kit.{ltb-false, not-true, not-false, ltb, length, take, drop}
use borrow.Author.Tests.{leb-false}
use Rattle.words.specs.Numbers.{ROOM}
use Rattle.words.specs.Tests.{when}
use Rattle.words.specs.Part.{part, put}
use Rattle.words.specs.Outcome.{Outcome, refused, accepted, after, Meets}
use Rattle.words.specs.Listed.{list_number, on_paper}
use Rattle.words.specs.declared.refusals.Refusal.{Refusal}
use Rattle.words.specs.declared.refusals.Refusal.TheVariants.{Room}
use Rattle.words.proofs.RefusalLaws.{first_passed, either_passed, after_first}
use Rattle.words.proofs.MeetLaws.{meets_err, meets_ok}
use Rattle.words.proofs.PartLaws.{seen}
use Rattle.fields.specs.Sizes.{field_size}
use Rattle.record.specs.Held.{slot_at}
use Rattle.record.specs.Layout.{head_words, record_words, is_held, held_words_in}
use Rattle.record.proofs.HeldWordsLaws.{slot_is, held_part, held_length}
use Rattle.table.specs.Layout.{streams_of, base, Has, record_at}
use Rattle.table.specs.Well.{well_made}
use Rattle.table.specs.Stream.{stream_number_list}
use Rattle.table.specs.inner.Checked.{stream_checks}
use Rattle.table.proofs.WellLaws.{layout_has, well_whole, well_few}
use Rattle.panel.specs.Readings.{absent, shown_of, record_shows, reading_list, reading_of, shown_in}
use Rattle.panel.specs.inner.Asked.{bit_checks, asked_of}
use Rattle.panel.specs.HeldWords.{held_words_of}
use Rattle.panel.specs.inner.Copied.{copy_of}
use Rattle.panel.specs.declared.FieldReading.{FieldReading}

-- ---- whether a field may be asked for
asked_after : (t : List ℕ) (s b : ℕ) → asked_of t s b ≡ after (stream_checks t s) (bit_checks b)
unfolding asked_of stream_checks bit_checks
asked_after t s b = sym (after_first (stream_number_list t s) tt _)

module _ (t : List ℕ) (s b : ℕ) where
  pub asked_refused : (n : ℕ) → refused n ≡ stream_checks t s → refused n ≡ asked_of t s b
  asked_refused n e = rw (asked_after t s b, ← e)

  pub asked_bit : (o : Outcome Unit) → accepted tt ≡ stream_checks t s → o ≡ bit_checks b → o ≡ asked_of t s b
  asked_bit o e h = rw (asked_after t s b, ← e) h

-- ---- what may be asked for, in facts
asked_facts : (t : List ℕ) (s b : ℕ) → asked_of t s b ≡ accepted tt → (s < 32) × Has s t × (10 ≤ b) × (b ≤ 30)
unfolding asked_of
asked_facts t s b e =
    let a = (first_passed (reading_list t s b) _ tt e).0 in
    let w = not-false (well_made t) a.0 in
    let g : s < streams_of t = leb-false (streams_of t) s a.1.0 in
    let v = either_passed (ltb b 10) (ltb 30 b) a.1.1.0 in
    (omega (arith, well_few t w), layout_has t s (well_whole t w) g, ltb-false b 10 v.0, ltb-false 30 b v.1)

-- ---- the public answers
module _ (t : List ℕ) (s b : ℕ) where
  reading_asked : reading_of t s b ≡ after (asked_of t s b) (accepted (record_shows b (record_at s t)))
  unfolding reading_of asked_of
  reading_asked = sym (after_first (reading_list t s b) tt _)

  words_asked : (out : List ℕ) → held_words_of t s b out ≡ after (asked_of t s b) (copy_of (held_words_in b (record_at s t)) out)
  unfolding held_words_of asked_of copy_of
  words_asked out = sym (after_first (reading_list t s b) tt _)

  module _ (e : accepted tt ≡ asked_of t s b) where
    pub asked_few : s < 32
    asked_few = (asked_facts t s b (sym e)).0

    pub asked_has : Has s t
    asked_has = (asked_facts t s b (sym e)).1

    pub asked_least : 10 ≤ b
    asked_least = (asked_facts t s b (sym e)).2

    pub asked_most : b ≤ 30
    asked_most = (asked_facts t s b (sym e)).3

    pub reading_shown : (d : FieldReading) → shown_in d ≡ record_shows b (record_at s t) → accepted (shown_in d) ≡ reading_of t s b
    reading_shown d h = rw (reading_asked, ← e) (ap accepted h)

    pub words_copied : (out last : List ℕ) (r : Result ℕ Refusal) → Meets on_paper (copy_of (held_words_in b (record_at s t)) out) out r last
        → Meets on_paper (held_words_of t s b out) out r last
    words_copied out last r h = rw (words_asked out, ← e) h

  pub reading_refused : (n : ℕ) → refused n ≡ asked_of t s b → refused n ≡ reading_of t s b
  reading_refused n e = rw (reading_asked, ← e)

  pub words_refused : (out : List ℕ) (r : Refusal) → refused (list_number r) ≡ asked_of t s b → Meets on_paper (held_words_of t s b out) out (Err r) out
  words_refused out r e = meets_err (rw (words_asked out, ← e))

-- ---- a field in a record: h is whether it is held, at where its slot begins, and z its words
pub shows_absent : (r : List ℕ) (b : ℕ) (h : Bool) → h ≡ is_held b r → not h ≡ true → absent ≡ record_shows b r
unfolding record_shows
shows_absent r b h e i = rw (← e, not-true h i)

module _ (r : List ℕ) (b at z : ℕ) (l : length r ≡ record_words) (lo : 10 ≤ b) (hi : b ≤ 30) (ea : at ≡ slot_at b) (ez : z ≡ field_size b) where
  module _ (n : ℕ) (h : Bool) (eh : h ≡ is_held b r) (en : n ≡ when h z) where
    pub copy_made : (out last : List ℕ) → n ≤ length out → last ≡ put 0 n (part (head_words + at) n r) out
        → Meets on_paper (copy_of (held_words_in b r) out) out (Ok n) last
    unfolding copy_of put
    copy_made out last o p =
        meets_ok {left = held_words_in b r ++ drop n out} (rw (held_length r b at z l lo hi ea ez n h eh en, le-ltb (length out) n o))
        (p ∙ ap (λ (ws : List ℕ). ws ++ drop n out) (sym (held_part r b at z l lo hi ea ez n h eh en)))

pub copy_room : (r out : List ℕ) (b z n : ℕ) (h : Bool) → length r ≡ record_words → 10 ≤ b → b ≤ 30 → z ≡ field_size b → h ≡ is_held b r → n ≡ when h z
    → length out < n → Meets on_paper (copy_of (held_words_in b r) out) out (Err Room) out
unfolding copy_of
copy_room r out b z n h l lo hi ez eh en o =
    let k : length (held_words_in b r) ≡ n = held_length r b (slot_at b) z l lo hi refl ez n h eh en in
    meets_err (rw (k, lt-ltb (length out) n o))

-- ---- a record that is lent from its place on
pub lent_record : (t : List ℕ) (s at : ℕ) → at ≡ base s → take (at + record_words - at) (drop at t) ≡ record_at s t
unfolding record_at
lent_record t s at e = seen at (at + record_words) record_words t refl ∙ ap (λ (a : ℕ). part a record_words t) e
