-- All readings at once. The idea: the loop fills the entries from the front, and what it has passed is what the record shows of bit 30 - k (`Showing`);
-- `slot_bits` has that bit at place k, so the whole is the definition, entry by entry. The place among the slots runs along (`slot_along_next`).
use Rattle.words.proofs.Kit.{◌≡◌, refl, sym, ap, ◌∙◌, List, [], ◌∷◌, ℕ, zero, suc, ◌+◌, ◌-◌, ◌^◌, ◌≤◌, ◌<◌, arith, le-ltb, length, take, drop, get_or, set}
use mathlib.Core.List.{map}
use lib.ListN.{replicate, length-set, length-map, length-replicate, get_or-replicate}
use lib.Seq.{ext_get_or, get_or-set_same, get_or-set_other}
use borrow.Author.Count.{below_none, below_more}
use Rattle.words.specs.Outcome.{Outcome, refused, accepted, after}
use Rattle.words.specs.All.{all}
use Rattle.words.specs.SetBits.{bits_of}
use Rattle.words.proofs.AllLaws.{tabled_at}
use Rattle.words.proofs.RefusalLaws.{after_first}
use Rattle.fields.specs.Sizes.{field_size}
use Rattle.record.specs.Held.{slot_mask, slot_bits, slot_at}
use Rattle.record.specs.Layout.{record_words}
use Rattle.record.proofs.SlotLaws.{slot_next, slotted_all}
use Rattle.record.proofs.HoldLaws.{slot_inside}
use Rattle.table.specs.Layout.{base, record_at}
use Rattle.table.specs.Stream.{stream_number_list}
use Rattle.table.specs.inner.Checked.{stream_checks}
use Rattle.panel.specs.Readings.{Reading, absent, record_shows, reading_of, shown_in}
use Rattle.panel.specs.AllReadings.{record_readings, readings_of, in_each}
use Rattle.panel.specs.declared.FieldReading.{FieldReading}
use Rattle.panel.specs.declared.FieldReading.TheVariants as dial
use Rattle.panel.proofs.ReadingLaws.{lent_record}

-- ---- lists by their entries

-- an entry of a mapped list, whatever stands past the ends
pub map_at : {A B : Type 0} (f : A → B) (xs : List A) (i : ℕ) (d : A) (e : B) → i < length xs → get_or (map f xs) i e ≡ f (get_or xs i d)
map_at f [] i d e h = absurd (omega (arith, h))
map_at f (x ∷ xs) zero d e h = refl
map_at f (x ∷ xs) (suc i) d e h = map_at f xs i d e (omega (arith, h))

-- two lists whose entries are the same under two functions
pub map_both : {A B C : Type 0} (f : A → C) (g : B → C) (xs : List A) (ys : List B) (a : A) (b : B) → length xs ≡ length ys
    → ((i : ℕ) → i < length xs → f (get_or xs i a) ≡ g (get_or ys i b)) → map f xs ≡ map g ys
map_both f g xs ys a b l h =
    ext_get_or (f a) (map f xs) (map g ys) (length-map xs f ∙ l ∙ sym (length-map ys g))
    (λ i k.
    let m : i < length xs = rw (length-map xs f) at k in
    map_at f xs i a (f a) m ∙ h i m ∙ sym (map_at g ys i b (f a) (omega (arith, l, m))))

-- ---- the bits of the fields

pub fields_many : length slot_bits ≡ 21
unfolding slot_bits slot_mask bits_of
fields_many = refl

pub field_bit_lem : (i : ℕ) → i < 21 → get_or slot_bits i 0 ≡ 30 - i
unfolding slot_bits slot_mask bits_of all
field_bit_lem i h = tabled_at 21 slot_bits (λ k. 30 - k) i refl h

-- the place among the slots that a loop over all fields takes along: at turn i it is that of bit 30 - i, whose field has n words
module _ (i slot n : ℕ) (h : i < 21) (e : slot ≡ slot_at (30 - i)) (f : n ≡ field_size (30 - i)) where
  pub slot_along_fits : slot + n < 2 ^ 64
  slot_along_fits = omega (arith, slot_inside (30 - i) (slotted_all (30 - i) (omega arith) (omega arith)))

  pub slot_along_next : slot + n ≡ slot_at (30 - (i + 1))
  slot_along_next =
      let passed : 30 - i - 1 ≡ 30 - (i + 1) = omega arith in
      slot_next (30 - i) slot n (slotted_all (30 - i) (omega arith) (omega arith)) e f ∙ ap slot_at passed

-- ---- a record, read from the front

-- the entries below i are what the record shows
pub record Showing (r : List ℕ) (i : ℕ) (ds : List FieldReading) : Type 0 where
  pub many : length ds ≡ 21
  pub bound : i ≤ 21
  pub each : (k : ℕ) → k < i → shown_in (get_or ds k dial.Absent) ≡ record_shows (30 - k) r

module _ (r : List ℕ) where
  pub showing_none : (ds : List FieldReading) → length ds ≡ 21 → Showing r 0 ds
  showing_none ds l = record { many = l; bound = omega arith; each = below_none _ }

  pub showing_more : (i : ℕ) (ds : List FieldReading) (d : FieldReading) → i < 21 → Showing r i ds → shown_in d ≡ record_shows (30 - i) r
      → Showing r (i + 1) (set ds i d)
  showing_more i ds d h f e = record {
    many = length-set ds i d ∙ f.many;
    bound = omega arith;
    each =
        below_more (λ k. shown_in (get_or (set ds i d) k dial.Absent) ≡ record_shows (30 - k) r) i
        (λ k l. ap shown_in (get_or-set_other ds i k d dial.Absent (λ q. absurd (omega (arith, l, q)))) ∙ f.each k l)
        (ap shown_in (get_or-set_same ds i d dial.Absent (omega (arith, f.many, h))) ∙ e);
  }

  pub readings_many : length (record_readings r) ≡ 21
  unfolding record_readings
  readings_many = length-map slot_bits _ ∙ fields_many

  pub readings_at : (i : ℕ) → i < 21 → get_or (record_readings r) i absent ≡ record_shows (30 - i) r
  unfolding record_readings
  readings_at i h =
      map_at (λ b. record_shows b r) slot_bits i 0 absent (omega (arith, fields_many, h)) ∙ ap (λ (b : ℕ). record_shows b r) (field_bit_lem i h)

  pub showing_all : (i : ℕ) (ds : List FieldReading) → 21 ≤ i → Showing r i ds → map shown_in ds ≡ record_readings r
  unfolding record_readings
  showing_all i ds h f =
      map_both shown_in (λ b. record_shows b r) ds slot_bits dial.Absent 0 (f.many ∙ sym fields_many)
      (λ k l.
      let m : k < 21 = omega (arith, f.many, l) in
      f.each k (omega (arith, h, m)) ∙ ap (λ (b : ℕ). record_shows b r) (sym (field_bit_lem k m)))

-- ---- a refusal in every entry, or the readings, one by one
map_twice : {A B C : Type 0} (f : B → C) (g : A → B) (xs : List A) → map f (map g xs) ≡ map (λ x. f (g x)) xs
map_twice f g [] = refl
map_twice f g (x ∷ xs) = ap (◌∷◌ (f (g x))) (map_twice f g xs)

each_after : (o : Outcome Unit) (f : ℕ → Reading) → in_each (after o (accepted (map f slot_bits))) ≡ map (λ b. after o (accepted (f b))) slot_bits
each_after (refused n) f = refl
each_after (accepted u) f = map_twice accepted f slot_bits

-- ---- the public answer
module _ (t : List ℕ) (s : ℕ) where
  readings_asked : readings_of t s ≡ after (stream_checks t s) (accepted (record_readings (record_at s t)))
  unfolding readings_of stream_checks
  readings_asked = sym (after_first (stream_number_list t s) tt _)

  pub readings_refused : (n : ℕ) → refused n ≡ stream_checks t s → refused n ≡ readings_of t s
  readings_refused n e = rw (readings_asked, ← e)

  pub readings_accepted : accepted tt ≡ stream_checks t s → accepted (record_readings (record_at s t)) ≡ readings_of t s
  readings_accepted e = rw (readings_asked, ← e)

  pub all_shown : (ds : List FieldReading) → accepted tt ≡ stream_checks t s → map shown_in ds ≡ record_readings (record_at s t)
      → accepted (map shown_in ds) ≡ readings_of t s
  all_shown ds e h = ap accepted h ∙ readings_accepted e

  -- ---- entry by entry a reading

  bit_reading : (b : ℕ) → 10 ≤ b → b ≤ 30 → after (stream_checks t s) (accepted (record_shows b (record_at s t))) ≡ reading_of t s b
  unfolding reading_of stream_checks
  bit_reading b lo hi = after_first (stream_number_list t s) tt _ ∙ rw (le-ltb b 10 lo, le-ltb 30 b hi)

  pub readings_each : in_each (readings_of t s) ≡ map (reading_of t s) slot_bits
  unfolding record_readings
  readings_each =
      rw readings_asked (each_after (stream_checks t s) (λ b. record_shows b (record_at s t)))
      ∙ map_both (λ b. after (stream_checks t s) (accepted (record_shows b (record_at s t)))) (reading_of t s) slot_bits slot_bits 0 0 refl
      (λ i h.
      let b = field_bit_lem i (omega (arith, fields_many, h)) in
      bit_reading (get_or slot_bits i 0) (omega (arith, b, fields_many, h)) (omega (arith, b)))
