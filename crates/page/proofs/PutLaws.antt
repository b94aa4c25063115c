-- How putting back goes. The idea: a body's first words and its held words are put into zeroed words (`filled_record`), and the records are pieces laid one
-- after the other behind S (`Putting`).
use Rattle.std.specs.Prelude.{Ok, Err}
use Rattle.words.proofs.Kit.{◌≡◌, refl, sym, ap, ap₂, ◌∙◌, Bool, true, false, not, List, [], ◌∷◌, ◌++◌, ℕ, ◌+◌, ◌-◌, ◌^◌, ◌≤◌, ◌<◌, arith, lt-ltb}
use Rattle.words.proofs.Kit.{le-ltb, not-true, not-false, length, take, drop, set}
use mathlib.Core.List.{append-nil}
use lib.Bits.{bit_and}
use lib.ListN.{replicate, length-replicate, length-set}
use Rattle.words.specs.Numbers.{PAGE, ROOM}
use Rattle.words.specs.declared.refusals.Refusal.TheVariants as refusals
use Rattle.words.specs.Listed.{on_paper}
use Rattle.words.specs.Outcome.{Meets}
use Rattle.words.specs.Tests.{pick}
use Rattle.words.specs.Word.{has}
use Rattle.words.specs.SetBits.{bits_of}
use Rattle.words.specs.Part.{part, put}
use Rattle.words.specs.Laid.{Laid}
use Rattle.words.proofs.LaidLaws.{then, laid_length}
use Rattle.words.proofs.MeetLaws.{meets_err, meets_ok}
use Rattle.words.proofs.PartLaws.{seen, lent_to, put_at, part_length, part_past, part_whole}
use Rattle.fields.specs.Sizes.{field_size, sizes_of}
use Rattle.record.specs.Held.{slot_mask, slotted, slot_bits}
use Rattle.record.specs.Layout.{head_words, slot_words, record_words, held_of, slot_in}
use Rattle.record.specs.After.{refilled, Inside}
use Rattle.record.specs.Good.{record_good}
use Rattle.record.proofs.SlotLaws.{placed_inside, in_order_same, slotted_low, slotted_high}
use Rattle.record.proofs.HoldLaws.{within_slotted}
use Rattle.record.proofs.AfterLaws.{masked_within, masked_has, masked_place}
use Rattle.table.specs.Layout.{base, layout_words, Has, with_record}
use Rattle.words.specs.Pieces.{pieces}
use Rattle.page.specs.Body.{page_body_words, record_of}
use Rattle.page.specs.Layout.{bodies_in, offset_at, length_at, page_body_at, saved_record, table_from, table_of}
use Rattle.page.specs.inner.Tested.{contents_good, record_good_in, page_ok}
use Rattle.page.specs.PutBack.{put_back_of}
use Rattle.page.proofs.BodyLaws.{body_some, record_length}
use Rattle.page.proofs.ContentsLaws.{contents_of, body_words_lem}
use Rattle.page.proofs.Exact.{ok_tested, back_length, page_tested}
use Rattle.page.proofs.WriteLaws.{laid_part, laid_one, laid_none, laid_next, laid_front}

-- zeroed words for a record
pub zeroed_length : (zeroed : List ℕ) → zeroed ≡ replicate record_words 0 → length zeroed ≡ record_words
zeroed_length zeroed z = ap length z ∙ length-replicate {A = ℕ} record_words 0

-- ---- the fields of a body, as `refill` finds them

-- bits of no held field do not matter
refilled_masked : (n at : ℕ) (ws slots : List ℕ) → refilled (bit_and n slot_mask) at ws slots ≡ refilled n at ws slots
unfolding refilled slot_bits slotted
refilled_masked n at ws slots =
    in_order_same 31 slot_mask _ _
    (λ b h e.
    rw (masked_has n b e)
    (ap (λ (l : List ℕ). pick (has n b) (part (at + sizes_of l) (field_size b) ws) (slot_in b slots)) (masked_place n b (omega (arith, slotted_low b e)))))

-- n is the body's held indicator
module _ (n : ℕ) (b : List ℕ) (e : n ≡ held_of b) (l : length b ≡ page_body_words (held_of b)) where
  pub fields_inside : Inside (bit_and n slot_mask) head_words b
  unfolding page_body_words
  fields_inside x y =
      let o : slotted x ≡ true = within_slotted (bit_and n slot_mask) (masked_within n) x y in
      let h : has n x ≡ true = sym (masked_has n x o) ∙ y in
      omega (
        arith,
        l,
        ap (λ (k : ℕ). sizes_of (bits_of 31 k)) e,
        placed_inside 31 n x (slotted_high x o) h,
        ap sizes_of (masked_place n x (omega (arith, slotted_low x o))),
      )

  -- zeroed words with the body's first words
  begun_is : put 0 head_words (part 0 head_words b) (replicate record_words 0) ≡ part 0 head_words b ++ replicate slot_words 0
  begun_is = put_at 0 head_words [] (replicate record_words 0) (part 0 head_words b) refl

  front_length : length (part 0 head_words b) ≡ head_words
  front_length = part_length 0 head_words b (body_some b l)

  slots_blank : part head_words slot_words (put 0 head_words (part 0 head_words b) (replicate record_words 0)) ≡ replicate slot_words 0
  slots_blank =
      let m : length (replicate {A = ℕ} slot_words 0) ≡ slot_words = length-replicate {A = ℕ} slot_words 0 in
      ap (part head_words slot_words) begun_is ∙ part_past head_words 0 slot_words (part 0 head_words b) (replicate slot_words 0) front_length
      ∙ rw m at (part_whole (replicate slot_words 0))

  -- the words that are filled, zeroed at first and then with the body's first words
  module _ (zeroed rec : List ℕ) (z : zeroed ≡ replicate record_words 0) (y : rec ≡ put 0 head_words (part 0 head_words b) zeroed) where
    first_put : rec ≡ put 0 head_words (part 0 head_words b) (replicate record_words 0)
    first_put = y ∙ ap (put 0 head_words (part 0 head_words b)) z

    pub refill_slots : length (take (record_words - head_words) (drop head_words rec)) ≡ slot_words
    refill_slots =
        ap length (seen head_words record_words slot_words rec refl ∙ ap (part head_words slot_words) first_put ∙ slots_blank)
        ∙ length-replicate {A = ℕ} slot_words 0

    pub filled_record : (last : List ℕ) → last ≡ refilled (bit_and n slot_mask) head_words b (take (record_words - head_words) (drop head_words rec))
        → take head_words rec ++ (last ++ drop (record_words - head_words) (drop head_words rec)) ≡ record_of b
    unfolding record_of
    filled_record last g =
        let blank : List ℕ = replicate slot_words 0 in
        let slots : List ℕ = refilled (bit_and n slot_mask) head_words b blank in
        lent_to head_words record_words slot_words (refilled (bit_and n slot_mask) head_words b) last rec refl g
        ∙ ap₂ (λ (s r : List ℕ). put head_words slot_words (refilled (bit_and n slot_mask) head_words b s) r)
        (ap (part head_words slot_words) first_put ∙ slots_blank) (first_put ∙ begun_is)
        ∙ put_at head_words slot_words (part 0 head_words b) (replicate slot_words 0)
        (refilled (bit_and n slot_mask) head_words b (replicate slot_words 0)) front_length
        ∙ ap (λ (s : List ℕ). part 0 head_words b ++ s)
        (append-nil (refilled (bit_and n slot_mask) head_words b (replicate slot_words 0)) ∙ refilled_masked n head_words b (replicate slot_words 0)
        ∙ ap (λ (k : ℕ). refilled k head_words b (replicate slot_words 0)) e)

-- ---- the record of body s, which begins at the place at and has l words

module _ (p : List ℕ) (s : ℕ) (c : contents_good p ≡ true) (h : s < bodies_in p) where
  pub loaded_length : length (saved_record p s) ≡ record_words
  unfolding saved_record
  loaded_length = record_length (page_body_at p s) (body_words_lem p (contents_of p c) s h)

  module _ (at l : ℕ) (e : at ≡ offset_at p s) (f : l ≡ length_at p s) where
    pub load_inside : at + l ≤ length p
    load_inside = let g = contents_of p c in omega (arith, g.gapless s h, g.inside s h)

    pub load_body : take (at + l - at) (drop at p) ≡ page_body_at p s
    unfolding page_body_at
    load_body = seen at (at + l) l p refl ∙ ap₂ (λ (a n : ℕ). part a n p) e f

  -- a page has few bodies
  pub load_small : s < 2 ^ 32
  load_small = omega (arith, (contents_of p c).few)

  -- what `fill_record` and `body_good` ask of it
  pub load_asks : (body : List ℕ) → body ≡ page_body_at p s → length body ≡ page_body_words (held_of body)
  load_asks body e = rw e (body_words_lem p (contents_of p c) s h)

  pub put_record : (body rec t after : List ℕ) (at : ℕ) → body ≡ page_body_at p s → rec ≡ record_of body → at ≡ base s
      → after ≡ put at record_words (part 0 record_words rec) t → after ≡ with_record s (saved_record p s) t
  unfolding with_record saved_record
  put_record body rec t after at b e a f =
      f ∙ ap₂ (λ (i : ℕ) (r : List ℕ). put i record_words r t) a
      (ap (part 0 record_words) (e ∙ ap record_of b) ∙ rw loaded_length at (part_whole (saved_record p s)))

-- the record of a body is tested in the body
pub record_in : (p body : List ℕ) (s : ℕ) (b : Bool) → body ≡ page_body_at p s → b ≡ record_good (record_of body) → b ≡ record_good_in p s
unfolding record_good_in saved_record
record_in p body s b e g = g ∙ ap (λ (x : List ℕ). record_good (record_of x)) e

-- ---- the loop that writes the records

pub record Putting (p before after : List ℕ) (n s : ℕ) : Type 0 where
  pub most : s ≤ n
  pub laid : Laid before 1 (pieces s (saved_record p)) (base s) after

pub putting_start : (p before : List ℕ) (n : ℕ) → Putting p before before n 0
putting_start p before n = record { most = omega arith; laid = laid_none before 1 (saved_record p) }

module _ (p t after : List ℕ) (n s : ℕ) (w : page_ok p ≡ true) (l : layout_words (bodies_in p) ≤ length t) (q : Putting p (set t 0 n) after n s)
    (e : n ≡ bodies_in p) where
  pub putting_kept : length after ≡ length t
  putting_kept = laid_length q.laid ∙ simp length-set

  module _ (g : s < n) where
    pub putting_contents : contents_good p ≡ true
    putting_contents = ok_tested p w

    pub putting_body : s < bodies_in p
    putting_body = omega arith

    pub putting_has : Has s after
    putting_has = omega (arith, putting_kept)

    pub putting_turn : (after' : List ℕ) → after' ≡ with_record s (saved_record p s) after → Putting p (set t 0 n) after' n (s + 1)
    unfolding with_record
    putting_turn after' f =
        let i : base s + record_words ≡ base (s + 1) = omega arith in
        record {
          most = omega arith;
          laid = laid_next s (saved_record p) q.laid
              (rw i at (laid_part after (saved_record p s) after' (base s) record_words (loaded_length p s putting_contents putting_body) putting_has f));
        }

  -- S and the records are the table
  pub table_laid : n ≤ s → after ≡ table_of p ++ drop (layout_words (bodies_in p)) t
  unfolding table_of table_from
  table_laid h =
      let i : s ≡ bodies_in p = omega (arith, q.most) in
      let k : length (bodies_in p ∷ pieces (bodies_in p) (saved_record p)) ≡ layout_words (bodies_in p) = back_length p w in
      let records : Laid (set t 0 n) 1 (pieces (bodies_in p) (saved_record p)) (base (bodies_in p)) after = rw i at q.laid in
      let first : Laid t 0 (bodies_in p ∷ []) 1 (set t 0 n) = rw e (laid_one t 0 (bodies_in p)) in
      rw k at (laid_front (then first records) (omega (arith, k)))

-- ---- the answers: k is the answer to the page, n is S, and m the words of the layout

module _ (p t : List ℕ) (k : Bool) (c : k ≡ page_ok p) where
  pub back_ill : not k ≡ true → Meets on_paper (put_back_of p t) t (Err refusals.Page) t
  unfolding put_back_of
  back_ill i = meets_err (rw (← page_tested p, ← c, not-true k i))

  module _ (i : not k ≡ false) where
    pub back_well : page_ok p ≡ true
    back_well = sym c ∙ not-false k i

    module _ (n m : ℕ) (e : n ≡ bodies_in p) (f : m ≡ layout_words n) where
      pub back_room : m ≤ length t → layout_words (bodies_in p) ≤ length t
      back_room h = omega arith

      pub back_short : length t < m → Meets on_paper (put_back_of p t) t (Err refusals.Room) t
      unfolding put_back_of
      back_short h = meets_err (rw (← page_tested p, back_well, ← e, ← f, lt-ltb (length t) m h))

      pub back_made : (after : List ℕ) → m ≤ length t → after ≡ table_of p ++ drop (layout_words (bodies_in p)) t
          → Meets on_paper (put_back_of p t) t (Ok m) after
      unfolding put_back_of
      back_made after h g =
          let r : layout_words (bodies_in p) ≡ m = ap layout_words (sym e) ∙ sym f in
          meets_ok {left = table_of p ++ drop (layout_words (bodies_in p)) t} (rw (← page_tested p, back_well, r, le-ltb (length t) m h)) g
