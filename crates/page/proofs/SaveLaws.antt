-- How saving goes. The idea: after s streams the length is the offset of body s (`Summing`), and a body's length is that of the held indicator in its record;
-- the pairs and the bodies are pieces laid one after the other (`Pairing`, `Laying`), in one pass: a pair stands before the bodies, so writing it leaves them
-- (`Saving`).
use Rattle.std.specs.Prelude.{Ok, Err}
use Rattle.words.proofs.Kit.{◌≡◌, refl, sym, ap, ap₂, ◌∙◌, Bool, true, false, not, List, [], ◌∷◌, ◌++◌, ℕ, ◌+◌, ◌-◌, ◌^◌, ◌≤◌, ◌<◌, arith, lt-ltb}
use Rattle.words.proofs.Kit.{le-ltb, not-true, not-false, ltb, length, get_or, take, drop, set}
use native.Mathlib.Numerals.{add-one}
use lib.Bits.{bit_and}
use lib.ListN.{length-set}
use Rattle.words.specs.Numbers.{TABLE, SIZE, ROOM}
use Rattle.words.specs.declared.refusals.Refusal.{Refusal}
use Rattle.words.specs.declared.refusals.Refusal.TheVariants as refusals
use Rattle.words.specs.Listed.{list_number, on_paper}
use Rattle.words.specs.Outcome.{refused, accepted, Meets}
use Rattle.words.specs.Part.{part, put}
use Rattle.words.specs.SetBits.{bits_of}
use Rattle.words.specs.Laid.{Laid}
use Rattle.words.proofs.Cases.{accepted_same}
use Rattle.words.proofs.RefusalLaws.{first_passed, first_refused}
use Rattle.words.proofs.MeetLaws.{meets_err, meets_ok}
use Rattle.words.proofs.LaidLaws.{then, laid_length}
use Rattle.words.proofs.PartLaws.{seen, get_d_part, part_length}
use Rattle.fields.specs.Sizes.{sizes_of}
use Rattle.record.specs.Held.{slot_mask}
use Rattle.record.specs.Layout.{head_words, slot_words, record_words, held_of, slots_of}
use Rattle.record.specs.After.{held_words}
use Rattle.record.specs.Good.{record_good}
use Rattle.table.specs.Layout.{streams_of, base, record_at}
use Rattle.table.specs.Well.{well_made}
use Rattle.table.proofs.RecordLaws as Records
use Rattle.table.proofs.WellLaws.{layout_has, well_whole, well_few, well_record}
use Rattle.words.specs.Pieces.{pieces}
use Rattle.page.specs.Body.{page_body, page_body_words}
use Rattle.page.specs.Layout.{contents_words, pair_at, offset_of, pair_of, page_from, saved_body, pairs_of, bodies_of, bodies_from, page_of, page_length}
use Rattle.page.specs.Layout.{most_words}
use Rattle.page.specs.Save.{size_limit, length_list, length_of, save_of}
use Rattle.record.proofs.HoldLaws.{held_within}
use Rattle.page.proofs.BodyLaws.{good_within, body_length_lem}
use Rattle.page.proofs.LayoutLaws.{offset_first, offset_next, offset_inside}
use Rattle.page.proofs.Bounds.{page_between, page_small, page_whole}
use Rattle.page.proofs.WriteLaws.{laid_part, laid_two, laid_before, laid_none, laid_next, laid_front}

-- ---- the loop that adds the bodies' lengths

pub record Summing (t : List ℕ) (n s total : ℕ) : Type 0 where
  pub most : s ≤ n
  pub sum : total ≡ offset_of (streams_of t) (saved_body t) s

module _ (t : List ℕ) (w : well_made t ≡ true) where
  -- the held indicator of stream s is the second word of its record
  pub held_length : (s : ℕ) → s < streams_of t → length (saved_body t s) ≡ page_body_words (get_or t (base s + 1) 0)
  unfolding saved_body record_at
  held_length s h =
      body_length_lem (record_at s t) (Records.record_length s t (layout_has t s (well_whole t w) h)) (well_record t w s h)
      ∙ ap page_body_words (get_d_part (base s) record_words 1 t (omega arith))

  -- n is S
  pub held_inside : (n s at : ℕ) → n ≡ streams_of t → s < n → at ≡ base s → at + 1 < length t
  held_inside n s at e h a = omega (arith, well_whole t w)

  pub summing_start : (n total : ℕ) → n ≡ streams_of t → total ≡ contents_words n → Summing t n 0 total
  summing_start n total e f = record { most = omega arith; sum = f ∙ ap contents_words e ∙ sym (offset_first (streams_of t) (saved_body t)) }

  -- k is the length of the body whose record begins at the place at
  module _ (n s total at k : ℕ) (p : Summing t n s total) (e : n ≡ streams_of t) (h : s < n) (a : at ≡ base s)
      (l : k ≡ page_body_words (get_or t (at + 1) 0)) where
    abbrev here : s < streams_of t
    here = omega arith

    length_held : k ≡ length (saved_body t s)
    length_held = l ∙ ap (λ (b : ℕ). page_body_words (get_or t (b + 1) 0)) a ∙ sym (held_length s here)

    pub summing_turn : Summing t n (s + 1) (total + k)
    summing_turn = record {
      most = omega arith;
      sum = rw (add-one s) (omega (arith, p.sum, offset_next (streams_of t) (saved_body t) s, length_held));
    }

    pub summing_most : total + k ≤ most_words
    unfolding page_length
    summing_most = omega (arith, p.sum, length_held, offset_inside (streams_of t) (saved_body t) s here, page_small t w)

    pub summing_small : total + k < 2 ^ 64
    summing_small = omega (arith, summing_most)

  module _ (n s total : ℕ) (p : Summing t n s total) (e : n ≡ streams_of t) (h : n ≤ s) where
    pub summing_end : total ≡ page_length t
    unfolding page_length
    summing_end = let i : s ≡ streams_of t = omega (arith, p.most) in p.sum ∙ ap (offset_of (streams_of t) (saved_body t)) i

    pub summing_within : total ≤ most_words
    summing_within = omega (arith, summing_end, page_small t w)

-- ---- a body

-- what `write_body` asks, and what its two writers leave
module _ (r page : List ℕ) (at : ℕ) (l : length r ≡ record_words) (g : record_good r ≡ true) (h : at + length (page_body r) ≤ length page) where
  body_room : at + page_body_words (held_of r) ≤ length page
  body_room = omega (arith, h, body_length_lem r l g)

  pub head_room : at + head_words ≤ length page
  unfolding page_body_words
  head_room = omega (arith, body_room)

  head_laid : (page' : List ℕ) → page' ≡ put at head_words (part 0 head_words r) page → Laid page at (part 0 head_words r) (at + head_words) page'
  head_laid page' e = laid_part page (part 0 head_words r) page' at head_words (part_length 0 head_words r (omega arith)) head_room e

  slots_seen : take (record_words - head_words) (drop head_words r) ≡ slots_of r
  unfolding slots_of
  slots_seen = seen head_words record_words slot_words r refl

  pub squeeze_held : bit_and (held_of r) slot_mask ≡ held_of r
  squeeze_held = held_within (held_of r) (good_within r g)

  pub squeeze_room : (page' : List ℕ) → page' ≡ put at head_words (part 0 head_words r) page
      → at + head_words + sizes_of (bits_of 31 (held_of r)) ≤ length page'
  unfolding page_body_words
  squeeze_room page' e = omega (arith, body_room, laid_length (head_laid page' e))

  pub body_laid : (page' page'' : List ℕ) (to : ℕ) → page' ≡ put at head_words (part 0 head_words r) page
      → Laid page' (at + head_words) (held_words (held_of r) (take (record_words - head_words) (drop head_words r))) to page''
      → Laid page at (page_body r) to page''
  unfolding page_body
  body_laid page' page'' to e p = then (head_laid page' e) (rw slots_seen at p)

-- ---- the pairs

pub record Pairing (t before after : List ℕ) (n s at : ℕ) : Type 0 where
  pub sums : Summing t n s at
  pub laid : Laid before 2 (pieces s (pair_of (streams_of t) (saved_body t))) (pair_at s) after

-- ---- the bodies

pub record Laying (t before after : List ℕ) (n s at : ℕ) : Type 0 where
  pub most : s ≤ n
  pub laid : Laid before (bodies_from t) (pieces s (saved_body t)) at after

-- ---- the loop that writes both: the pairs are laid in `before`, and the bodies in what that leaves

pub record Saving (t before after : List ℕ) (n s at : ℕ) : Type 0 where
  pub mid : List ℕ
  pub pairs : Pairing t before mid n s at
  pub bodies : Laying t mid after n s at

module _ (t before : List ℕ) (w : well_made t ≡ true) (h : page_length t ≤ length before) where
  pairing_start : (n at : ℕ) → n ≡ streams_of t → at ≡ contents_words n → Pairing t before before n 0 at
  pairing_start n at e f = record { sums = summing_start t w n at e f; laid = laid_none before 2 (pair_of (streams_of t) (saved_body t)) }

  module _ (after : List ℕ) (n s at from : ℕ) (p : Pairing t before after n s at) (e : n ≡ streams_of t) (g : s < n) (a : from ≡ base s) where
    pairing_room : pair_at s + 1 < length after
    pairing_room = omega (arith, laid_length p.laid, (page_between t w).0)

    pairing_turn : (k : ℕ) → k ≡ page_body_words (get_or t (from + 1) 0)
        → Pairing t before (set (set after (pair_at s) at) (pair_at s + 1) k) n (s + 1) (at + k)
    unfolding pair_of
    pairing_turn k l =
        let j : pair_at s + 2 ≡ pair_at (s + 1) = omega arith in
        let pair : (at ∷ k ∷ []) ≡ pair_of (streams_of t) (saved_body t) s =
        ap₂ (λ (x y : ℕ). x ∷ y ∷ []) p.sums.sum (length_held t w n s at from k p.sums e g a l) in
        record {
          sums = summing_turn t w n s at from k p.sums e g a l;
          laid = laid_next s (pair_of (streams_of t) (saved_body t)) p.laid (rw (j, pair) at (laid_two after (pair_at s) at k));
        }

  pairing_end : (after : List ℕ) (n s at : ℕ) → n ≡ streams_of t → Pairing t before after n s at → n ≤ s
      → Laid before 2 (pairs_of t) (bodies_from t) after
  pairing_end after n s at e p g = let i : s ≡ streams_of t = omega (arith, p.sums.most) in rw i at p.laid

  laying_start : (n at : ℕ) → n ≡ streams_of t → at ≡ contents_words n → Laying t before before n 0 at
  laying_start n at e f = record { most = omega arith; laid = rw (f, e) (laid_none before (bodies_from t) (saved_body t)) }

  -- r is the record of stream s
  module _ (after : List ℕ) (n s at : ℕ) (r : List ℕ) (p : Laying t before after n s at) (e : n ≡ streams_of t) (g : s < n) (a : r ≡ record_at s t) where
    laying_asks : (length r ≡ record_words) × (record_good r ≡ true) × (at + length (page_body r) ≤ length after)
    unfolding saved_body page_length offset_of
    laying_asks =
        let i : s < streams_of t = omega arith in
        rw a (
          Records.record_length s t (layout_has t s (well_whole t w) i),
          well_record t w s i,
          omega (arith, h, p.laid.past, laid_length p.laid, offset_inside (streams_of t) (saved_body t) s i),
        )

    laying_turn : (after' : List ℕ) (to : ℕ) → Laid after at (page_body r) to after' → Laying t before after' n (s + 1) to
    unfolding saved_body
    laying_turn after' to q = record { most = omega arith; laid = laid_next s (saved_body t) p.laid (rw a at q) }

  laying_end : (after : List ℕ) (n s at : ℕ) → n ≡ streams_of t → Laying t before after n s at → n ≤ s
      → Laid before (bodies_from t) (bodies_of t) (page_length t) after
  unfolding page_length offset_of
  laying_end after n s at e p g =
      let i : s ≡ streams_of t = omega (arith, p.most) in
      let q : Laid before (bodies_from t) (bodies_of t) at after = rw i at p.laid in
      rw q.past at q

module _ (t before : List ℕ) (w : well_made t ≡ true) (h : page_length t ≤ length before) where
  pub saving_start : (n at : ℕ) → n ≡ streams_of t → at ≡ contents_words n → Saving t before before n 0 at
  saving_start n at e f = record { mid = before; pairs = pairing_start t before w h n at e f; bodies = laying_start t before w h n at e f }

  -- r is the record of stream s
  module _ (after : List ℕ) (n s at : ℕ) (r : List ℕ) (p : Saving t before after n s at) (e : n ≡ streams_of t) (g : s < n) (a : r ≡ record_at s t) where
    mid_room : page_length t ≤ length p.mid
    mid_room = omega (arith, laid_length p.pairs.laid)

    pub record_long : length r ≡ record_words
    record_long = (laying_asks t p.mid w mid_room after n s at r p.bodies e g a).0

    pub record_held : record_good r ≡ true
    record_held = (laying_asks t p.mid w mid_room after n s at r p.bodies e g a).1

    pub body_placed : at + length (page_body r) ≤ length after
    body_placed = (laying_asks t p.mid w mid_room after n s at r p.bodies e g a).2

    -- the body is written
    module _ (after' : List ℕ) (to : ℕ) (q : Laid after at (page_body r) to after') where
      length_is : to - at ≡ page_body_words (get_or t (base s + 1) 0)
      unfolding saved_body
      length_is =
          let l : length (page_body r) ≡ length (saved_body t s) = ap (λ (x : List ℕ). length (page_body x)) a in
          omega (arith, q.past, l, held_length t w s (omega arith))

      pub pair_asks : (s < 32) × (pair_at s + 1 < length after') × (at + (to - at) ≤ most_words)
      pair_asks = (
        omega (arith, well_few t w),
        omega (arith, pairing_room t before w h p.mid n s at (base s) p.pairs e g refl, laid_length p.bodies.laid, laid_length q),
        summing_most t w n s at (base s) (to - at) p.pairs.sums e g refl length_is,
      )

      pub saving_turn : (after'' : List ℕ) → after'' ≡ set (set after' (pair_at s) at) (pair_at s + 1) (to - at) → Saving t before after'' n (s + 1) to
      saving_turn after'' f =
          let sum : at + (to - at) ≡ to = omega (arith, q.past) in
          let next = laying_turn t p.mid w mid_room after n s at r p.bodies e g a after' to q in
          rw f (record {
            mid = set (set p.mid (pair_at s) at) (pair_at s + 1) (to - at);
            pairs = rw sum at (pairing_turn t before w h p.mid n s at (base s) p.pairs e g refl (to - at) length_is);
            bodies = record {
              most = next.most;
              laid = laid_before (pair_at s + 1) (to - at) (laid_before (pair_at s) at next.laid (omega arith))
                  (omega arith);
            };
          })

  pub saving_length : {after : List ℕ} {n s at : ℕ} → Saving t before after n s at → length after ≡ length before
  saving_length p = laid_length p.bodies.laid ∙ laid_length p.pairs.laid

  pub saving_end : (after : List ℕ) (n s at : ℕ) → Saving t before after n s at → n ≡ streams_of t → n ≤ s
      → Laid before 2 (pairs_of t ++ bodies_of t) (page_length t) after
  saving_end after n s at p e g =
      then (pairing_end t before w h p.mid n s at e p.pairs g)
      (laying_end t p.mid w (omega (arith, laid_length p.pairs.laid)) after n s at e p.bodies g)

-- two words are written, one behind the other
pub pair_written : (page : List ℕ) (s at x y : ℕ) → at ≡ pair_at s → set (set page at x) (at + 1) y ≡ set (set page (pair_at s) x) (pair_at s + 1) y
pair_written page s at x y e = rw e

-- ---- the page whose size is known

module _ (t before : List ℕ) (size : ℕ) (w : well_made t ≡ true) (f : size ≡ page_length t) where
  pub size_small : size < 2 ^ 32
  size_small = omega (arith, page_small t w)

  module _ (h : size ≤ length before) where
    pub page_some : 0 < length before
    page_some = omega (arith, (page_between t w).0)

    pub page_more : (n : ℕ) → 1 < length (set before 0 n)
    page_more n = simp length-set (omega (arith, (page_between t w).0))

    pub page_room : (n : ℕ) → page_length t ≤ length (set (set before 0 n) 1 size)
    page_room n = simp length-set (omega arith)

    -- S, the length, the pairs and the bodies are the page
    module _ (n : ℕ) (after : List ℕ) (p : Laid (set (set before 0 n) 1 size) 2 (pairs_of t ++ bodies_of t) (page_length t) after) where
      pub page_kept : length after ≡ length before
      page_kept = laid_length p ∙ simp length-set

      pub page_laid : n ≡ streams_of t → after ≡ page_of t ++ drop (page_length t) before
      unfolding page_of page_from page_length
      page_laid e =
          let l = page_whole t w in
          let first : Laid before 0 (streams_of t ∷ page_length t ∷ []) 2 (set (set before 0 n) 1 size) = rw (e, f)
          (laid_two before 0 (streams_of t) (page_length t)) in
          rw l at (laid_front (then first p) (omega (arith, h, l)))

-- ---- the answers of the length, b being the answer of `well_made`

module _ (t : List ℕ) (b : Bool) (e : b ≡ well_made t) where
  pub length_ill : not b ≡ true → refused TABLE ≡ length_of t
  unfolding length_of
  length_ill i = rw (← e, not-true b i)

  module _ (i : not b ≡ false) where
    pub made_well : well_made t ≡ true
    made_well = sym e ∙ not-false b i

    pub length_over : (n : ℕ) → n ≡ page_length t → size_limit < n → refused SIZE ≡ length_of t
    unfolding length_of
    length_over n f h = rw (made_well, ← f, lt-ltb size_limit n h)

    pub length_fine : (n : ℕ) → n ≡ page_length t → n ≤ size_limit → accepted n ≡ length_of t
    unfolding length_of
    length_fine n f h = rw (made_well, ← f, le-ltb size_limit n h)

-- an accepted length
pub length_well : (t : List ℕ) (n : ℕ) → length_of t ≡ accepted n → (well_made t ≡ true) × (n ≡ page_length t)
unfolding length_of
length_well t n e =
    let a = first_passed (length_list t) _ n e in
    (not-false _ a.0.0, sym (accepted_same a.1))

-- ---- the answers of saving

-- what the length refuses, saving refuses
pub save_refused : (t page : List ℕ) (r : Refusal) → refused (list_number r) ≡ length_of t → Meets on_paper (save_of t page) page (Err r) page
unfolding length_of save_of
save_refused t page r e = meets_err (first_refused (length_list t) (page_length t) (list_number r) _ (sym e))

module _ (t : List ℕ) (n : ℕ) (e : accepted n ≡ length_of t) where
  pub save_well : well_made t ≡ true
  save_well = (length_well t n (sym e)).0

  pub save_length : n ≡ page_length t
  save_length = (length_well t n (sym e)).1

  fits_size : ltb size_limit (page_length t) ≡ false
  fits_size = le-ltb size_limit (page_length t) (omega (arith, page_small t save_well))

  pub save_short : (page : List ℕ) → length page < n → Meets on_paper (save_of t page) page (Err refusals.Room) page
  unfolding save_of
  save_short page h = meets_err (rw (save_well, fits_size, ← save_length, lt-ltb (length page) n h))

  pub save_made : (page after : List ℕ) → n ≤ length page → after ≡ page_of t ++ drop (page_length t) page
      → Meets on_paper (save_of t page) page (Ok n) after
  unfolding save_of
  save_made page after h l =
      let q : ltb (length page) (page_length t) ≡ false = le-ltb (length page) (page_length t) (omega (arith, save_length)) in
      meets_ok (rw (save_well, fits_size, q, save_length)) l
