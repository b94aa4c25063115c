-- Right contents. The idea: the test says what `GoodContents` says in facts (`contents_of`, `of_contents`); the page of bodies whose lengths are those of
-- their held indicators has right contents (`page_contents`), and in right contents each body is as long as its held indicator says (`body_words_lem`).
use Rattle.words.proofs.Kit.{◌≡◌, sym, ap, ◌∙◌, Bool, true, List, ℕ, ◌+◌, ◌≤◌, ◌<◌, arith, eq-eqb, le-leb, eqb-true, eqb, leb, length, get_or}
use native.Mathlib.Nat.{le_of_lt, le_refl}
use borrow.Author.Tests.{leb-true}
use Rattle.words.specs.Tests.{both}
use Rattle.words.specs.All.{all}
use Rattle.words.proofs.Cases.{both_left, both_right, both_true}
use Rattle.words.proofs.AllLaws.{all_at, all_intro}
use Rattle.words.proofs.PartLaws.{get_d_part}
use Rattle.record.specs.Layout.{head_words, held_of}
use Rattle.page.specs.Body.{page_body_words}
use Rattle.page.specs.Layout.{contents_words, offset_of, page_from, bodies_in, offset_at, length_at, begins_at, page_body_at}
use Rattle.page.specs.inner.Tested.{pair_good, contents_good, GoodContents}
use Rattle.page.proofs.LayoutLaws.{offset_inside, page_length_lem, body_part, offset_at_lem, length_at_lem, begins_at_lem, body_sized}

-- ---- the test as facts

pub record GoodPair (p : List ℕ) (s : ℕ) : Type 0 where
  pub gapless : offset_at p s ≡ begins_at p s
  pub inside : begins_at p s + length_at p s ≤ length p
  pub lengths : length_at p s ≡ page_body_words (get_or p (begins_at p s + 1) 0)

pub pair_of : (p : List ℕ) (s : ℕ) → pair_good p s ≡ true → GoodPair p s
unfolding pair_good
pair_of p s e =
    let here : Bool = eqb (offset_at p s) (begins_at p s) in
    let inside : Bool = leb (begins_at p s + length_at p s) (length p) in
    let rest = both_right here _ e in
    record {
      gapless = eqb-true (offset_at p s) (begins_at p s) (both_left here _ e);
      inside = leb-true (begins_at p s + length_at p s) (length p) (both_left inside _ rest);
      lengths = eqb-true (length_at p s) _ (both_right inside _ rest);
    }

pub contents_of : (p : List ℕ) → contents_good p ≡ true → GoodContents p
unfolding contents_good
contents_of p e =
    let n : ℕ = bodies_in p in
    let pairs : Bool = all n (pair_good p) in
    let ends : Bool = eqb (begins_at p n) (length p) in
    let second : Bool = eqb (get_or p 1 0) (length p) in
    let room : Bool = leb (contents_words n) (length p) in
    let a = both_right (leb n 32) (both room (both second (both pairs ends))) e in
    let b = both_right room (both second (both pairs ends)) a in
    let c = both_right second (both pairs ends) b in
    let pair : (s : ℕ) → s < n → GoodPair p s = λ s h. pair_of p s (all_at (pair_good p) n s h (both_left pairs ends c)) in
    record {
      few = leb-true n 32 (both_left (leb n 32) (both room (both second (both pairs ends))) e);
      room = leb-true (contents_words n) (length p) (both_left room (both second (both pairs ends)) a);
      second = eqb-true (get_or p 1 0) (length p) (both_left second (both pairs ends) b);
      gapless = λ s h. (pair s h).gapless;
      inside = λ s h. (pair s h).inside;
      lengths = λ s h. (pair s h).lengths;
      ends = eqb-true (begins_at p n) (length p) (both_right pairs ends c);
    }

pub of_contents : (p : List ℕ) → GoodContents p → contents_good p ≡ true
unfolding contents_good pair_good
of_contents p g =
    both_true _ _ (le-leb (bodies_in p) 32 g.few)
    (both_true _ _ (le-leb (contents_words (bodies_in p)) (length p) g.room)
    (both_true _ _ (eq-eqb (get_or p 1 0) (length p) g.second)
    (both_true _ _
    (all_intro (pair_good p) (bodies_in p)
    (λ s h.
    both_true _ _ (eq-eqb (offset_at p s) (begins_at p s) (g.gapless s h))
    (both_true _ _ (le-leb (begins_at p s + length_at p s) (length p) (g.inside s h)) (eq-eqb (length_at p s) _ (g.lengths s h)))))
    (eq-eqb (begins_at p (bodies_in p)) (length p) g.ends))))

-- ---- a body's words, in the page

-- a body has its first words
pub words_some : (held : ℕ) → head_words ≤ page_body_words held
unfolding page_body_words
words_some held = omega arith

contents_before : (n : ℕ) (f : ℕ → List ℕ) → contents_words n ≤ offset_of n f n
unfolding offset_of
contents_before n f = omega arith

pub page_contents : (n : ℕ) (f : ℕ → List ℕ) → n ≤ 32 → ((s : ℕ) → s < n → length (f s) ≡ page_body_words (held_of (f s))) → GoodContents (page_from n f)
unfolding page_from
page_contents n f few l =
    let p : List ℕ = page_from n f in
    record {
      few = few;
      room = omega (arith, page_length_lem n f, contents_before n f);
      second = sym (page_length_lem n f);
      gapless = λ s h. offset_at_lem n f s h ∙ sym (begins_at_lem n f s (le_of_lt h));
      inside = λ s h. omega (arith, begins_at_lem n f s (le_of_lt h), length_at_lem n f s h, offset_inside n f s h, page_length_lem n f);
      lengths = λ s h.
          let w : get_or p (offset_of n f s + 1) 0 ≡ held_of (f s) =
          sym (get_d_part (offset_of n f s) (length (f s)) 1 p (omega (arith, l s h, words_some (held_of (f s)))))
          ∙ ap (λ (b : List ℕ). get_or b 1 0) (body_part n f s h) in
          length_at_lem n f s h ∙ l s h ∙ ap page_body_words (sym (ap (λ (k : ℕ). get_or p (k + 1) 0) (begins_at_lem n f s (le_of_lt h)) ∙ w));
      ends = begins_at_lem n f n (le_refl n) ∙ sym (page_length_lem n f);
    }

module _ (p : List ℕ) (g : GoodContents p) (s : ℕ) (h : s < bodies_in p) where
  body_given : length (page_body_at p s) ≡ length_at p s
  body_given = body_sized p g.room g.second g.gapless g.inside g.ends s h

  -- word i of body s
  pub word_in : (i : ℕ) → i < head_words → get_or (page_body_at p s) i 0 ≡ get_or p (offset_at p s + i) 0
  unfolding page_body_at
  word_in i k = get_d_part (offset_at p s) (length_at p s) i p (omega (arith, g.lengths s h, words_some (get_or p (begins_at p s + 1) 0)))

  pub body_words_lem : length (page_body_at p s) ≡ page_body_words (held_of (page_body_at p s))
  body_words_lem =
      body_given ∙ g.lengths s h
      ∙ ap page_body_words (ap (λ (k : ℕ). get_or p (k + 1) 0) (sym (g.gapless s h)) ∙ sym (word_in 1 (omega arith)))
