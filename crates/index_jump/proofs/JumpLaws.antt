-- How a jump answers: b is what the test of the contents found, p the packets taken in, r the answer to the landing, and space the words that it left. The
-- idea: behind PLACE a jump refuses what its landing refuses (`landed_refused`), and then ROOM; and else the landing's layout is copied into the table
-- (`jump_made`).
use Rattle.std.specs.Prelude.{Result, Ok, Err}
use Rattle.words.proofs.Kit.{◌≡◌, refl, sym, ap, ◌∙◌, Bool, true, false, not, List, [], ◌∷◌, ℕ, ◌+◌, ◌^◌, ◌≤◌, ◌<◌, arith, lt-ltb, le-ltb}
use Rattle.words.proofs.Kit.{not-true, not-false, ltb, leb, length, take}
use borrow.Author.Tests.{leb-true}
use Rattle.words.specs.Numbers.{PAGE}
use Rattle.words.specs.declared.refusals.Refusal.{Refusal}
use Rattle.words.specs.declared.refusals.Refusal.TheVariants as refusals
use Rattle.words.specs.Listed.{list_number, on_paper}
use Rattle.words.specs.Part.{part, put}
use Rattle.words.specs.Outcome.{refused, accepted, Meets}
use Rattle.words.proofs.Cases.{accepted_same}
use Rattle.words.proofs.RefusalLaws.{first_passed, first_refused}
use Rattle.words.proofs.MeetLaws.{meets_err}
use Rattle.page.specs.Layout.{bodies_in}
use Rattle.index.specs.Layout.{index_contents, packets_taken}
use Rattle.index.specs.Good.{index_good}
use Rattle.index.proofs.GoodLaws.{index_of}
use Rattle.index_jump.specs.declared.Landed.{Landed}
use Rattle.index_jump.specs.Jump.{page_before, landing_words, landing, entry_serves, jump_of}
use Rattle.index_jump.specs.inner.Steps.{Spacious, LandedIn}
use Rattle.index_jump.proofs.LandLaws.{serves_fits}

-- ---- what the tests have found

module _ (ix : List ℕ) (b : Bool) (e : b ≡ index_good ix) (i : not b ≡ false) where
  pub jump_good : index_good ix ≡ true
  jump_good = sym e ∙ not-false b i

  pub jump_whole : index_contents ≤ length ix
  jump_whole = (index_of ix jump_good).whole

pub jump_few : (ix : List ℕ) (n p : ℕ) → (p ≡ packets_taken ix) × (p < 2 ^ 32) → n ≤ p → n ≤ packets_taken ix
jump_few ix n p f h = omega (arith, f.0)

-- c is whether the entry's page was found to have few streams
pub jump_few_streams : (ix : List ℕ) (n : ℕ) (c : Bool) → c ≡ leb (bodies_in (page_before ix n)) 4 → c ≡ true → bodies_in (page_before ix n) ≤ 4
jump_few_streams ix n c e f = leb-true (bodies_in (page_before ix n)) 4 (sym e ∙ f)

-- ---- the answers

-- what is said of the landing alone
abbrev says : List ℕ → ℕ → List ℕ → ℕ → Landed
says ws first ix n = record { length = landing_words ix n; place = first + (landing ws first ix n).place }

module _ (ws : List ℕ) (first : ℕ) (ix : List ℕ) (n : ℕ) (space : List ℕ) (d : Landed) (l : LandedIn ws first ix n (Ok d) space)
  where
    landed_is : (entry_serves ws first ix n ≡ true) × (says ws first ix n ≡ d)
    landed_is =
        let y = first_passed ((PAGE, not (entry_serves ws first ix n)) ∷ []) (accepted (says ws first ix n)) d (sym l.answer) in
        (not-false (entry_serves ws first ix n) y.0.0, accepted_same y.1)

    landed_long : landing_words ix n ≡ d.length
    landed_long = ap (λ (x : Landed). x.length) landed_is.1

-- what copying asks: the landing leaves as many words as it was lent
pub jump_inside : (lent ws : List ℕ) (first : ℕ) (ix : List ℕ) (n : ℕ) (space : List ℕ) (d : Landed) → LandedIn ws first ix n (Ok d) space
    → Spacious ix n (length lent) → length space ≡ length lent → 0 + d.length ≤ length space
jump_inside lent ws first ix n space d l s e =
    omega (arith, e, landed_long ws first ix n space d l, serves_fits ws first ix n (landed_is ws first ix n space d l).0 (length lent) s)

module _ (ws : List ℕ) (first : ℕ) (ix : List ℕ) (n : ℕ) (t : List ℕ) where
  module _ (b : Bool) (e : b ≡ index_good ix) where
    pub jump_ill : not b ≡ true → Meets on_paper (jump_of ws first ix n t) t (Err refusals.Page) t
    unfolding jump_of
    jump_ill i = meets_err (rw (← e, not-true b i))

    module _ (i : not b ≡ false) where
      good : index_good ix ≡ true
      good = jump_good ix b e i

      module _ (p : ℕ) (f : (p ≡ packets_taken ix) × (p < 2 ^ 32)) where
        pub jump_past : p < n → Meets on_paper (jump_of ws first ix n t) t (Err refusals.Place) t
        unfolding jump_of
        jump_past h = meets_err (rw (good, ← f.0, lt-ltb p n h))

  -- behind PLACE
  module _ (good : index_good ix ≡ true) (few : n ≤ packets_taken ix) (space : List ℕ) where
    here : ltb (packets_taken ix) n ≡ false
    here = le-ltb (packets_taken ix) n few

    pub landed_refused : (r : Refusal) → LandedIn ws first ix n (Err r) space → Meets on_paper (jump_of ws first ix n t) t (Err r) t
    unfolding jump_of
    landed_refused r l =
        let no = first_refused ((PAGE, not (entry_serves ws first ix n)) ∷ []) (says ws first ix n) (list_number r) _ (sym l.answer) in
        meets_err (rw (good, here) no)

    module _ (d : Landed) (l : LandedIn ws first ix n (Ok d) space) where
      serves : entry_serves ws first ix n ≡ true
      serves = (landed_is ws first ix n space d l).0

      long : landing_words ix n ≡ d.length
      long = landed_long ws first ix n space d l

      pub jump_short : length t < d.length → Meets on_paper (jump_of ws first ix n t) t (Err refusals.Room) t
      unfolding jump_of
      jump_short g = meets_err (rw (good, here, serves, long, lt-ltb (length t) d.length g))

      pub jump_made : (last : List ℕ) → d.length ≤ length t → last ≡ put 0 d.length (part 0 d.length space) t
          → Meets on_paper (jump_of ws first ix n t) t (Ok d) last
      unfolding jump_of put part
      jump_made last g c =
          let fits : ltb (length t) (landing_words ix n) ≡ false = le-ltb (length t) (landing_words ix n) (omega (arith, long)) in
          let front : take d.length space ≡ (landing ws first ix n).table = rw long at (l.table serves) in
          record {
            answer = rw (good, here, serves, fits) (ap accepted (sym (landed_is ws first ix n space d l).1));
            buffer = c ∙ rw (good, here, serves, fits, long, front);
          }
