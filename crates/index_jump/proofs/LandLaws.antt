-- How a landing goes. The idea: an entry serves where its page is well made, its boundary stands in the words, and the packets from there to n are there; each
-- of these that fails is PAGE (`unserved`). The words that are lent have room for the table of a page that is well made, so putting it back never lacks room
-- (`page_put`); such a page has at most 32 bodies (`space_most`).
use Rattle.std.specs.Prelude.{Ok, Err}
use Rattle.words.proofs.Kit.{◌≡◌, refl, sym, ap, ◌∙◌, true, false, ⊎_elim, List, [], ◌++◌, ℕ, ◌+◌, ◌-◌, ◌/◌, ◌%◌, ◌^◌, ◌≤◌, ◌<◌, arith}
use Rattle.words.proofs.Kit.{le-ltb, le-leb, lt-leb, not-false, leb, length, take, drop, get_or}
use native.Mathlib.Nat.{sub-zero, mod-lt}
use lib.ListN.{length-append}
use lib.Seq.{take_at}
use mathlib.Core.List.{append-nil}
use Rattle.words.specs.Numbers.{PAGE}
use Rattle.words.specs.declared.refusals.Refusal.{Refusal}
use Rattle.words.specs.declared.refusals.Refusal.TheVariants as refusals
use Rattle.words.specs.Listed.{list_number, on_paper}
use Rattle.words.specs.Outcome.{Outcome, refused, accepted, Meets}
use Rattle.words.proofs.Cases.{true_or_false, true_is_false, both_no, both_left}
use Rattle.words.proofs.RefusalLaws.{first_passed}
use Rattle.words.proofs.MeetLaws.{meets_accepted}
use Rattle.table.specs.Layout.{layout_words}
use Rattle.table.specs.Well.{well_made}
use Rattle.page.specs.Layout.{bodies_in, table_of}
use Rattle.page.specs.Good.{page_good}
use Rattle.page.specs.PutBack.{put_back_list, put_back_of}
use Rattle.page.proofs.Exact.{ok_contents, back_length, table_well, page_tested}
use Rattle.index.specs.Layout.{most_entries, packets_taken, entries_in, entry_place, page_in}
use Rattle.index.specs.Good.{index_good}
use Rattle.index.proofs.GoodLaws.{index_of}
use Rattle.index_jump.specs.Onward.{Behind, behind_packets}
use Rattle.index_jump.specs.Jump.{page_before, landing_words, stands_in, landing, entry_serves}
use Rattle.index_jump.specs.inner.Steps.{WalkedTo, Spacious, LandedIn}
use Rattle.index_jump.proofs.WalkLaws.{not_reached, all_reached}
use Rattle.index_jump.proofs.BehindLaws.{behind_most, behind_kept}

-- ---- the entry before packet n

module _ (ix : List ℕ) (n : ℕ) (good : index_good ix ≡ true) (few : n ≤ packets_taken ix) where
  pub entry_there : n / 1024 < entries_in ix
  entry_there = omega (arith, (index_of ix good).entries)

  pub entry_low : n / 1024 < most_entries
  entry_low = omega (arith, entry_there, (index_of ix good).few)

  -- the word place behind at most 1,023 packets more than its own is far below 2 ^ 64
  far_below : (first place at : ℕ) (ws t : List ℕ) → place ≡ entry_place ix (n / 1024) → first ≤ place
      → at ≡ (behind_packets (n % 1024) ws (place - first) t).place → first + at < 2 ^ 64
  far_below first place at ws t e h f =
      let most = behind_most (n % 1024) ws (place - first) t in
      let less : n % 1024 < 1024 = mod-lt n (omega arith) in
      omega (arith, f, most, e, (index_of ix good).places (n / 1024) entry_there, (index_of ix good).few, entry_there)

  -- its page says how many streams there are
  pub few_said : (p : List ℕ) → p ≡ page_in ix (n / 1024) → (w : ℕ) → w ≡ get_or p 0 0 → leb w 4 ≡ leb (bodies_in (page_before ix n)) 4
  few_said p e w f = rw (f, e)

-- ---- the words that a landing has: room for the table of a page of few streams, and of any

pub space_few : (ix : List ℕ) (n : ℕ) → bodies_in (page_before ix n) ≤ 4 → Spacious ix n 357
space_few ix n h = record { fits = λ _. omega (arith, h) }

pub space_most : (ix : List ℕ) (n : ℕ) → Spacious ix n 2849
space_most ix n = record { fits = λ g. omega (arith, (ok_contents (page_before ix n) (page_tested (page_before ix n) ∙ g)).few) }

-- ---- its page, put back

module _ (p space : List ℕ) (fits : page_good p ≡ true → layout_words (bodies_in p) ≤ length space) where
  page_put : page_good p ≡ true
      → put_back_of p space ≡ accepted (record { says = layout_words (bodies_in p); leaves = table_of p ++ drop (layout_words (bodies_in p)) space })
  unfolding put_back_of
  page_put g = rw (g, le-ltb (length space) (layout_words (bodies_in p)) (fits g))

  -- what is refused is a page that is not well made, as PAGE
  put_ill : (r : Refusal) (mid : List ℕ) → Meets on_paper (put_back_of p space) space (Err r) mid → (page_good p ≡ false) × (list_number r ≡ PAGE)
  unfolding put_back_of
  put_ill r mid m =
      ⊎_elim
      (λ (g : page_good p ≡ true).
      let z : refused (list_number r) ≡ accepted (layout_words (bodies_in p)) = m.answer ∙ rw (page_put g) in
      let x : ◌≡◌ {A = ℕ} 0 1 = cc in
      absurd (omega arith))
      (λ (g : page_good p ≡ false).
      let z : ◌≡◌ {A = Outcome ℕ} (refused (list_number r)) (refused PAGE) = m.answer ∙ rw g in
      (g, cc))
      (true_or_false (page_good p))

  put_made : (k : ℕ) (mid : List ℕ) → Meets on_paper (put_back_of p space) space (Ok k) mid
      → (page_good p ≡ true) × (layout_words (bodies_in p) ≡ k) × (mid ≡ table_of p ++ drop (layout_words (bodies_in p)) space)
  unfolding put_back_of
  put_made k mid m =
      let w = meets_accepted m refl in
      let q = first_passed (put_back_list p space) _ w.done w.wants in
      let g : page_good p ≡ true = not-false (page_good p) q.0.0 in
      let d : accepted w.done ≡ accepted (record { says = layout_words (bodies_in p); leaves = table_of p ++ drop (layout_words (bodies_in p)) space }) =
      sym w.wants ∙ page_put g in
      (g, cc, cc)

-- ---- what is said of the entry

module _ (ws : List ℕ) (first : ℕ) (ix : List ℕ) (n : ℕ) where
  abbrev page : List ℕ
  page = page_in ix (n / 1024)

  unserved : (r : Refusal) (left : List ℕ) → list_number r ≡ PAGE → entry_serves ws first ix n ≡ false → LandedIn ws first ix n (Err r) left
  unserved r left p e = record { answer = rw (p, e); table = λ f. absurd (true_is_false (sym f ∙ e)) }

  serves_no_page : page_good (page_in ix (n / 1024)) ≡ false → entry_serves ws first ix n ≡ false
  unfolding entry_serves
  serves_no_page e = rw e

  pub serves_nowhere : stands_in ws first (entry_place ix (n / 1024)) ≡ false → entry_serves ws first ix n ≡ false
  unfolding entry_serves
  serves_nowhere e = rw e (both_no (page_good page))

  serves_short : (landing ws first ix n).all ≡ false → entry_serves ws first ix n ≡ false
  unfolding entry_serves
  serves_short e = rw (e, both_no (stands_in ws first (entry_place ix (n / 1024)))) (both_no (page_good page))

  -- where it serves, there is room for its table
  pub serves_fits : entry_serves ws first ix n ≡ true → (room : ℕ) → Spacious ix n room → landing_words ix n ≤ room
  unfolding entry_serves
  serves_fits e room s = s.fits (both_left (page_good page) _ e)

  -- its page is p, and is put back into the words that are lent
  module _ (p space mid : List ℕ) (e : p ≡ page_in ix (n / 1024)) (s : Spacious ix n (length space)) where
    fits : page_good p ≡ true → layout_words (bodies_in p) ≤ length space
    fits g = rw e (s.fits (rw (← e) g))

    pub land_unput : (r : Refusal) → Meets on_paper (put_back_of p space) space (Err r) mid → LandedIn ws first ix n (Err r) mid
    land_unput r m =
        let ill = put_ill p space fits r mid m in
        unserved r mid ill.1 (serves_no_page (rw e at ill.0))

    module _ (k : ℕ) (m : Meets on_paper (put_back_of p space) space (Ok k) mid) where
      made : (page_good p ≡ true) × (layout_words (bodies_in p) ≡ k) × (mid ≡ table_of p ++ drop (layout_words (bodies_in p)) space)
      made = put_made p space fits k mid m

      table_long : length (table_of p) ≡ k
      table_long = back_length p (page_tested p ∙ made.0) ∙ made.1

      -- the table stands at the front
      pub land_room : k ≤ length mid
      land_room = omega (arith, table_long, ap length made.2, length-append (table_of p) (drop (layout_words (bodies_in p)) space))

      front : take (k - 0) mid ≡ table_of p
      front = ap (λ (i : ℕ). take i mid) (sub-zero k) ∙ ap (take k) made.2 ∙ take_at (table_of p) (drop (layout_words (bodies_in p)) space) k table_long

      pub land_well : well_made (take (k - 0) mid) ≡ true
      land_well = ap well_made (front ∙ sym (append-nil (table_of p))) ∙ table_well p (page_tested p ∙ made.0) []

      -- its boundary is at a place
      module _ (place : ℕ) (g : place ≡ entry_place ix (n / 1024)) where
        pub land_early : place < first → LandedIn ws first ix n (Err refusals.Page) mid
        land_early h = unserved refusals.Page mid refl (serves_nowhere (rw (← g, lt-leb first place h)))

        pub land_far : length ws < place - first → LandedIn ws first ix n (Err refusals.Page) mid
        land_far h = unserved refusals.Page mid refl (serves_nowhere (rw (← g, lt-leb (place - first) (length ws) h) (both_no (leb first place))))

        -- the packets from there on are walked over
        module _ (here : first ≤ place) (inside : place - first ≤ length ws) (left : List ℕ) where
          abbrev walked : Behind
          walked = behind_packets (n % 1024) ws (place - first) (take (k - 0) mid)

          landing_is : landing ws first ix n ≡ behind_packets (n % 1024) ws (place - first) (take (k - 0) mid)
          unfolding landing
          landing_is = rw (front, g, e)

          pub land_short : (r : Refusal) → WalkedTo (behind_packets (n % 1024) ws (place - first) (take (k - 0) mid)) (Err r) left
              → LandedIn ws first ix n (Err r) (left ++ drop (k - 0) mid)
          land_short r w =
              let no = not_reached walked r w.answer in
              unserved r (left ++ drop (k - 0) mid) no.1 (serves_short (ap (λ (b : Behind). b.all) landing_is ∙ no.0))

          module _ (at : ℕ) (w : WalkedTo (behind_packets (n % 1024) ws (place - first) (take (k - 0) mid)) (Ok at) left) where
            come : ((behind_packets (n % 1024) ws (place - first) (take (k - 0) mid)).all ≡ true)
                × ((behind_packets (n % 1024) ws (place - first) (take (k - 0) mid)).place ≡ at)
            come = all_reached walked at w.answer

            pub land_small : index_good ix ≡ true → n ≤ packets_taken ix → first + at < 2 ^ 64
            land_small good few = far_below ix n good few first place at ws (take (k - 0) mid) g here (sym come.1)

            serves : entry_serves ws first ix n ≡ true
            unfolding entry_serves
            serves =
                rw (← e, made.0, ← g, le-leb first place here, le-leb (place - first) (length ws) inside) (ap (λ (b : Behind). b.all) landing_is ∙ come.0)

            table_left : length left ≡ k
            table_left =
                ap length (w.table come.0) ∙ (behind_kept (n % 1024) ws (place - first) (take (k - 0) mid)).whole ∙ ap length front ∙ table_long

            pub land_made : LandedIn ws first ix n (Ok (record { length = k; place = first + at })) (left ++ drop (k - 0) mid)
            land_made =
                let words : landing_words ix n ≡ k = rw (← e) made.1 in
                record {
                  answer = rw (serves, words, landing_is, come.1);
                  table = λ _. rw (words, landing_is) (take_at left (drop (k - 0) mid) k table_left ∙ w.table come.0);
                }
