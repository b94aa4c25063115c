-- A jump to the boundary of an entry. The idea: no packet is played behind it, so that the landing is the page's table itself (`landing_there`); and where the
-- boundary stands in the words, a jump answers what putting the page back answers, with the entry's word place (`jump_put`).
use Rattle.std.specs.Prelude.{Ok, Err}
use Rattle.words.proofs.Kit.{◌≡◌, refl, sym, ap, ◌∙◌, true, false, ⊎_elim, List, ℕ, ◌+◌}
use Rattle.words.proofs.Kit.{◌-◌, ◌/◌, ◌%◌, ◌≤◌, ◌<◌, arith, le-ltb, le-leb, lt-leb, ltb, leb, length}
use Rattle.words.specs.declared.refusals.Refusal.{Refusal}
use Rattle.words.specs.declared.refusals.Refusal.TheVariants as refusals
use Rattle.words.specs.Listed.{list_number, on_paper}
use Rattle.words.specs.Outcome.{refused, accepted, onward, Done, Meets}
use Rattle.words.proofs.Cases.{true_or_false, both_no}
use Rattle.words.proofs.MeetLaws.{said_refused, meets_accepted}
use Rattle.page.specs.Layout.{table_of}
use Rattle.page.specs.Good.{page_good}
use Rattle.page.specs.PutBack.{put_back_of}
use Rattle.index.specs.Layout.{packets_taken, entry_place, page_in}
use Rattle.index.specs.Good.{index_good}
use Rattle.index_jump.specs.Onward.{behind_packets}
use Rattle.index_jump.specs.Jump.{landing_words, stands_in, landing, entry_serves, jump_of}
use Rattle.index_jump.proofs.LandLaws.{serves_nowhere}

module _ (ws : List ℕ) (first : ℕ) (ix : List ℕ) (n : ℕ) (t : List ℕ) (good : index_good ix ≡ true) (few : n ≤ packets_taken ix) (none : n % 1024 ≡ 0) where
  abbrev page : List ℕ
  page = page_in ix (n / 1024)

  here : ltb (packets_taken ix) n ≡ false
  here = le-ltb (packets_taken ix) n few

  landing_there : landing ws first ix n ≡ record { all = true; place = entry_place ix (n / 1024) - first; table = table_of page }
  unfolding landing behind_packets
  landing_there = rw none

  unserved_there : entry_serves ws first ix n ≡ false → Meets on_paper (jump_of ws first ix n t) t (Err refusals.Page) t
  unfolding jump_of
  unserved_there e = record { answer = rw (good, here, e); buffer = rw (good, here, e) }

  -- its word place
  module _ (place : ℕ) (g : place ≡ entry_place ix (n / 1024)) where
    pub back_early : place < first → Meets on_paper (jump_of ws first ix n t) t (Err refusals.Page) t
    back_early h = unserved_there (serves_nowhere ws first ix n (rw (← g, lt-leb first place h)))

    pub back_far : length ws < place - first → Meets on_paper (jump_of ws first ix n t) t (Err refusals.Page) t
    back_far h = unserved_there (serves_nowhere ws first ix n (rw (← g, lt-leb (place - first) (length ws) h) (both_no (leb first place))))

    module _ (behind : first ≤ place) (inside : place - first ≤ length ws) where
      stands : stands_in ws first (entry_place ix (n / 1024)) ≡ true
      stands = rw (← g, le-leb first place behind, le-leb (place - first) (length ws) inside)

      jump_put : jump_of ws first ix n t
          ≡ onward (put_back_of page t)
          (λ (d : Done ℕ (List ℕ)). accepted (record { says = record { length = d.says; place = place }; leaves = d.leaves }))
      unfolding jump_of put_back_of entry_serves
      jump_put =
          let back : first + (place - first) ≡ place = omega arith in
          ⊎_elim
          (λ (y : page_good page ≡ true).
          ⊎_elim (λ (r : ltb (length t) (landing_words ix n) ≡ true). rw (good, here, y, stands, landing_there, r))
          (λ (r : ltb (length t) (landing_words ix n) ≡ false). rw (good, here, y, stands, landing_there, r, ← g, back))
          (true_or_false (ltb (length t) (landing_words ix n))))
          (λ (y : page_good page ≡ false). rw (good, here, y)) (true_or_false (page_good page))

      -- what putting the page back answered
      module _ (p last : List ℕ) (e : p ≡ page_in ix (n / 1024)) where
        pub back_refused : (r : Refusal) → Meets on_paper (put_back_of p t) t (Err r) last → Meets on_paper (jump_of ws first ix n t) t (Err r) last
        back_refused r m =
            let no = said_refused (put_back_of p t) (list_number r) (sym m.answer) in
            let same : put_back_of page t ≡ refused (list_number r) = rw e at no in
            record { answer = rw (jump_put, same); buffer = m.buffer ∙ rw (no, jump_put, same) }

        pub back_made : (k : ℕ) → Meets on_paper (put_back_of p t) t (Ok k) last
            → Meets on_paper (jump_of ws first ix n t) t (Ok (record { length = k; place = place })) last
        back_made k m =
            let w = meets_accepted m refl in
            let same : put_back_of page t ≡ accepted w.done = ap (λ (q : List ℕ). put_back_of q t) (sym e) ∙ w.wants in
            record { answer = rw (jump_put, same, w.says); buffer = w.leaves ∙ rw (jump_put, same) }
