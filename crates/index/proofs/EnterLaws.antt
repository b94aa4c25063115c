-- A page saved into an index. The idea: the words from the offset on are lent to saving, whose answers are those of `saved_at` (`saved_lent`); an entry more
-- does not change what is refused (`entered_refused`, `entered_made`), and an index that is started is its first entry (`start_refused`, `start_made`).
use Rattle.std.specs.Prelude.{Result, Ok, Err}
use Rattle.words.proofs.Kit.{◌≡◌, refl, sym, ap, ◌∙◌, Bool, true, false, ⊎_elim, List, [], ◌∷◌, ◌++◌, ℕ, ◌+◌, ◌-◌, ◌^◌, ◌≤◌, ◌<◌, arith, lt-ltb, le-ltb}
use Rattle.words.proofs.Kit.{ltb-false, not-false, ltb, length, take, drop}
use borrow.Rule.Slice.PartMut.{mid_of, put_mid}
use mathlib.Core.List.{append-nil}
use lib.ListN.{length-drop, drop_of_length-le, take-append-drop}
use lib.Seq.{take_all}
use Rattle.words.specs.declared.refusals.Refusal.{Refusal}
use Rattle.words.specs.declared.refusals.Refusal.TheVariants as refusals
use Rattle.words.specs.Listed.{list_number, on_paper}
use Rattle.words.specs.Numbers.{TABLE, ROOM}
use Rattle.words.specs.Part.{put}
use Rattle.words.specs.Outcome.{Outcome, refused, accepted, Done, said_of, left_of, Meets}
use Rattle.words.proofs.Cases.{true_or_false, le_or_lt, accepted_same}
use Rattle.words.proofs.RefusalLaws.{first_passed, first_refused}
use Rattle.words.proofs.MeetLaws.{meets_accepted, meets_err, meets_ok, said_refused}
use Rattle.table.specs.Well.{well_made}
use Rattle.page.specs.Layout.{page_of, page_length}
use Rattle.page.specs.Save.{size_limit, save_of}
use Rattle.page.proofs.Bounds.{page_small, page_whole}
use Rattle.words.proofs.PartLaws.{put_length}
use Rattle.index.specs.Layout.{entry_from, index_contents, place_words, with_reached, with_entry}
use Rattle.index.specs.Start.{start_words, started_index, start_index_of}
use Rattle.index.specs.inner.Entered.{enter_list, saved_at, entered_at}

-- ---- the words from the offset on

module _ (ix : List ℕ) (offset : ℕ) (h : offset ≤ length ix) where
  rest_lent : mid_of offset (length ix - offset) ix ≡ drop offset ix
  rest_lent = take_all (length ix - offset) (drop offset ix) (simp length-drop (omega arith))

  rest_back : (x : List ℕ) → put_mid offset (length ix - offset) ix x ≡ take offset ix ++ x
  rest_back x =
      ap (λ (z : List ℕ). take offset ix ++ (x ++ z)) (drop_of_length-le (drop offset ix) {i = length ix - offset} (simp length-drop (omega arith)))
      ∙ ap (λ (z : List ℕ). take offset ix ++ z) (append-nil x)

  -- what saving there leaves of the whole
  abbrev Alike : Outcome (Done ℕ (List ℕ)) → Outcome (Done ℕ (List ℕ)) → Type 0
  Alike o p = (said_of o ≡ said_of p) × (take offset ix ++ left_of o (drop offset ix) ≡ left_of p ix)

  saved_alike : (t : List ℕ) → Alike (save_of t (drop offset ix)) (saved_at t offset ix)
  unfolding save_of saved_at put
  saved_alike t =
      let l : length (drop offset ix) ≡ length ix - offset = length-drop offset ix in
      ⊎_elim
      (λ (w : well_made t ≡ true).
      let fits : ltb size_limit (page_length t) ≡ false = le-ltb size_limit (page_length t) (omega (arith, page_small t w)) in
      ⊎_elim
      (λ (g : offset + page_length t ≤ length ix).
      let q : ltb (length (drop offset ix)) (page_length t) ≡ false = le-ltb (length (drop offset ix)) (page_length t) (omega (arith, l)) in
      rw (w, fits, q, le-ltb (length ix) (offset + page_length t) g) (refl, refl))
      (λ (g : length ix < offset + page_length t).
      let q : ltb (length (drop offset ix)) (page_length t) ≡ true = lt-ltb (length (drop offset ix)) (page_length t) (omega (arith, l)) in
      rw (w, fits, q, lt-ltb (length ix) (offset + page_length t) g) (refl, take-append-drop offset ix))
      (le_or_lt (offset + page_length t) (length ix)))
      (λ (w : well_made t ≡ false). rw w (refl, take-append-drop offset ix))
      (true_or_false (well_made t))

  pub saved_lent : (t last : List ℕ) (r : Result ℕ Refusal)
      → Meets on_paper (save_of t (mid_of offset (length ix - offset) ix)) (mid_of offset (length ix - offset) ix) r last
      → Meets on_paper (saved_at t offset ix) ix r (put_mid offset (length ix - offset) ix last)
  saved_lent t last r m =
      let k : Meets on_paper (save_of t (drop offset ix)) (drop offset ix) r last = rw rest_lent at m in
      let a = saved_alike t in
      record { answer = k.answer ∙ a.0; buffer = rest_back last ∙ ap (λ (z : List ℕ). take offset ix ++ z) k.buffer ∙ a.1 }

-- ---- with the entry

module _ (t ix : List ℕ) (j place offset : ℕ) where
  pub entered_refused : (n : Refusal) (left : List ℕ) → Meets on_paper (saved_at t offset ix) ix (Err n) left
      → Meets on_paper (entered_at t j place offset ix) ix (Err n) left
  unfolding saved_at entered_at
  entered_refused n left m =
      let no : saved_at t offset ix ≡ refused (list_number n) = said_refused (saved_at t offset ix) (list_number n) (sym m.answer) in
      let same : left ≡ ix = m.buffer ∙ ap (λ o. left_of o ix) no in
      rw same (meets_err (first_refused (enter_list t offset ix) _ (list_number n) _ no))

  module _ (n : ℕ) (mid : List ℕ) (m : Meets on_paper (saved_at t offset ix) ix (Ok n) mid) where
    passed : (well_made t ≡ true) × (offset + page_length t ≤ length ix) × (page_length t ≡ n) × (mid ≡ put offset (page_length t) (page_of t) ix)
    unfolding saved_at
    passed =
        let k = meets_accepted m refl in
        let q = first_passed (enter_list t offset ix) _ k.done k.wants in
        let d = accepted_same q.1 in (
          not-false (well_made t) q.0.0,
          ltb-false (length ix) (offset + page_length t) q.0.1.0,
          ap (λ (x : Done ℕ (List ℕ)). x.says) d ∙ k.says,
          k.leaves ∙ sym (ap (λ (x : Done ℕ (List ℕ)). x.leaves) d),
        )

    long : length mid ≡ length ix
    long = ap length passed.3 ∙ put_length offset (page_length t) (page_of t) ix passed.1 (page_whole t passed.0)

    -- what writing the entry asks
    pub entered_whole : index_contents ≤ offset → offset ≤ length ix → index_contents ≤ length mid
    entered_whole h g = omega (arith, long)

    pub entered_small : n < 2 ^ 32
    entered_small = omega (arith, passed.2, page_small t passed.0)

    pub entered_made : (last : List ℕ) → last ≡ put (entry_from j) 4 (place_words place (offset ∷ n ∷ [])) mid
        → Meets on_paper (entered_at t j place offset ix) ix (Ok n) last
    unfolding entered_at with_entry
    entered_made last f =
        (meets_ok {left = with_entry j place offset t ix}
        (rw (passed.0, le-ltb (length ix) (offset + page_length t) passed.1, passed.2)) (f ∙ rw (passed.3, passed.2)))

-- ---- an index that is started, r being the answer to its first entry

module _ (t ix : List ℕ) where
  pub start_short : (b : Bool) → b ≡ well_made t → length ix < 4100 → b ≡ true → Meets on_paper (start_index_of t ix) ix (Err refusals.Room) ix
  unfolding start_index_of
  start_short b e h w = meets_err (rw (← e, w, lt-ltb (length ix) (start_words t) (omega arith)))

  pub start_ill : (b : Bool) → b ≡ well_made t → b ≡ false → Meets on_paper (start_index_of t ix) ix (Err refusals.Table) ix
  unfolding start_index_of
  start_ill b e w = meets_err (rw (← e, w))

  pub start_refused : (n : Refusal) (left : List ℕ) → Meets on_paper (entered_at t 0 0 4100 ix) ix (Err n) left
      → Meets on_paper (start_index_of t ix) ix (Err n) left
  unfolding start_index_of entered_at
  start_refused n left m =
      let no : entered_at t 0 0 4100 ix ≡ refused (list_number n) = said_refused (entered_at t 0 0 4100 ix) (list_number n) (sym m.answer) in
      let same : left ≡ ix = m.buffer ∙ ap (λ o. left_of o ix) no in
      rw same (meets_err (first_refused (enter_list t 4100 ix) _ (list_number n) _ no))

  module _ (n : ℕ) (mid : List ℕ) (m : Meets on_paper (entered_at t 0 0 4100 ix) ix (Ok n) mid) where
    first : (well_made t ≡ true) × (4100 + page_length t ≤ length ix) × (page_length t ≡ n) × (mid ≡ with_entry 0 0 4100 t ix)
    unfolding entered_at
    first =
        let k = meets_accepted m refl in
        let q = first_passed (enter_list t 4100 ix) _ k.done k.wants in
        let d = accepted_same q.1 in (
          not-false (well_made t) q.0.0,
          ltb-false (length ix) (4100 + page_length t) q.0.1.0,
          ap (λ (x : Done ℕ (List ℕ)). x.says) d ∙ k.says,
          k.leaves ∙ sym (ap (λ (x : Done ℕ (List ℕ)). x.leaves) d),
        )

    -- what writing the rest asks
    pub start_whole : index_contents ≤ length mid
    unfolding with_entry
    start_whole =
        let page : length (put 4100 (page_length t) (page_of t) ix) ≡ length ix =
        put_length 4100 (page_length t) (page_of t) ix first.1 (page_whole t first.0) in
        let l : length mid ≡ length ix = ap length first.3 ∙ put_length (entry_from 0) 4 _ _ (omega (arith, page, first.1)) refl ∙ page in
        omega (arith, l, first.1)

    pub start_small : 4100 + n < 2 ^ 64
    start_small = omega (arith, first.2, page_small t first.0)

    pub start_made : (last : List ℕ) → last ≡ with_reached 0 0 mid → Meets on_paper (start_index_of t ix) ix (Ok (4100 + n)) last
    unfolding start_index_of started_index
    start_made last f =
        meets_ok {left = started_index t ix} (rw (first.0, le-ltb (length ix) (start_words t) first.1, first.2)) (f ∙ ap (with_reached 0 0) first.3)
