-- Demand 3 of calls as they are made. The idea: an outcome that meets a promise is the one that the definition gives, answer and lent words; so calls one
-- after the other are `play_all` and `said_all` (`played`), and a day of calls is a day of the definitions (`day`).
use Rattle.words.proofs.Kit.{◌≡◌, refl, sym, ap, subst, ◌∙◌, List, [], ◌∷◌, ℕ, true, take}
use mathlib.Core.List.{map}
use Rattle.words.specs.Outcome.{accepted, said_of, left_of}
use Rattle.words.proofs.MeetLaws.{meets_accepted}
use Rattle.table.specs.Well.{well_made}
use Rattle.words.specs.Told.{told_paper}
use Rattle.page.specs.PutBack.{put_back_of}
use Rattle.index_jump.specs.declared.Landed.{Landed}
use Rattle.demands.specs.Listing.{Listing}
use Rattle.demands.specs.Program.{ours, play_all, said_all}
use Rattle.demands.specs.Right.{Right, layout_of}
use Rattle.demands.specs.Resumed.{SavesAs, Resumes, Stop, Day, SamePages}
use Rattle.demands.specs.Resumed as Resumed
use Rattle.demands.specs.Jumped.{GrownOver}
use Rattle.demands.specs.Jumped as Jumped
use Rattle.demands.specs.CallsMade.{Played, StartMade, PlaysMade, none, next, SaveMade, DayMade, over, SamePagesMade, GrowsMade, Ruled, Demand3Made}
use Rattle.demands.specs.CallsMade as Made
use Rattle.demands.proofs.RightLaws.{right_start, right_on, answers_on}
use Rattle.demands.proofs.Resumed.{page_words, saved_page, resumes, days}
use Rattle.demands.proofs.Jumped.{jumps, jumps_right}
use Rattle.demands.proofs.Separate.{apart}

-- ---- outcomes

started : (list : Listing) (lent t : List ℕ) → StartMade list lent t → Right list [] t
started list lent t m =
    let k = meets_accepted m.meets m.accepts in
    rw k.leaves (right_start list lent k.done k.wants)

played : {t last : List ℕ} {packets : List (List ℕ)} {rs : List Played} → PlaysMade t packets rs last
    → (last ≡ play_all ours t packets) × (map told_paper rs ≡ said_all ours t packets)
played none = (refl, refl)
played (next {t} {ws} {after} {last} {packets} {r} {rs} m p) =
    let k = played p in
    (k.0 ∙ ap (λ (u : List ℕ). play_all ours u packets) m.buffer, rw (m.answer, k.1, m.buffer))

ruled : (list : Listing) (t last : List ℕ) (before packets : List (List ℕ)) (answers : List Played) → Right list before t → PlaysMade t packets answers last
    → Ruled list before packets answers last
ruled list t last before packets answers r p =
    let k = played p in
    record { table = rw k.0 (right_on list before packets t r); said = k.1 ∙ answers_on list before packets t r }

-- ---- a day

-- a page that was saved is the one that the definition gives
saved : (t page : List ℕ) (m : SaveMade t page) → let d = (meets_accepted m.meets m.accepts).done in page ≡ take d.says d.leaves
saved t page m = let k = meets_accepted m.meets m.accepts in cc (m.wrote, k.says, k.leaves)

day : {before packets : List (List ℕ)} {t last : List ℕ} {rs : List Played} {stops : List Stop} → DayMade before t packets rs stops last
    → Day ours before t packets (map told_paper rs) stops last
day over = Resumed.over
day (Made.plays {ws = ws} m d) = rw m.answer (Resumed.plays ws (rw m.buffer at (day d)))
day {t = t} (Made.stops {page = page} s b d) =
    let k = meets_accepted s.meets s.accepts in
    let e : page ≡ take k.done.says k.done.leaves = saved t page s in
    let l = meets_accepted b.meets b.accepts in
    let put : put_back_of (take k.done.says k.done.leaves) b.lent ≡ accepted l.done =
    ap (λ (p : List ℕ). put_back_of p b.lent) (sym e) ∙ l.wants in
    rw e (Resumed.stops s.lent b.lent k.done l.done k.wants put (rw l.leaves at (day d)))

-- a table saves one page
page_saved : (t page words : List ℕ) → well_made t ≡ true → SavesAs ours t page → SaveMade t words → words ≡ page
page_saved t page words w f m =
    let k = meets_accepted m.meets m.accepts in
    saved t words m ∙ page_words t m.lent w k.done k.wants ∙ saved_page t page w f

same_pages : (list : Listing) (t : List ℕ) → Right list [] t → (stops : List Stop) → SamePages ours t stops → SamePagesMade t stops
same_pages list t r [] k = tt
same_pages list t r (s ∷ later) k = (
  λ u page heard p m. page_saved u s.page page (rw (played p).0 (right_on list [] s.after t r).made) (rw (played p).0 k.0) m,
  same_pages list t r later k.1,
)

-- ---- a jump

left_over : (ws first : List ℕ) (n : ℕ) (after index : List ℕ) (left : List ℕ × List ℕ) → (after, index) ≡ left
    → GrownOver ours ws first n left.0 left.1 → GrownOver ours ws first n after index
left_over ws first n after index left e g = subst (λ (z : List ℕ × List ℕ). GrownOver ours ws first n z.0 z.1) (sym e) g

-- an index that was grown by calls was grown by the definitions
grown_over : {ws first t ix : List ℕ} {n : ℕ} → GrowsMade ws first n t ix → GrownOver ours ws first n t ix
grown_over (Made.started lent m e) = let k = meets_accepted m e in rw k.leaves (Jumped.started k.done k.wants)
grown_over (Made.grown given rest g c m e) =
    let k = meets_accepted m e in
    left_over _ _ _ _ _ _ k.leaves (Jumped.grown (grown_over g) given rest c k.done k.wants)
grown_over (Made.moved kept g room e) = Jumped.moved kept (grown_over g) room e
grown_over (Made.landed u g e) = Jumped.landed u (grown_over g) e

landed_says : (l : Landed) {a b : ℕ} → l.length ≡ a → l.place ≡ b → l ≡ record { length = a; place = b }
landed_says l e f = rw (← e, ← f)

pub demand_3_made : Demand3Made
demand_3_made = record {
  plays = λ list lent t last packets answers a p. ruled list t last [] packets answers (started list lent t a) p;
  puts_back = λ list packets t page room back r q m h b.
      let k = meets_accepted m.meets m.accepts in
      let again : Resumes ours list t packets [] page room = rw (saved t page m) (resumes list packets t q m.lent k.done k.wants room [] h) in
      b.answer ∙ ap said_of again.accepts ∙ ap accepted again.says;
  days = λ list lent t last packets answers stops a d.
      let k = days list [] t (started list lent t a) packets last (map told_paper answers) stops (day d) in
      (record { table = k.right; said = k.ruled }, same_pages list t (started list lent t a) stops k.same_pages);
  unbroken = λ list lent t last whole packets answers all stops a d p.
      let k = days list [] t (started list lent t a) packets last (map told_paper answers) stops (day d) in
      (k.same_table ∙ ap (layout_of list) (sym (played p).0), k.same_answers ∙ sym (played p).1);
  jumps = λ ws first taken t ix g n h from given w lent last r room m.
      let l = jumps ws first taken t ix (grown_over g) n h from given w lent room in
      let left : last ≡ l.done.leaves = m.buffer ∙ ap (λ o. left_of o lent) l.accepts in
      record {
        accepts = m.answer ∙ ap said_of l.accepts ∙ ap accepted (landed_says l.done.says l.length l.place);
        table = λ whole answers p. rw (left, (played p).0) l.table;
        past = rw left l.past;
        right = λ list before q. rw left (jumps_right list before ws first q ix n from given lent l []).right;
      };
  apart = λ list lent room t u last other ps qs answers others s a x b y h alter.
      let k = apart list t u (started list lent t a) (started list room u b) s h ps qs alter in
      (rw ((played x).0, (played y).0) k.0, rw ((played x).1, (played y).1) k.1);
}
