-- Packets one after the other, of fewer words. The idea: play says and leaves the same of a table's layout alone (`said_alone`, `left_alone`), and of a packet
-- whose words are all there (`play_within`). By induction over the packets, then: a run on the layout alone is the run on the table (`behind_alone`); and a run
-- over some of a recording's words is the run over the recording, from a place that is so much less (`behind_within`).
use Rattle.words.proofs.Kit.{◌≡◌, refl, sym, ap, ap₂, ◌∙◌, true, false, ⊎_elim, List, ◌++◌, ℕ, zero, suc, ◌+◌, ◌≤◌, ◌<◌, arith, length, drop, get_or}
use lib.ListN.{get_or-append, length-drop}
use lib.Seq.{drop-append-le, drop-drop}
use Rattle.words.specs.Outcome.{left_of, said_of}
use Rattle.words.proofs.Cases.{true_or_false}
use Rattle.fields.proofs.PlaceLaws.{first_word}
use Rattle.packet.specs.Header.{size_of}
use Rattle.table.specs.Layout.{streams_of, layout_words}
use Rattle.table.specs.Well.{well_made}
use Rattle.play.specs.Play.{play_told}
use Rattle.play.specs.Run.{goes_on, said_at, left_at, next_of}
use Rattle.play.proofs.AloneLaws.{layout_left, left_alone, said_alone, next_alone}
use Rattle.play.proofs.BeyondLaws.{goes_inside, play_within}
use Rattle.play.proofs.KeepLaws.{kept_at}
use Rattle.index_jump.specs.Onward.{Behind, behind_packets}
use Rattle.index_jump.proofs.BehindLaws.{behind_none, behind_on, behind_goes, behind_rises}

-- ---- the layout alone

-- with the words x past the table
abbrev pub with_past : List ℕ → Behind → Behind
with_past x b = record { all = b.all; place = b.place; table = b.table ++ x }

pub behind_alone : (x : List ℕ) (n : ℕ) (ws : List ℕ) (at : ℕ) (l : List ℕ) → length l ≡ layout_words (streams_of l)
    → behind_packets n ws at (l ++ x) ≡ with_past x (behind_packets n ws at l)
unfolding behind_packets
behind_alone x zero ws at l e = refl
behind_alone x (suc n) ws at l e =
    ⊎_elim
    (λ (g : goes_on (said_at l ws at) ≡ true).
    rw (said_alone l x ws at e, left_alone l x ws at e, next_alone l x ws at e, g)
    (behind_alone x n ws (next_of l ws at) (left_at l ws at) (layout_left l ws at e)))
    (λ (g : goes_on (said_at l ws at) ≡ false). rw (said_alone l x ws at e, g)) (true_or_false (goes_on (said_at l ws at)))

-- ---- some of the words: `given` are those of the recording from the place `from` on, as many as they are

-- behind words that are not among them
abbrev pub further : ℕ → Behind → Behind
further from b = record { all = b.all; place = from + b.place; table = b.table }

module _ (ws given rest : List ℕ) (from : ℕ) (cut : drop from ws ≡ given ++ rest) where
  words_within : (a : ℕ) → a ≤ length given → drop (from + a) ws ≡ drop a given ++ rest
  words_within a h = sym (drop-drop a from ws) ∙ ap (drop a) cut ∙ drop-append-le a given rest h

  -- a packet that ends inside them
  module _ (a : ℕ) (t : List ℕ) (w : well_made t ≡ true) (g : goes_on (said_at t ws (from + a)) ≡ true)
      (h : next_of t ws (from + a) ≤ from + length given) where
    ends : from + a + size_of (get_or ws (from + a) 0) ≤ from + length given
    unfolding next_of
    ends = rw g at h

    begins : a < length given
    begins = omega (arith, ends, (goes_inside t ws (from + a) w g).0)

    words : drop (from + a) ws ≡ drop a given ++ rest
    words = words_within a (omega (arith, begins))

    left : length (drop a given) + a ≡ length given
    left = omega (arith, length-drop a given, begins)

    header : get_or ws (from + a) 0 ≡ get_or given a 0
    header =
        sym (first_word (from + a) ws) ∙ ap (λ (l : List ℕ). get_or l 0 0) words
        ∙ get_or-append (drop a given) rest 0 0 (omega (arith, left, begins)) ∙ first_word a given

    played : play_told t (drop (from + a) ws) ≡ play_told t (drop a given)
    unfolding said_at
    played =
        let size : size_of (get_or (drop a given) 0 0) ≡ size_of (get_or ws (from + a) 0) = ap size_of (first_word a given ∙ sym header) in
        ap (play_told t) words
        ∙ play_within t (drop a given) rest w (omega (arith, left, begins)) (omega (arith, left, size, ends)) (rw words at g)

    said_within : said_at t ws (from + a) ≡ said_at t given a
    unfolding said_at
    said_within = ap said_of played

    left_within : left_at t ws (from + a) ≡ left_at t given a
    unfolding left_at
    left_within = ap (λ o. left_of o t) played

    next_within : next_of t ws (from + a) ≡ from + next_of t given a
    unfolding next_of
    next_within = rw (said_within, header) (omega arith)

  pub behind_within : (n a : ℕ) (t : List ℕ) → well_made t ≡ true → (behind_packets n ws (from + a) t).all ≡ true
      → (behind_packets n ws (from + a) t).place ≤ from + length given
      → behind_packets n ws (from + a) t ≡ further from (behind_packets n given a t)
  behind_within zero a t w e h = rw (behind_none ws (from + a) t, behind_none given a t)
  behind_within (suc n) a t w e h =
      let g = behind_goes ws (from + a) t n e in
      let one = behind_on ws (from + a) t n g in
      let on : next_of t ws (from + a) ≤ from + length given =
      omega (arith, behind_rises n ws (next_of t ws (from + a)) (left_at t ws (from + a)), rw one at h) in
      let same : behind_packets (suc n) ws (from + a) t ≡ behind_packets n ws (from + next_of t given a) (left_at t given a) =
      one ∙ ap₂ (behind_packets n ws) (next_within a t w g on) (left_within a t w g on) in
      let here : goes_on (said_at t given a) ≡ true = ap goes_on (sym (said_within a t w g on)) ∙ g in
      same
      ∙ behind_within n (next_of t given a) (left_at t given a) ((kept_at t given a).well w) (rw same at e) (rw same at h)
      ∙ ap (further from) (sym (behind_on given a t n here))
