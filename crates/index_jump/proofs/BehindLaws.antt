-- Packets one after the other. The idea: a walk that goes on stands behind a packet that has a word and lies inside the words (`next_inside`).
-- By induction over the packets, then: two runs, one behind the other, are one (`behind_split`); no run goes back (`behind_rises`), or further than the sizes
-- of its packets (`behind_most`), or further than the words (`behind_inside`); and the table is kept (`behind_kept`).
use Rattle.words.proofs.Kit.{◌≡◌, refl, sym, ap, ◌∙◌, Bool, true, false, ⊎_elim, List, ℕ, zero, suc, ◌+◌, ◌*◌, ◌^◌, ◌≤◌, ◌<◌, arith}
use Rattle.words.proofs.Kit.{length, drop, get_or}
use native.Mathlib.Nat.{zero-add, suc-add, mod-lt}
use Rattle.words.specs.Tests.{when}
use Rattle.words.proofs.Cases.{true_or_false, true_is_false}
use Rattle.packet.specs.Header.{size_of}
use Rattle.table.specs.Layout.{base}
use Rattle.table.specs.Well.{well_made}
use Rattle.play.specs.Run.{goes_on, said_at, left_at, next_of}
use Rattle.play.proofs.KeepLaws.{Kept, nothing_changed, kept_at}
use Rattle.play.proofs.BeyondLaws.{goes_inside}
use Rattle.index_jump.specs.Onward.{Behind, ended_at, behind_packets}

-- ---- one packet

-- no packet has more words
next_size : (g : Bool) (at w : ℕ) → at + when g (size_of w) ≤ at + 65535
next_size true at w = let k : size_of w < 2 ^ 16 = mod-lt w (omega arith) in omega (arith, k)
next_size false at w = omega arith

pub next_most : (t ws : List ℕ) (at : ℕ) → next_of t ws at ≤ at + 65535
unfolding next_of
next_most t ws at = next_size (goes_on (said_at t ws at)) at (get_or ws at 0)

-- a walk does not go back
next_least : (t ws : List ℕ) (at : ℕ) → at ≤ next_of t ws at
unfolding next_of
next_least t ws at = omega arith

-- it has a word, and lies inside the words
pub next_inside : (t ws : List ℕ) (at : ℕ) → well_made t ≡ true → goes_on (said_at t ws at) ≡ true → (at < next_of t ws at) × (next_of t ws at ≤ length ws)
unfolding next_of
next_inside t ws at w g =
    let k = goes_inside t ws at w g in
    rw g (omega (arith, k.0), k.1)

-- where no word is left, no walk goes on
pub none_left : (t ws : List ℕ) (at : ℕ) → well_made t ≡ true → length ws ≤ at → goes_on (said_at t ws at) ≡ false
none_left t ws at w h =
    ⊎_elim (λ (g : goes_on (said_at t ws at) ≡ true). let k = next_inside t ws at w g in absurd (omega (arith, k.0, k.1)))
    (λ (g : goes_on (said_at t ws at) ≡ false). g) (true_or_false (goes_on (said_at t ws at)))

-- ---- none, one more, and where the recording ends

module _ (ws : List ℕ) (at : ℕ) (t : List ℕ) where
  pub behind_none : behind_packets 0 ws at t ≡ record { all = true; place = at; table = t }
  unfolding behind_packets
  behind_none = refl

  pub behind_on : (n : ℕ) → goes_on (said_at t ws at) ≡ true → behind_packets (suc n) ws at t ≡ behind_packets n ws (next_of t ws at) (left_at t ws at)
  unfolding behind_packets
  behind_on n g = rw g

  pub behind_ended : (n : ℕ) → goes_on (said_at t ws at) ≡ false → behind_packets (suc n) ws at t ≡ ended_at at t
  unfolding behind_packets
  behind_ended n g = rw g

  -- a recording that has them all goes on behind the first
  pub behind_goes : (n : ℕ) → (behind_packets (suc n) ws at t).all ≡ true → goes_on (said_at t ws at) ≡ true
  behind_goes n e =
      ⊎_elim (λ (g : goes_on (said_at t ws at) ≡ true). g)
      (λ (g : goes_on (said_at t ws at) ≡ false). absurd (true_is_false (sym e ∙ ap (λ (x : Behind). x.all) (behind_ended n g))))
      (true_or_false (goes_on (said_at t ws at)))

-- ---- two runs, one behind the other

pub behind_split : (a b : ℕ) (ws : List ℕ) (at : ℕ) (t : List ℕ) → (behind_packets a ws at t).all ≡ true
    → behind_packets (a + b) ws at t ≡ behind_packets b ws (behind_packets a ws at t).place (behind_packets a ws at t).table
behind_split zero b ws at t e = ap (λ (n : ℕ). behind_packets n ws at t) (zero-add b) ∙ rw (behind_none ws at t)
behind_split (suc a) b ws at t e =
    let g = behind_goes ws at t a e in
    ap (λ (n : ℕ). behind_packets n ws at t) (suc-add a b) ∙ behind_on ws at t (a + b) g
    ∙ rw (behind_on ws at t a g) (behind_split a b ws (next_of t ws at) (left_at t ws at) (rw (behind_on ws at t a g) at e))

-- a recording that has some packets has the first of them
pub behind_fewer : (a b : ℕ) (ws : List ℕ) (at : ℕ) (t : List ℕ) → (behind_packets (a + b) ws at t).all ≡ true → (behind_packets a ws at t).all ≡ true
behind_fewer zero b ws at t e = rw (behind_none ws at t)
behind_fewer (suc a) b ws at t e =
    let f : (behind_packets (suc (a + b)) ws at t).all ≡ true = rw (suc-add a b) at e in
    let g = behind_goes ws at t (a + b) f in
    rw (behind_on ws at t a g) (behind_fewer a b ws (next_of t ws at) (left_at t ws at) (rw (behind_on ws at t (a + b) g) at f))

-- one packet more, which goes on from the place and the table behind n
pub behind_more : (n : ℕ) (ws : List ℕ) (at : ℕ) (t : List ℕ) → (behind_packets n ws at t).all ≡ true
    → goes_on (said_at (behind_packets n ws at t).table ws (behind_packets n ws at t).place) ≡ true
    → behind_packets (n + 1) ws at t ≡ record {
      all = true;
      place = next_of (behind_packets n ws at t).table ws (behind_packets n ws at t).place;
      table = left_at (behind_packets n ws at t).table ws (behind_packets n ws at t).place;
    }
behind_more n ws at t e g =
    let p : ℕ = (behind_packets n ws at t).place in
    let u : List ℕ = (behind_packets n ws at t).table in
    behind_split n 1 ws at t e ∙ behind_on ws p u 0 g ∙ behind_none ws (next_of u ws p) (left_at u ws p)

-- ---- what holds behind any number of packets

-- the table is kept
kept_then : {a b c : List ℕ} → Kept a b → Kept b c → Kept a c
kept_then {a} {b} {c} p q = record {
  well = λ w. q.well (p.well w);
  whole = q.whole ∙ p.whole;
  streams = q.streams ∙ p.streams;
  list = λ u. q.list u ∙ p.list u;
  choices = λ u. q.choices u ∙ p.choices u;
  past = ap (λ (n : ℕ). drop (base n) c) (sym p.streams) ∙ q.past ∙ ap (λ (n : ℕ). drop (base n) b) p.streams ∙ p.past;
}

pub behind_kept : (n : ℕ) (ws : List ℕ) (at : ℕ) (t : List ℕ) → Kept t (behind_packets n ws at t).table
behind_kept zero ws at t = rw (behind_none ws at t) (nothing_changed t)
behind_kept (suc n) ws at t =
    ⊎_elim
    (λ (g : goes_on (said_at t ws at) ≡ true).
    rw (behind_on ws at t n g) (kept_then (kept_at t ws at) (behind_kept n ws (next_of t ws at) (left_at t ws at))))
    (λ (g : goes_on (said_at t ws at) ≡ false). rw (behind_ended ws at t n g) (nothing_changed t)) (true_or_false (goes_on (said_at t ws at)))

-- no run goes back
pub behind_rises : (n : ℕ) (ws : List ℕ) (at : ℕ) (t : List ℕ) → at ≤ (behind_packets n ws at t).place
behind_rises zero ws at t = rw (behind_none ws at t) (omega arith)
behind_rises (suc n) ws at t =
    ⊎_elim
    (λ (g : goes_on (said_at t ws at) ≡ true).
    rw (behind_on ws at t n g) (omega (arith, behind_rises n ws (next_of t ws at) (left_at t ws at), next_least t ws at)))
    (λ (g : goes_on (said_at t ws at) ≡ false). rw (behind_ended ws at t n g) (omega arith)) (true_or_false (goes_on (said_at t ws at)))

-- no run goes further than the sizes of its packets
pub behind_most : (n : ℕ) (ws : List ℕ) (at : ℕ) (t : List ℕ) → (behind_packets n ws at t).place ≤ at + 65535 * n
behind_most zero ws at t = rw (behind_none ws at t) (omega arith)
behind_most (suc n) ws at t =
    ⊎_elim
    (λ (g : goes_on (said_at t ws at) ≡ true).
    rw (behind_on ws at t n g) (omega (arith, behind_most n ws (next_of t ws at) (left_at t ws at), next_most t ws at)))
    (λ (g : goes_on (said_at t ws at) ≡ false). rw (behind_ended ws at t n g) (omega arith)) (true_or_false (goes_on (said_at t ws at)))

-- nor further than the words
pub behind_inside : (n : ℕ) (ws : List ℕ) (at : ℕ) (t : List ℕ) → well_made t ≡ true → at ≤ length ws → (behind_packets n ws at t).place ≤ length ws
behind_inside zero ws at t w h = rw (behind_none ws at t) h
behind_inside (suc n) ws at t w h =
    ⊎_elim
    (λ (g : goes_on (said_at t ws at) ≡ true).
    rw (behind_on ws at t n g) (behind_inside n ws (next_of t ws at) (left_at t ws at) ((kept_at t ws at).well w) (next_inside t ws at w g).1))
    (λ (g : goes_on (said_at t ws at) ≡ false). rw (behind_ended ws at t n g) h) (true_or_false (goes_on (said_at t ws at)))
