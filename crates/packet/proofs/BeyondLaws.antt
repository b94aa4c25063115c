-- "words beyond the size are ignored". The idea: all that reading looks at past the header lies inside the size (`room`), so two lists of words that
-- agree on it are read alike.
use Rattle.words.proofs.Kit.{◌≡◌, refl, sym, ap, ◌∙◌, Bool, true, false, List, [], ◌∷◌, ℕ, ◌+◌, ◌-◌, ◌≤◌, ◌<◌, arith, ne_eqb, le-ltb, ltb-false, ltb}
use Rattle.words.proofs.Kit.{length, take, get_or}
use native.Mathlib.Nat.{le_refl}
use lib.Seq.{get_or-take}
use Rattle.words.specs.Tests.{when}
use Rattle.words.specs.Numbers.{SHORT}
use Rattle.words.specs.Part.{part}
use Rattle.words.proofs.RefusalLaws.{first_same}
use Rattle.words.proofs.PartLaws.{part_take}
use Rattle.packet.specs.Header.{classed, trailed, size_of}
use Rattle.packet.specs.Parts.{streamed, has_seconds, has_fraction, class_at, seconds_at, fraction_at, word_if, required_of, class_high, class_low}
use Rattle.packet.specs.Parts.{fraction_of, parts_of, body_of, packet_of}
use Rattle.packet.specs.Read.{header_list, read_by}
use Rattle.packet.proofs.RoomLaws.{Room, room}

-- ---- words that agree on the first n

module _ (n : ℕ) (ws vs : List ℕ) (e : take n ws ≡ take n vs) where
  get_d_agree : (i : ℕ) → i < n → get_or ws i 0 ≡ get_or vs i 0
  get_d_agree i h = sym (get_or-take n ws i 0 h) ∙ ap (λ (l : List ℕ). get_or l i 0) e ∙ get_or-take n vs i 0 h

  part_agree : (a m : ℕ) → a + m ≤ n → part a m ws ≡ part a m vs
  part_agree a m h = sym (part_take a m n ws h) ∙ ap (part a m) e ∙ part_take a m n vs h

  word_agree : (present : Bool) (at : ℕ) → at + when present 1 ≤ n → word_if present at ws ≡ word_if present at vs
  unfolding word_if
  word_agree true at h = get_d_agree at (omega arith)
  word_agree false at h = refl

  pair_agree : (present : Bool) (at : ℕ) → at + when present 2 ≤ n → (word_if present at ws ≡ word_if present at vs)
      × (word_if present (at + 1) ws ≡ word_if present (at + 1) vs)
  unfolding word_if
  pair_agree true at h = (get_d_agree at (omega arith), get_d_agree (at + 1) (omega arith))
  pair_agree false at h = (refl, refl)

-- ---- what is read of them

module _ (w : ℕ) (ws vs : List ℕ) (e : take (size_of w) ws ≡ take (size_of w) vs) where
  class_agree : Room w (size_of w) → (class_high w ws ≡ class_high w vs) × (class_low w ws ≡ class_low w vs)
  unfolding class_high class_low
  class_agree r = pair_agree (size_of w) ws vs e (classed w) (class_at w) r.class

  fraction_agree : Room w (size_of w) → fraction_of w ws ≡ fraction_of w vs
  unfolding fraction_of
  fraction_agree r = let f = pair_agree (size_of w) ws vs e (has_fraction w) (fraction_at w) r.fraction in rw (f.0, f.1)

  body_agree : Room w (size_of w) → body_of w ws ≡ body_of w vs
  unfolding body_of
  body_agree r = part_agree (size_of w) ws vs e _ _ r.body

  packet_agree : Room w (size_of w) → packet_of w ws ≡ packet_of w vs
  unfolding packet_of parts_of
  packet_agree r =
      let c = class_agree r in
      let i = word_agree (size_of w) ws vs e (streamed w) 1 r.identifier in
      let s = word_agree (size_of w) ws vs e (has_seconds w) (seconds_at w) r.seconds in
      let t = word_agree (size_of w) ws vs e (trailed w) (size_of w - 1) r.trailer in
      rw (c.0, c.1, fraction_agree r, i, s, t)

pub read_beyond : (survey : Bool) (ws vs : List ℕ) → 0 < length ws → 0 < length vs → get_or ws 0 0 ≡ get_or vs 0 0
    → size_of (get_or ws 0 0) ≤ length ws → size_of (get_or ws 0 0) ≤ length vs → take (size_of (get_or ws 0 0)) ws ≡ take (size_of (get_or ws 0 0)) vs
    → read_by survey ws ≡ read_by survey vs
unfolding read_by
read_beyond survey ws vs a b w h g e =
    let c = get_or ws 0 0 in
    rw (ne_eqb (length ws) 0 (omega arith), ne_eqb (length vs) 0 (omega arith), ← w, le-ltb (length ws) (size_of c) h, le-ltb (length vs) (size_of c) g)
    (first_same (header_list c) _ _ (λ _.
    first_same ((SHORT, ltb (size_of c) (required_of c)) ∷ []) _ _ (λ z.
    let r = room c (size_of c) (ltb-false _ _ z.0) (le_refl (size_of c)) in
    let k = class_agree c ws vs e r in
    rw (k.0, k.1, fraction_agree c ws vs e r, body_agree c ws vs e r, packet_agree c ws vs e r))))
