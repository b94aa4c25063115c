-- Bits taken from words. The idea: `Ahead` says which bits of the words' stream an accumulator holds. A word's bits put behind them keep it
-- (`refilled`), and a field taken from the left moves it on (`took`); one of more than 32 bits is taken in two parts (`took_wide`).
use Rattle.words.proofs.Kit.{◌≡◌, refl, sym, ap, ap₂, ◌∙◌, List, ℕ, ◌+◌, ◌-◌, ◌*◌, ◌/◌, ◌%◌, ◌^◌, ◌≤◌, ◌<◌, arith, length}
use native.Mathlib.Nat.{mul_comm, mul-add, div-one}
use lib.Arith.{digits_lt}
use lib.Pow.{pow-add, pow_mono, shr-shr, field}
use Rattle.bitstream.specs.Stream.{span}
use Rattle.bitstream.specs.Carried.{stream_bits}
use Rattle.bitstream.proofs.SpanLaws.{split, whole, none}
use Rattle.bitstream.proofs.AccumulatorLaws.{append_below, appended, taken, left}
use Rattle.bitstream.proofs.CarriedLaws.{room_at}
use Rattle.bitstream.specs.declared.inner.accumulator.Accumulator.{Accumulator}
use Rattle.bitstream.specs.inner.Accumulator.{empty_but, Ahead, Takeable, Refilled, Took, FieldTakeable}

-- nothing is held yet
pub ahead_none : (c : ℕ) (ws : List ℕ) (u p : ℕ) → p ≡ 0 → Ahead c ws u (empty_but u) p
ahead_none c ws u p e =
    let z : u - u ≡ 0 = omega arith in
    record { over = omega arith; place = omega arith; held = rw z (sym (none c (stream_bits c ws) p)) }

-- ---- w bits are counted
pub next_there : (c w : ℕ) (s : Accumulator) (ws : List ℕ) → Takeable c w s ws → s.have < w → s.at < length ws
next_there c w s ws t l = t.there l

pub refill_below : (c w : ℕ) (s : Accumulator) (ws : List ℕ) (d : ℕ) → Takeable c w s ws → d < 2 ^ c → (s.acc * 2 ^ c) % 2 ^ 64 + d < 2 ^ 64
refill_below c w s ws d t b = append_below s.acc d c 64 (omega arith) b

pub refilled_same : (c w : ℕ) (s : Accumulator) (ws : List ℕ) → Takeable c w s ws → w ≤ s.have → Refilled c w s ws s
refilled_same c w s ws t l = record { enough = l; most = t.few; place = refl; keeps = λ u p h a. a }

pub refilled : (c w : ℕ) (s : Accumulator) (ws : List ℕ) (d : ℕ) → Takeable c w s ws → s.have < w → d ≡ stream_bits c ws s.at → d < 2 ^ c
    → Refilled c w s ws (record { acc = (s.acc * 2 ^ c) % 2 ^ 64 + d; have = s.have + c; at = s.at + 1 })
refilled c w s ws d t l e b = record {
  enough = t.part;
  most = omega arith;
  place = omega (arith, mul-add c s.at 1);
  keeps = λ u p h a.
      let g : ℕ → ℕ = stream_bits c ws in
      let m : ℕ = s.have - u in
      let z : s.have + c - u ≡ m + c = omega (arith, a.over) in
      let y : s.at * c ≡ p + m = omega (arith, a.place, a.over, mul_comm c s.at) in
      let q : d ≡ span c g (p + m) c = e ∙ sym (whole c g s.at (rw e at b)) ∙ ap (λ (x : ℕ). span c g x c) y in
      record {
        over = omega (arith, a.over);
        place = omega (arith, mul-add c s.at 1, a.place);
        held = rw z (appended c g s.acc p m a.held d c 64 (omega arith) b q);
      };
}

-- ---- a field is taken, without its last u bits, by one shift
pub took : (c f u : ℕ) (s h : Accumulator) (ws : List ℕ) (v : ℕ) → u < f → Refilled c (f + u) s ws h → v ≡ h.acc / 2 ^ (h.have - f) % 2 ^ (f - u)
    → v < 2 ^ (f - u) → Took c f u s ws v (record { acc = h.acc; have = h.have - f; at = h.at })
took c f u s h ws v l r e n = record {
  below = n;
  few = omega (arith, r.enough, r.most);
  place = omega (arith, r.enough, r.place);
  keeps = λ p m a.
      let g : ℕ → ℕ = stream_bits c ws in
      let k = r.keeps u p m a in
      let b : ℕ = h.have - u in
      let x : ℕ = h.acc / 2 ^ (b - f) in
      let i : f ≤ b = omega (arith, r.enough) in
      let o : h.have - f ≡ b - f + u = omega (arith, r.enough) in
      let o' : h.have - f - u ≡ b - f = omega arith in
      let q : f - u + u ≡ f = omega arith in
      let w : v ≡ x % 2 ^ f / 2 ^ u =
      e ∙ ap (λ (y : ℕ). h.acc / 2 ^ y % 2 ^ (f - u)) o
      ∙ ap (λ (y : ℕ). y % 2 ^ (f - u)) (sym (shr-shr h.acc (b - f) u))
      ∙ sym (field x (f - u) u)
      ∙ ap (λ (y : ℕ). x % 2 ^ y / 2 ^ u) q in (
        w ∙ ap (λ (y : ℕ). y / 2 ^ u) (taken c g h.acc p b k.held f i),
        record {
          over = omega (arith, r.enough);
          place = omega (arith, k.place, r.enough);
          held = rw o' (left c g h.acc p b k.held f i);
        },
      );
}

-- ---- a field of more than 32 bits, in two parts: its first a bits, and its last b
none_less : (n : ℕ) → n - 0 ≡ n
none_less n = omega arith

took_twice : (c f a b : ℕ) (s x y : Accumulator) (ws : List ℕ) (v w : ℕ) → f ≡ a + b → Took c a 0 s ws v x → Took c b 0 x ws w y
    → Took c f 0 s ws (v * 2 ^ b + w) y
took_twice c f a b s x y ws v w e t u = record {
  below = rw (none_less f, e, pow-add 2 a b) (digits_lt (rw (none_less a) at t.below) (rw (none_less b) at u.below));
  few = u.few;
  place = omega (arith, t.place, u.place);
  keeps = λ p m h.
      let g : ℕ → ℕ = stream_bits c ws in
      let i = t.keeps p m h in
      let j = u.keeps (p + a) t.few i.1 in
      let q : p + a + b ≡ p + f = omega arith in
      let k = rw q at j.1 in (
        ap₂ (λ (m n : ℕ). m * 2 ^ b + n) (i.0 ∙ div-one (span c g p a)) (j.0 ∙ div-one (span c g (p + a) b))
            ∙ sym (split c g p a b) ∙ ap (span c g p) (sym e) ∙ sym (div-one (span c g p f)),
        k,
      );
}

module _ (c f : ℕ) (s : Accumulator) (ws : List ℕ) (t : FieldTakeable c f s ws) where
  pub narrow_takeable : f ≤ 32 → Takeable c (f + 0) s ws
  narrow_takeable l = record {
    some = t.some;
    most = t.most;
    size = omega (arith, t.size);
    part = omega (arith, t.narrow l);
    few = omega (arith, t.few);
    there = λ q. room_at c s.at s.have f (length ws) t.some (omega arith) t.there;
  }

  pub field_bits : 0 < f
  field_bits = t.bits

  module _ (l : 32 < f) where
    pub front_takeable : Takeable c (f - 32 + 0) s ws
    front_takeable =
        let e = t.wide l in
        record {
          some = t.some;
          most = t.most;
          size = omega (arith, t.size);
          part = omega (arith, t.size);
          few = omega (arith, t.few);
          there = λ q. room_at c s.at s.have (f - 32) (length ws) t.some (omega arith) (omega (arith, t.there));
        }

    pub back_takeable : (v : ℕ) (x : Accumulator) → Took c (f - 32) 0 s ws v x → Takeable c (32 + 0) x ws
    back_takeable v x u =
        let e = t.wide l in
        record {
          some = t.some;
          most = t.most;
          size = omega arith;
          part = omega arith;
          few = omega (arith, u.few);
          there = λ q. room_at c x.at x.have 32 (length ws) t.some (omega arith) (omega (arith, t.there, u.place));
        }

    pub front_small : (v : ℕ) (x : Accumulator) → Took c (f - 32) 0 s ws v x → v < 2 ^ 32
    front_small v x u = omega (arith, u.below, pow_mono {i = f - 32 - 0} {j = 32} (omega (arith, t.size)))

    pub took_wide : (v w : ℕ) (x y : Accumulator) → Took c (f - 32) 0 s ws v x → Took c 32 0 x ws w y → Took c f 0 s ws (v * 2 ^ 32 + w) y
    took_wide v w x y = took_twice c f (f - 32) 32 s x y ws v w (omega arith)
