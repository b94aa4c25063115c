-- Fields taken from words, one after the other. The idea: before field k the accumulator holds bits of the words' stream from bit f * k on (`Reading`), and
-- counts u bits too many, as many as are left out of each field; the next field is there (`reading_can`, and `field_can` where u is 0), what is taken is
-- field k without those bits (`reading_item`, `reading_field`), and leaves the same of field k + 1 (`reading_next`).
use Rattle.words.proofs.Kit.{◌≡◌, ◌∙◌, List, ℕ, ◌+◌, ◌-◌, ◌*◌, ◌/◌, ◌^◌, ◌≤◌, ◌<◌, arith, length}
use native.Mathlib.Nat.{div-one, mul-add, mul-le-mul_left}
use Rattle.bitstream.specs.Carried.{packing_field}
use Rattle.bitstream.specs.declared.inner.accumulator.Accumulator.{Accumulator}
use Rattle.bitstream.specs.inner.Accumulator.{empty_but, Ahead, Takeable, Took, FieldTakeable}
use Rattle.bitstream.proofs.CarriedLaws.{room_at}
use Rattle.bitstream.proofs.ReadLaws.{ahead_none}
use Rattle.payload_format.specs.declared.inner.Packing.{Packing}
use Rattle.payload_format.specs.inner.Legal.{Legal}
use Rattle.payload_unpack.specs.inner.Unpackable.{Unpackable}

-- a loop over the fields: k of them are taken
pub record Reading (c f u : ℕ) (ws : List ℕ) (s : Accumulator) (k : ℕ) : Type 0 where
  pub few : s.have < u + c
  pub ahead : Ahead c ws u s (f * k)

pub reading_start : (c f u : ℕ) (ws : List ℕ) (s : Accumulator) → 0 < c → s ≡ empty_but u → Reading c f u ws s 0
reading_start c f u ws s h e = rw e (record { few = omega arith; ahead = ahead_none c ws u (f * 0) (omega arith) })

-- an item takes some of its field
pub item_some : (p : Packing) → Legal p → p.field - p.item < p.field
item_some p l = omega arith

-- the next field is there
pub reading_can : (p : Packing) (n room u : ℕ) (ws : List ℕ) (s : Accumulator) (k : ℕ) → Unpackable p n ws room → u < p.field → p.field ≤ 32 → k < n
    → Reading p.carry p.field u ws s k → Takeable p.carry (p.field + u) s ws
reading_can p n room u ws s k v l h m r =
    let g : p.field * (k + 1) ≤ p.field * n = mul-le-mul_left p.field (omega arith) in
    record {
      some = v.legal.some;
      most = v.legal.most;
      size = omega arith;
      part = omega (arith, v.legal.narrow h, r.ahead.over);
      few = omega (arith, r.few);
      there = λ q.
          room_at p.carry s.at s.have (p.field + u) (length ws) v.legal.some q
          (omega (arith, g, mul-add p.field k 1, v.there, r.ahead.place));
    }

pub field_can : (p : Packing) (n room : ℕ) (ws : List ℕ) (s : Accumulator) (k : ℕ) → Unpackable p n ws room → k < n → Reading p.carry p.field 0 ws s k
    → FieldTakeable p.carry p.field s ws
field_can p n room ws s k u l r =
    let m : p.field * (k + 1) ≤ p.field * n = mul-le-mul_left p.field (omega arith) in
    record {
      some = u.legal.some;
      most = u.legal.most;
      narrow = u.legal.narrow;
      wide = u.legal.wide;
      size = u.legal.few;
      bits = omega (arith, u.legal.item, u.legal.parts);
      few = omega (arith, r.few);
      there = omega (arith, m, mul-add p.field k 1, u.there, r.ahead.place);
    }

-- what is taken, and then one more is
module _ {c f u : ℕ} {ws : List ℕ} {s t : Accumulator} {k v : ℕ} (r : Reading c f u ws s k) (h : Took c f u s ws v t) where
  pub reading_item : v ≡ packing_field c f ws k / 2 ^ u
  unfolding packing_field
  reading_item = (h.keeps (f * k) r.few r.ahead).0

  pub reading_next : Reading c f u ws t (k + 1)
  reading_next =
      let e : f * k + f ≡ f * (k + 1) = omega (arith, mul-add f k 1) in
      record { few = h.few; ahead = rw e at (h.keeps (f * k) r.few r.ahead).1 }

pub reading_field : {c f : ℕ} {ws : List ℕ} {s t : Accumulator} {k v : ℕ} → Reading c f 0 ws s k → Took c f 0 s ws v t → v ≡ packing_field c f ws k
reading_field {c} {f} {ws} {k = k} r h = reading_item r h ∙ div-one (packing_field c f ws k)
