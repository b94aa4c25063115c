-- Fields put into words, one after the other. The idea: before field k the words that are full are written, and the accumulator holds the bits of the
-- fields' stream after them (`Writing`); there is room for the next field (`writing_can`), which leaves the same of field k + 1 (`writing_next`), and after
-- the last field the last bits fill the words that are needed (`writing_done`).
use Rattle.words.proofs.Kit.{◌≡◌, sym, ap, ◌∙◌, List, ℕ, ◌+◌, ◌*◌, ◌^◌, ◌≤◌, ◌<◌, arith, length}
use native.Mathlib.Nat.{mul-add, mul_comm, lt_of_mul-lt-mul_right, mul-le-mul_left, mul-le-mul_right}
use Rattle.bitstream.specs.Stream.{span}
use Rattle.bitstream.specs.Carried.{word_of, needed}
use Rattle.bitstream.specs.Filled.{filled}
use Rattle.bitstream.specs.declared.inner.accumulator.Accumulator.{Accumulator}
use Rattle.bitstream.specs.inner.Accumulator.{empty_but, Behind, Pushed, FieldPushable, Finished}
use Rattle.bitstream.proofs.SpanLaws.{whole}
use Rattle.bitstream.proofs.CarriedLaws.{enough}
use Rattle.bitstream.proofs.WriteLaws.{behind_none, behind_long, finished}
use Rattle.payload_format.specs.declared.inner.Packing.{Packing}
use Rattle.payload_pack.specs.inner.Packable.{Packable}

-- ---- a loop over the fields: k of them are put
pub record Writing (c f : ℕ) (g : ℕ → ℕ) (first out : List ℕ) (s : Accumulator) (k : ℕ) : Type 0 where
  pub place : c * s.at + s.have ≡ f * k
  pub few : s.have < c
  pub behind : Behind c f g first out s

pub writing_start : (c f : ℕ) (g : ℕ → ℕ) (out : List ℕ) (s : Accumulator) → 0 < c → s ≡ empty_but 0 → Writing c f g out out s 0
writing_start c f g out s h e = rw e (record { place = omega arith; few = h; behind = behind_none c f g out })

pub writing_length : {c f : ℕ} {g : ℕ → ℕ} {first out : List ℕ} {s : Accumulator} {k : ℕ} → Writing c f g first out s k → length out ≡ length first
writing_length w = behind_long w.behind

module _ (p : Packing) (n : ℕ) (g : ℕ → ℕ) (first out : List ℕ) (s : Accumulator) (k : ℕ) (u : Packable p n (length first))
    (w : Writing p.carry p.field g first out s k) where
  -- the bits of all fields have room
  all_room : p.field * n ≤ length out * p.carry
  all_room =
      let e : length out * p.carry ≡ length first * p.carry = ap (λ (x : ℕ). x * p.carry) (writing_length w) in
      omega (arith, e, enough p.carry p.field n u.legal.some, mul-le-mul_right p.carry u.room)

  -- there is room for the next field
  pub writing_can : (v : ℕ) → k < n → v < 2 ^ p.field → FieldPushable p.carry p.field s v out
  writing_can v l b =
      let m : p.field * (k + 1) ≤ p.field * n = mul-le-mul_left p.field (omega arith) in
      record {
        some = u.legal.some;
        most = u.legal.most;
        narrow = u.legal.narrow;
        wide = u.legal.wide;
        size = u.legal.few;
        few = w.few;
        fits = b;
        room = omega (arith, m, mul-add p.field k 1, all_room, w.place);
      }

  -- and for the last word
  pub writing_last : k ≡ n → (s.have < 32) × (0 < s.have → s.at < length out)
  writing_last e =
      let q : p.field * k ≡ p.field * n = ap (λ (x : ℕ). p.field * x) e in (
        omega (arith, w.few, u.legal.most),
        λ h. lt_of_mul-lt-mul_right p.carry (omega (arith, q, w.place, all_room, mul_comm p.carry s.at)),
      )

  pub writing_done : (out' : List ℕ) → k ≡ n → ((j : ℕ) → n ≤ j → g j ≡ 0) → Finished s out out'
      → out' ≡ filled (needed p.carry p.field n) (word_of p.carry p.field g) first
  writing_done out' e z h =
      finished p.carry p.field n g first out out' s u.legal.some u.legal.most (omega (arith, u.legal.item, u.legal.parts)) z
      w.few (w.place ∙ ap (λ (x : ℕ). p.field * x) e) (writing_last e).1 w.behind h

pub writing_next : {c f : ℕ} {g : ℕ → ℕ} {first out out' : List ℕ} {s r : Accumulator} {k v : ℕ} → Writing c f g first out s k → Pushed c f s v out out' r
    → v ≡ g k → g k < 2 ^ f → Writing c f g first out' r (k + 1)
writing_next {c} {f} {g} {first} {out} {out'} {s} {r} {k} {v} w q e b =
    let place : c * s.at + s.have ≡ k * f = w.place ∙ mul_comm f k in
    record {
      place = omega (arith, q.place, w.place, mul-add f k 1);
      few = q.few;
      behind = q.keeps f g first w.behind (e ∙ sym (whole f g k b) ∙ ap (λ (x : ℕ). span f g x f) (sym place));
    }
