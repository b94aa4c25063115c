-- Bits put into words. The idea: `Behind` says which words are written and which bits of the fields' stream are held after them. Bits put behind them
-- keep it, whether they fill a word (`pushed_word`) or not (`pushed_more`); a field of more than 32 bits is put in two parts (`pushed_wide`), and the
-- last bits are a word with zeros behind them (`finished`).
use Rattle.words.proofs.Kit.{◌≡◌, refl, sym, ap, ap₂, ◌∙◌, List, ℕ, zero, suc, ◌+◌, ◌-◌, ◌*◌, ◌/◌, ◌%◌, ◌^◌, ◌≤◌, ◌<◌, arith, length, set}
use native.Mathlib.Nat.{add_assoc, mul-add, mul_comm, mul_assoc, add-zero, lt_of_mul-lt-mul_right}
use lib.Pow.{pow-add, shr_lt}
use Rattle.bitstream.specs.Stream.{span}
use Rattle.bitstream.specs.Carried.{word_of, needed}
use Rattle.bitstream.specs.Filled.{filled}
use Rattle.bitstream.proofs.SpanLaws.{split, first, last, blank, none}
use Rattle.bitstream.proofs.AccumulatorLaws.{append_below, appended, taken, left, word_left}
use Rattle.bitstream.proofs.CarriedLaws.{needed_even, needed_odd}
use Rattle.bitstream.proofs.FilledLaws.{filled_length, filled_none, filled_more}
use Rattle.bitstream.specs.declared.inner.accumulator.Accumulator.{Accumulator}
use Rattle.bitstream.specs.inner.Accumulator.{empty_but, Behind, Pushable, Pushed, FieldPushable, Finished}

-- nothing is held yet
pub behind_none : (c f : ℕ) (g : ℕ → ℕ) (out : List ℕ) → Behind c f g out out (empty_but 0)
behind_none c f g out = record { inside = omega arith; written = filled_none (word_of c f g) out; held = sym (none f g (c * 0)) }

-- the buffer keeps its length
pub behind_long : {c f : ℕ} {g : ℕ → ℕ} {first out : List ℕ} {s : Accumulator} → Behind c f g first out s → length out ≡ length first
behind_long {first = first} b = ap length b.written ∙ filled_length _ _ first b.inside

-- the bits that are held, with the new ones behind them; and the word that they fill
abbrev pub joint : Accumulator → ℕ → ℕ → ℕ
joint s v w = (s.acc * 2 ^ w) % 2 ^ 64 + v

abbrev pub filled_word : ℕ → Accumulator → ℕ → ℕ → ℕ
filled_word c s v w = (joint s v w / 2 ^ (s.have + w - c) * 2 ^ (32 - c)) % 2 ^ 64 % 2 ^ 32

module _ (c w : ℕ) (s : Accumulator) (v : ℕ) (out : List ℕ) (h : Pushable c w s v out) where
  pub joint_below : joint s v w < 2 ^ 64
  joint_below = append_below s.acc v w 64 (omega arith) h.fits

  pub place_there : c ≤ s.have + w → s.at < length out
  place_there l = h.room l

  joint_is : (f : ℕ) (g : ℕ → ℕ) → s.acc % 2 ^ s.have ≡ span f g (c * s.at) s.have → v ≡ span f g (c * s.at + s.have) w
      → joint s v w % 2 ^ (s.have + w) ≡ span f g (c * s.at) (s.have + w)
  joint_is f g e q = appended f g s.acc (c * s.at) s.have e v w 64 (omega arith) h.fits q

  pub pushed_more : s.have + w < c → Pushed c w s v out out (record { acc = joint s v w; have = s.have + w; at = s.at })
  pushed_more l = record {
    place = sym (add_assoc (c * s.at) s.have w);
    few = l;
    keeps = λ f g o k q. record { inside = k.inside; written = k.written; held = joint_is f g k.held q };
  }

  pub pushed_word : c ≤ s.have + w
      → Pushed c w s v out (set out s.at (filled_word c s v w)) (record { acc = joint s v w; have = s.have + w - c; at = s.at + 1 })
  unfolding word_of
  pushed_word l = record {
    place = omega (arith, mul-add c s.at 1);
    few = omega arith;
    keeps = λ f g o k q.
        let j : joint s v w % 2 ^ (s.have + w) ≡ span f g (c * s.at) (s.have + w) = joint_is f g k.held q in
        let next : c * s.at + c ≡ c * (s.at + 1) = omega (arith, mul-add c s.at 1) in
        let there : s.at < length o = omega (arith, h.room l, behind_long k) in
        let word : filled_word c s v w ≡ word_of c f g s.at =
        word_left (joint s v w / 2 ^ (s.have + w - c)) c h.most
        ∙ ap (λ (x : ℕ). x * 2 ^ (32 - c)) (taken f g (joint s v w) (c * s.at) (s.have + w) j c l) in
        record {
          inside = omega arith;
          written = filled_more s.at (word_of c f g) o out (filled_word c s v w) there k.written word;
          held = left f g (joint s v w) (c * s.at) (s.have + w) j c l ∙ ap (λ (x : ℕ). span f g x (s.have + w - c)) next;
        };
  }

-- the bits that are left, at the left of a word
last_word : (c f a h x : ℕ) (g : ℕ → ℕ) → h ≤ c → c ≤ 32 → x ≡ span f g (c * a) h → span f g (c * a + h) (c - h) ≡ 0 → x * 2 ^ (32 - h) ≡ word_of c f g a
unfolding word_of
last_word c f a h x g l k e z =
    let q : 32 - h ≡ c - h + (32 - c) = omega arith in
    let r : h + (c - h) ≡ c = omega arith in
    ap₂ (λ (y m : ℕ). y * 2 ^ m) e q
    ∙ ap (λ (y : ℕ). span f g (c * a) h * y) (pow-add 2 (c - h) (32 - c))
    ∙ sym (mul_assoc (span f g (c * a) h) (2 ^ (c - h)) (2 ^ (32 - c)))
    ∙ ap (λ (y : ℕ). y * 2 ^ (32 - c))
    (sym (add-zero (span f g (c * a) h * 2 ^ (c - h)))
    ∙ ap (λ (y : ℕ). span f g (c * a) h * 2 ^ (c - h) + y) (sym z)
    ∙ sym (split f g (c * a) h (c - h))
    ∙ ap (span f g (c * a)) r)

-- all n fields are put, and the last bits written
pub finished : (c f n : ℕ) (g : ℕ → ℕ) (first out out' : List ℕ) (s : Accumulator) → 0 < c → c ≤ 32 → 0 < f → ((j : ℕ) → n ≤ j → g j ≡ 0)
    → s.have < c → c * s.at + s.have ≡ f * n → (0 < s.have → s.at < length out) → Behind c f g first out s → Finished s out out'
    → out' ≡ filled (needed c f n) (word_of c f g) first
finished c f n g first out out' s pc mc pf z l e r k q = go s.have refl
  where
    go : (h : ℕ) → s.have ≡ h → out' ≡ filled (needed c f n) (word_of c f g) first
    go zero x =
        q.none x ∙ k.written
        ∙ ap (λ (m : ℕ). filled m (word_of c f g) first) (sym (needed_even c f n s.at pc (ap (λ (y : ℕ). c * s.at + y) (sym x) ∙ e)))
    go (suc h) x =
        let w : s.acc % 2 ^ s.have * 2 ^ (32 - s.have) ≡ word_of c f g s.at =
        last_word c f s.at s.have (s.acc % 2 ^ s.have) g (omega arith) mc k.held
        (blank f n g pf z (c * s.at + s.have) (c - s.have) (omega (arith, mul_comm f n))) in
        q.some (omega arith)
        ∙ filled_more s.at (word_of c f g) first out (s.acc % 2 ^ s.have * 2 ^ (32 - s.have)) (omega (arith, r (omega arith), behind_long k))
        k.written w
        ∙ ap (λ (m : ℕ). filled m (word_of c f g) first) (sym (needed_odd c f n s.at h (omega arith) (ap (λ (y : ℕ). c * s.at + y) (sym x) ∙ e)))

-- ---- a field of more than 32 bits, in two parts
-- its first a bits, and its last b
pushed_twice : (c : ℕ) (s h r : Accumulator) (v f a b : ℕ) (out out₁ out₂ : List ℕ) → f ≡ a + b
    → Pushed c a s (v / 2 ^ b) out out₁ h → Pushed c b h (v % 2 ^ b) out₁ out₂ r → Pushed c f s v out out₂ r
pushed_twice c s h r v f a b out out₁ out₂ e x y = record {
  place = omega (arith, x.place, y.place);
  few = y.few;
  keeps = λ n g o k q.
      let p : ℕ = c * s.at + s.have in
      let q' : v ≡ span n g p (a + b) = q ∙ ap (span n g p) e in
      y.keeps n g o
      (x.keeps n g o k (ap (λ (z : ℕ). z / 2 ^ b) q' ∙ first n g p a b))
      (ap (λ (z : ℕ). z % 2 ^ b) q' ∙ last n g p a b ∙ ap (λ (z : ℕ). span n g z b) (sym x.place));
}

-- a word that is filled has a place
room_for : (c a h w l : ℕ) → 0 < c → c ≤ h + w → c * a + h + w ≤ l * c → a < l
room_for c a h w l pc k r = lt_of_mul-lt-mul_right c (omega (arith, mul_comm c a))

module _ (c f : ℕ) (s : Accumulator) (v : ℕ) (out : List ℕ) (p : FieldPushable c f s v out) where
  pub narrow_pushable : f ≤ 32 → Pushable c f s v out
  narrow_pushable l = record {
    some = p.some;
    most = p.most;
    part = p.narrow l;
    few = p.few;
    fits = p.fits;
    room = λ q. room_for c s.at s.have f (length out) p.some q p.room;
  }

  module _ (l : 32 < f) where
    wide : f - 32 + 32 ≡ f
    wide = omega arith

    pub front_pushable : Pushable c (f - 32) s (v / 2 ^ 32) out
    front_pushable =
        let e = p.wide l in
        record {
          some = p.some;
          most = p.most;
          part = omega (arith, p.size);
          few = p.few;
          fits = shr_lt (f - 32) 32 (rw wide p.fits);
          room = λ q. room_for c s.at s.have (f - 32) (length out) p.some q (omega (arith, p.room));
        }

    module _ (h : Accumulator) (d : ℕ) (mid : List ℕ) (x : Pushed c (f - 32) s (v / 2 ^ 32) out mid h) (e : d ≡ v % 2 ^ 32) where
      pub back_pushable : length mid ≡ length out → d < 2 ^ 32 → Pushable c 32 h d mid
      back_pushable m b =
          let q = p.wide l in
          record {
            some = p.some;
            most = p.most;
            part = omega arith;
            few = x.few;
            fits = b;
            room = λ r. room_for c h.at h.have 32 (length mid) p.some r (rw m (omega (arith, p.room, x.place)));
          }

      pub pushed_wide : (r : Accumulator) (out' : List ℕ) → Pushed c 32 h d mid out' r → Pushed c f s v out out' r
      pushed_wide r out' y = pushed_twice c s h r v f (f - 32) 32 out mid out' (sym wide) x (rw e at y)
