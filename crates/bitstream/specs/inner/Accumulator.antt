-- An accumulator of bits: its last `have` bits are held, and what stands above them is never looked at. Unpacking takes bits from the left of those
-- that are held, and adds a word's bits behind them when there are too few; packing adds a field's bits behind them, and writes a word when there are
-- enough.
use Rattle.std.specs.Prelude.{◌≡◌, List, ℕ, ◌+◌, ◌-◌, ◌*◌, ◌/◌, ◌%◌, ◌^◌, ◌≤◌, ◌<◌, length, set}
use Rattle.bitstream.specs.Stream.{span}
use Rattle.bitstream.specs.Carried.{stream_bits, word_of}
use Rattle.bitstream.specs.Filled.{filled}
use Rattle.bitstream.specs.declared.inner.accumulator.Accumulator.{Accumulator}

-- nothing is held, and u bits are counted
abbrev pub empty_but : ℕ → Accumulator
empty_but u = record { acc = 0; have = u; at = 0 }

-- ---- reading

-- s counts u bits too many, and holds the bits of the words' stream from bit p up to word `at`
pub record Ahead (c : ℕ) (ws : List ℕ) (u : ℕ) (s : Accumulator) (p : ℕ) : Type 0 where
  pub over : u ≤ s.have
  pub place : c * s.at + u ≡ p + s.have
  pub held : s.acc % 2 ^ (s.have - u) ≡ span c (stream_bits c ws) p (s.have - u)

-- w bits can be counted: they are, or the next word has enough more
pub record Takeable (c w : ℕ) (s : Accumulator) (ws : List ℕ) : Type 0 where
  pub some : 0 < c
  pub most : c ≤ 32
  pub size : w ≤ 64
  pub part : w ≤ s.have + c
  pub few : s.have < w + c
  pub there : s.have < w → s.at < length ws

-- at least w bits are counted
pub record Refilled (c w : ℕ) (s : Accumulator) (ws : List ℕ) (r : Accumulator) : Type 0 where
  pub enough : w ≤ r.have
  pub most : r.have < w + c
  pub place : c * r.at + s.have ≡ c * s.at + r.have
  pub keeps : (u p : ℕ) → s.have < u + c → Ahead c ws u s p → Ahead c ws u r p

-- a field of f bits was taken, of which u bits at the right are left out, and v is what it gave; u bits too many are counted before and after
pub record Took (c f u : ℕ) (s : Accumulator) (ws : List ℕ) (v : ℕ) (r : Accumulator) : Type 0 where
  pub below : v < 2 ^ (f - u)
  pub few : r.have < u + c
  pub place : c * r.at + s.have ≡ c * s.at + r.have + f
  pub keeps : (p : ℕ) → s.have < u + c → Ahead c ws u s p → (v ≡ span c (stream_bits c ws) p f / 2 ^ u) × Ahead c ws u r (p + f)

-- a field of f bits can be taken
pub record FieldTakeable (c f : ℕ) (s : Accumulator) (ws : List ℕ) : Type 0 where
  pub some : 0 < c
  pub most : c ≤ 32
  pub narrow : f ≤ 32 → f ≤ c
  pub wide : 32 < f → c ≡ 32
  pub size : f ≤ 64
  pub bits : 0 < f
  pub few : s.have < c
  pub there : c * s.at + f ≤ length ws * c + s.have

-- ---- writing

-- the words before `at` are written, and s holds the bits of the fields' stream that follow them
pub record Behind (c f : ℕ) (g : ℕ → ℕ) (first out : List ℕ) (s : Accumulator) : Type 0 where
  pub inside : s.at ≤ length first
  pub written : out ≡ filled s.at (word_of c f g) first
  pub held : s.acc % 2 ^ s.have ≡ span f g (c * s.at) s.have

-- v is w bits, and there is a place for the word that they may fill
pub record Pushable (c w : ℕ) (s : Accumulator) (v : ℕ) (out : List ℕ) : Type 0 where
  pub some : 0 < c
  pub most : c ≤ 32
  pub part : w ≤ c
  pub few : s.have < c
  pub fits : v < 2 ^ w
  pub room : c ≤ s.have + w → s.at < length out

pub record Pushed (c w : ℕ) (s : Accumulator) (v : ℕ) (out out' : List ℕ) (r : Accumulator) : Type 0 where
  pub place : c * r.at + r.have ≡ c * s.at + s.have + w
  pub few : r.have < c
  pub keeps : (f : ℕ) (g : ℕ → ℕ) (first : List ℕ) → Behind c f g first out s → v ≡ span f g (c * s.at + s.have) w → Behind c f g first out' r

-- v is a field of f bits
pub record FieldPushable (c f : ℕ) (s : Accumulator) (v : ℕ) (out : List ℕ) : Type 0 where
  pub some : 0 < c
  pub most : c ≤ 32
  pub narrow : f ≤ 32 → f ≤ c
  pub wide : 32 < f → c ≡ 32
  pub size : f ≤ 64
  pub few : s.have < c
  pub fits : v < 2 ^ f
  pub room : c * s.at + s.have + f ≤ length out * c

-- the last bits are written at the left of a word, with zeros behind them
pub record Finished (s : Accumulator) (out out' : List ℕ) : Type 0 where
  pub none : s.have ≡ 0 → out' ≡ out
  pub some : 0 < s.have → out' ≡ set out s.at (s.acc % 2 ^ s.have * 2 ^ (32 - s.have))
