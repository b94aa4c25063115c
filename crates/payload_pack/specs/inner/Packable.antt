-- What the functions inside are given, and what their checks answer.
use Rattle.std.specs.Prelude.{◌≡◌, ℕ, ◌^◌, ◌≤◌, ◌<◌, List, length, get_or}
use Rattle.words.specs.Outcome.{Outcome, accepted}
use Rattle.words.specs.Refusals.{first_given}
use Rattle.bitstream.specs.Carried.{needed}
use Rattle.payload_format.specs.declared.inner.Packing.{Packing}
use Rattle.payload_format.specs.inner.Legal.{Legal}
use Rattle.payload_pack.specs.Pack.{pack_list}

-- the first refusal of packing
unfoldable pub pack_check : (first second : ℕ) (items events channels : List ℕ) (room : ℕ) → Outcome Unit
pack_check first second items events channels room = first_given (pack_list first second items events channels room) (accepted tt)

-- n fields, and room for their words
pub record Packable (p : Packing) (n places : ℕ) : Type 0 where
  pub legal : Legal p
  pub few : n ≤ 2097120
  pub room : needed p.carry p.field n ≤ places

-- a list of n numbers that fit w bits
pub record Fitting (w n : ℕ) (l : List ℕ) : Type 0 where
  pub many : length l ≡ n
  pub each : (k : ℕ) → k < n → get_or l k 0 < 2 ^ w
