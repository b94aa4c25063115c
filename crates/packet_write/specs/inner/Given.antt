-- What the functions inside are given: the parts of a packet as fifteen words, and its header word.
use Rattle.std.specs.Prelude.{ℕ, ◌+◌, ◌≡◌, ◌≤◌, ◌<◌, Bool, true, List, length}
use Rattle.packet.specs.Header.{classed, trailed}
use Rattle.packet.specs.declared.Parts.{Parts}
use Rattle.packet_write.specs.AsWords.{parts_in}
use Rattle.packet_write.specs.Write.{size_for, class_fits, parts_fit, governs, pad_for, pad_fits}

-- q are fifteen words, and w is a header word of their parts: it says T as they do, and where it says C, their class fits
pub record HeaderFor (w : ℕ) (q : List ℕ) : Type 0 where
  pub long : length q ≡ 15
  pub trailer : trailed w ≡ (parts_in q).trailed
  pub class : class_fits (classed w) (parts_in q).oui (parts_in q).information (parts_in q).code ≡ true

-- a packet that may be laid with a pad count: its numbers fit, the pad count where there is a class, its size has sixteen bits, and there is room
pub record Layable (pad : ℕ) (p : Parts) (body : List ℕ) (room at : ℕ) : Type 0 where
  pub kind : p.kind < 6
  pub fit : parts_fit p ≡ true
  pub padding : p.classed ≡ true → pad < 32
  pub small : size_for p (length body) < 65536
  pub inside : at + size_for p (length body) ≤ room

-- 49A governs a packet where `governed` says so; where it does not, its pad count is 0
pub record Chosen (governed : Bool) (pad : ℕ) (p : Parts) : Type 0 where
  pub choice : governs governed p ≡ governed
  pub count : pad_for governed pad p ≡ pad

-- a packet that 49A governs, whose numbers fit, and the pad count where there is a class
pub record Governed (pad : ℕ) (p : Parts) : Type 0 where
  pub kind : p.kind ≡ 1
  pub fit : parts_fit p ≡ true
  pub padding : pad_fits true pad p ≡ true
