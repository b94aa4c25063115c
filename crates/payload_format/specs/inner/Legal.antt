-- The sizes of a packing that FORMAT does not refuse; the law `legal` of `proofs/FormatLaws.antt` says so.
use Rattle.std.specs.Prelude.{◌≡◌, ◌+◌, ◌≤◌, ◌<◌}
use Rattle.payload_format.specs.declared.inner.Packing.{Packing}

-- what is known of the sizes where FORMAT is not given
pub record Legal (p : Packing) : Type 0 where
  pub some : 0 < p.carry
  pub most : p.carry ≤ 32
  pub narrow : p.field ≤ 32 → p.field ≤ p.carry
  pub wide : 32 < p.field → p.carry ≡ 32
  pub item : 1 ≤ p.item
  pub parts : p.item + p.event + p.channel ≤ p.field
  pub few : p.field ≤ 64
  pub event : p.event ≤ 7
  pub channel : p.channel ≤ 15
