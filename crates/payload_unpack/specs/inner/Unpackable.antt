-- What the functions inside are given, what their checks answer, and what a loop that goes on promises.
use Rattle.std.specs.Prelude.{◌≡◌, ℕ, ◌+◌, ◌*◌, ◌≤◌, ◌<◌, not, List, [], ◌∷◌, eqb, ltb, length}
use Rattle.words.specs.Numbers.{COUNT, ROOM}
use Rattle.words.specs.Tests.{either}
use Rattle.words.specs.Outcome.{Outcome, accepted}
use Rattle.words.specs.Refusals.{Refusals, first_given}
use Rattle.bitstream.specs.inner.FilledOn.{FilledOn}
use Rattle.payload_format.specs.declared.inner.Packing.{Packing}
use Rattle.payload_format.specs.inner.Legal.{Legal}
use Rattle.payload_format.specs.Field.{field_in, item_in, event_in, channel_in}
use Rattle.payload_unpack.specs.Unpack.{Buffers}

-- the refusals of unpacking behind those of a format and n, by the words that are needed and given, and the places
abbrev pub fit_list : (words n given items events channels : ℕ) → Refusals
fit_list words n given items events channels =
    (COUNT, not (eqb given words)) ∷ (ROOM, either (ltb items n) (either (ltb events n) (ltb channels n))) ∷ []

-- the first of them
unfoldable pub fit_check : (words n given items events channels : ℕ) → Outcome Unit
fit_check words n given items events channels = first_given (fit_list words n given items events channels) (accepted tt)

-- n fields in the words ws, which are just as many as hold them, and room for n entries
pub record Unpackable (p : Packing) (n : ℕ) (ws : List ℕ) (room : ℕ) : Type 0 where
  pub legal : Legal p
  pub few : n ≤ 2097120
  pub there : p.field * n ≤ length ws * p.carry
  pub none_over : length ws * p.carry < p.field * n + p.carry
  pub places : n ≤ room

-- the same where all 32 bits of a word carry fields, of at most 32 bits, so that field k is read by its place; and there is a field
pub record Placed (p : Packing) (n : ℕ) (ws : List ℕ) (room : ℕ) : Type 0 where
  pub given : Unpackable p n ws room
  pub whole : p.carry ≡ 32
  pub narrow : p.field ≤ 32
  pub some : 0 < n

-- the parts of the fields from a up to n were put behind those before a
pub record UnpackedOn (p : Packing) (a n : ℕ) (ws : List ℕ) (b b' : Buffers) : Type 0 where
  pub items : FilledOn a n (λ k. item_in p (field_in p ws k)) b.items b'.items
  pub events : FilledOn a n (λ k. event_in p (field_in p ws k)) b.events b'.events
  pub channels : FilledOn a n (λ k. channel_in p (field_in p ws k)) b.channels b'.channels
