-- The parts of fields in three buffers. The idea: a loop that writes the parts of one field after the other fills the three alike (`Parts`), however it
-- comes by the field.
use Rattle.words.proofs.Kit.{◌≡◌, ap, ◌∙◌, List, ℕ, ◌+◌, ◌-◌, ◌/◌, ◌^◌, ◌≤◌, ◌<◌, length, set}
use Rattle.bitstream.proofs.FilledLaws.{Fills, fills_none, fills_turn, fills_all, filled_twice}
use Rattle.payload_format.specs.declared.inner.Packing.{Packing}
use Rattle.payload_format.specs.Field.{field_in, item_in, event_in, channel_in}
use Rattle.payload_unpack.specs.Unpack.{buffers, unpacked}
use Rattle.payload_unpack.specs.inner.Unpackable.{UnpackedOn}

-- a loop over the fields from a up to n of the words ws: the item, the event tags and the channel tag of each field up to k stand in their places
pub record Parts (p : Packing) (ws : List ℕ) (a n k : ℕ) (items events channels items' events' channels' : List ℕ) : Type 0 where
  pub item : Fills a n k (λ j. item_in p (field_in p ws j)) items items'
  pub event : Fills a n k (λ j. event_in p (field_in p ws j)) events events'
  pub channel : Fills a n k (λ j. channel_in p (field_in p ws j)) channels channels'

module _ (p : Packing) (ws : List ℕ) (n : ℕ) (items events channels : List ℕ) where
  pub parts_none : n ≤ length items → n ≤ length events → n ≤ length channels → Parts p ws 0 n 0 items events channels items events channels
  parts_none i e c = record { item = fills_none n _ items i; event = fills_none n _ events e; channel = fills_none n _ channels c }

module _ {p : Packing} {ws : List ℕ} {a n k : ℕ} {items events channels items' events' channels' : List ℕ}
    (f : Parts p ws a n k items events channels items' events' channels') where
  -- v is field k, e its event tags and c its channel tag
  pub parts_turn : {v e c : ℕ} → k < n → v ≡ field_in p ws k → e ≡ event_in p v → c ≡ channel_in p v
      → Parts p ws a n (k + 1) items events channels (set items' k (v / 2 ^ (p.field - p.item))) (set events' k e) (set channels' k c)
  parts_turn q x y z = record {
    item = fills_turn f.item q (ap (item_in p) x);
    event = fills_turn f.event q (y ∙ ap (event_in p) x);
    channel = fills_turn f.channel q (z ∙ ap (channel_in p) x);
  }

module _ {p : Packing} {ws : List ℕ} {n k : ℕ} {items events channels items' events' channels' : List ℕ}
    (f : Parts p ws 0 n k items events channels items' events' channels') where
  pub parts_all : n ≤ k → buffers items' events' channels' ≡ unpacked p n ws (buffers items events channels)
  parts_all q =
      let x = fills_all f.item q in
      let y = fills_all f.event q in
      let z = fills_all f.channel q in
      cc

-- the fields up to a, and then another loop from a on
module _ (p : Packing) (ws : List ℕ) (a n : ℕ) (items events channels items' events' channels' items'' events'' channels'' : List ℕ) where
  pub parts_twice : a ≤ n → n ≤ length items → n ≤ length events → n ≤ length channels
      → UnpackedOn p 0 a ws (buffers items events channels) (buffers items' events' channels')
      → UnpackedOn p a n ws (buffers items' events' channels') (buffers items'' events'' channels'')
      → buffers items'' events'' channels'' ≡ unpacked p n ws (buffers items events channels)
  parts_twice q i e c f g =
      let x = filled_twice a n (λ j. item_in p (field_in p ws j)) items items' items'' q i f.items g.items in
      let y = filled_twice a n (λ j. event_in p (field_in p ws j)) events events' events'' q e f.events g.events in
      let z = filled_twice a n (λ j. channel_in p (field_in p ws j)) channels channels' channels'' q c f.channels g.channels in
      cc
