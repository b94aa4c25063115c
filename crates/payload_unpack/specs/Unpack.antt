-- Document 01: "Unpack: FORMAT, COUNT, ROOM"; "Unpacking is given n and exactly the words needed".
use Rattle.std.specs.Prelude.{ℕ, not, List, [], ◌∷◌, length, eqb, ltb}
use Rattle.words.specs.Tests.{either}
use Rattle.words.specs.Outcome.{Outcome, accepted, Done}
use Rattle.words.specs.Refusals.{Refusals, first_given}
use Rattle.words.specs.Numbers.{FORMAT, COUNT, ROOM}
use Rattle.bitstream.specs.Filled.{filled}
use Rattle.payload_format.specs.declared.inner.Packing.{Packing}
use Rattle.payload_format.specs.Format.{format_bad, packing_of}
use Rattle.payload_format.specs.Count.{count_bad, words_for}
use Rattle.payload_format.specs.Field.{field_in, item_in, event_in, channel_in}

-- the three buffers that `unpack` is lent
pub record Buffers : Type 0 where
  pub items : List ℕ
  pub events : List ℕ
  pub channels : List ℕ

abbrev pub buffers : List ℕ → List ℕ → List ℕ → Buffers
buffers items events channels = record { items = items; events = events; channels = channels }

-- the parts of the first n fields, in the first n places; entries past n stay
abbrev pub unpacked : Packing → ℕ → List ℕ → Buffers → Buffers
unpacked p n ws b = record {
  items = filled n (λ k. item_in p (field_in p ws k)) b.items;
  events = filled n (λ k. event_in p (field_in p ws k)) b.events;
  channels = filled n (λ k. channel_in p (field_in p ws k)) b.channels;
}

-- the refusals, by how many words there are and how many places in each buffer
abbrev pub unpack_list : (first second n given items events channels : ℕ) → Refusals
unpack_list first second n given items events channels =
    (FORMAT, format_bad first)
    -- "wrong number of items or words"
    ∷ (COUNT, either (count_bad first second n) (not (eqb given (words_for first n))))
    -- "a buffer to be written is too short"
    ∷ (ROOM, either (ltb items n) (either (ltb events n) (ltb channels n)))
    ∷ []

-- what `unpack` answers, n, and what it leaves in the buffers
unfoldable pub unpack_of : (first second n : ℕ) → List ℕ → Buffers → Outcome (Done ℕ Buffers)
unpack_of first second n ws b =
    first_given (unpack_list first second n (length ws) (length b.items) (length b.events) (length b.channels))
    (accepted (record { says = n; leaves = unpacked (packing_of first) n ws b }))
