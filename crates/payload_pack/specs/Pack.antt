-- Document 01: "Pack: FORMAT, COUNT, VALUE, ROOM"; "in packing, the three inputs have n entries each".
use Rattle.std.specs.Prelude.{ℕ, ◌^◌, Bool, not, List, [], ◌∷◌, length, get_or, eqb, ltb}
use Rattle.words.specs.Tests.{either}
use Rattle.words.specs.All.{all}
use Rattle.words.specs.Outcome.{Outcome, accepted, Done}
use Rattle.words.specs.Refusals.{Refusals, first_given}
use Rattle.words.specs.Numbers.{FORMAT, COUNT, VALUE, ROOM}
use Rattle.fields.specs.Format.{event_size, channel_size, item_size}
use Rattle.bitstream.specs.Carried.{word_of, needed}
use Rattle.bitstream.specs.Filled.{filled}
use Rattle.payload_format.specs.declared.inner.Packing.{Packing}
use Rattle.payload_format.specs.Format.{format_bad, packing_of}
use Rattle.payload_format.specs.Count.{count_bad, words_for}
use Rattle.payload_format.specs.Field.{fields_of}

-- the words of n fields, in the first places; those after them stay
abbrev pub packed : Packing → ℕ → (items events channels out : List ℕ) → List ℕ
packed p n items events channels out = filled (needed p.carry p.field n) (word_of p.carry p.field (fields_of p items events channels)) out

-- the numbers of a list fit w bits
unfoldable pub fitting : ℕ → List ℕ → Bool
fitting w l = all (length l) (λ k. ltb (get_or l k 0) (2 ^ w))

-- VALUE: "a number to be written .. does not fit its bits"
unfoldable pub value_bad : (first : ℕ) (items events channels : List ℕ) → Bool
value_bad first items events channels =
    either (not (fitting (item_size first) items))
    (either (not (fitting (event_size first) events))
    (not (fitting (channel_size first) channels)))

-- the refusals, by how many places the buffer has
abbrev pub pack_list : (first second : ℕ) (items events channels : List ℕ) (room : ℕ) → Refusals
pack_list first second items events channels room =
    let n = length items in
    (FORMAT, format_bad first)
    -- "wrong number of items"; "the three inputs have n entries each"
    ∷ (COUNT, either (count_bad first second n) (either (not (eqb (length events) n)) (not (eqb (length channels) n))))
    ∷ (VALUE, value_bad first items events channels)
    ∷ (ROOM, ltb room (words_for first n))
    ∷ []

-- what `pack` answers, the words written, and what it leaves in the buffer
unfoldable pub pack_of : (first second : ℕ) (items events channels out : List ℕ) → Outcome (Done ℕ (List ℕ))
pack_of first second items events channels out =
    first_given (pack_list first second items events channels (length out))
    (accepted (record { says = words_for first (length items); leaves = packed (packing_of first) (length items) items events channels out }))
