-- Document 01, 'Payload', of packed samples: where each packing field lies in the words, how many words there are, and the parts of a field. Both packings and
-- fields of 64 bits are said as the document says them, apart from the one definition that the promises of `pack` and `unpack` cite.
use Rattle.std.specs.Prelude.{◌≡◌, ℕ, ◌+◌, ◌-◌, ◌*◌, ◌/◌, ◌%◌, ◌^◌, ◌≤◌, ◌<◌, true, false, List, length, get_or}
use Rattle.words.specs.Word.{high_first}
use Rattle.fields.specs.Format.{event_size, channel_size, packing_size, item_size}
use Rattle.bitstream.specs.BigNumber.{value}
use Rattle.payload_format.specs.Format.{link_efficient}

-- v is packing field k of the words
pub record FieldAt (first : ℕ) (ws : List ℕ) (k v : ℕ) : Type 0 where
  -- "Link-efficient fields of f bits follow without a gap": the f bits from bit f * k on, of the words as one number
  pub linked : link_efficient first ≡ true
      → v ≡ value ws / 2 ^ (length ws * 32 - (packing_size first * k + packing_size first)) % 2 ^ packing_size first
  -- "Processing-efficient: each word holds as many whole fields as fit, from the left": of the 32 / f fields in its word, field k is the one of that number
  pub several : link_efficient first ≡ false → packing_size first ≤ 32
      → let m = 32 / packing_size first in v ≡ get_or ws (k / m) 0 / 2 ^ (32 - (k % m * packing_size first + packing_size first)) % 2 ^ packing_size first
  -- "f of 64 takes two words", high first
  pub double : link_efficient first ≡ false → packing_size first ≡ 64 → v ≡ high_first (get_or ws (2 * k) 0) (get_or ws (2 * k + 1) 0)

-- n fields take m words
pub record WordsTaken (first n m : ℕ) : Type 0 where
  -- "n of them take n times f over 32 words, rounded up"
  pub linked : link_efficient first ≡ true → m ≡ (n * packing_size first + 31) / 32
  -- of 32 / f fields in each word, rounded up too
  pub several : link_efficient first ≡ false → packing_size first ≤ 32 → m ≡ (n + (32 / packing_size first - 1)) / (32 / packing_size first)
  pub double : link_efficient first ≡ false → packing_size first ≡ 64 → m ≡ 2 * n

-- "A packing field holds the item at its left, unused bits, event tags, then the channel tag at its right": i, e and c are the parts of field v.
-- "Size-zero tags read as 0", since a remainder by 2 ^ 0 is 0.
pub record PartsOf (first v i e c : ℕ) : Type 0 where
  pub item : i ≡ v / 2 ^ (packing_size first - item_size first)
  pub event : e ≡ v / 2 ^ channel_size first % 2 ^ event_size first
  pub channel : c ≡ v % 2 ^ channel_size first

-- the words hold n fields, whose parts are the entries of three lists
pub record PackedAs (first n : ℕ) (items events channels ws : List ℕ) : Type 0 where
  pub words : WordsTaken first n (length ws)
  pub field : (k : ℕ) → k < n → (v : ℕ) × FieldAt first ws k v × PartsOf first v (get_or items k 0) (get_or events k 0) (get_or channels k 0)
