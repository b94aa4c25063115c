-- Packing fields in words of 32 bits, of which the leftmost c carry the stream of fields. One number says both packings of document 01: c is 32 where
-- "fields of f bits follow without a gap", and as many bits as whole fields take where "each word holds as many whole fields as fit, from the left".
use Rattle.std.specs.Prelude.{ℕ, ◌+◌, ◌-◌, ◌*◌, ◌/◌, ◌^◌, List, get_or}
use Rattle.bitstream.specs.Stream.{span}

-- the bits of word j that carry the stream; past the last word they are 0
unfoldable pub stream_bits : ℕ → List ℕ → ℕ → ℕ
stream_bits c ws j = get_or ws j 0 / 2 ^ (32 - c)

-- reading: packing field k, of f bits, in the words ws
unfoldable pub packing_field : ℕ → ℕ → List ℕ → ℕ → ℕ
packing_field c f ws k = span c (stream_bits c ws) (f * k) f

-- writing: word j of the packing fields g; the bits that carry nothing are 0
unfoldable pub word_of : ℕ → ℕ → (ℕ → ℕ) → ℕ → ℕ
word_of c f g j = span f g (c * j) c * 2 ^ (32 - c)

-- the words that n fields take: their bits over c, rounded up
unfoldable pub needed : ℕ → ℕ → ℕ → ℕ
needed c f n = (f * n + (c - 1)) / c
