-- Document 01, 'The table and its page': "A body: identifier, held indicator, for types 1, 3, 4, 5 three words each (seen, missing, last plus one or 0 if not
-- started), then the held words in field order"; and the choice (document 02, C-13), which stands behind the counts. A record's first words are those of its
-- body; the slots are squeezed to the held words.
use Rattle.std.specs.Prelude.{ℕ, ◌+◌, List, ◌++◌, replicate}
use Rattle.words.specs.Part.{part}
use Rattle.words.specs.SetBits.{bits_of}
use Rattle.fields.specs.Sizes.{sizes_of}
use Rattle.record.specs.Layout.{head_words, slot_words, held_of, slots_of}
use Rattle.record.specs.After.{refilled, held_words}

-- the body of a record
unfoldable pub page_body : List ℕ → List ℕ
page_body r = part 0 head_words r ++ held_words (held_of r) (slots_of r)

-- the length of a body, by its held indicator
unfoldable pub page_body_words : ℕ → ℕ
page_body_words held = head_words + sizes_of (bits_of 31 held)

-- the record of a body: the held words go to their slots, and the other slots are zero
unfoldable pub record_of : List ℕ → List ℕ
record_of b = part 0 head_words b ++ refilled (held_of b) head_words b (replicate slot_words 0)
