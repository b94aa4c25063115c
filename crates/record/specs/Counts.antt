-- Document 01, 'The table and its page': "Types 1, 3, 4 and 5 are counted apart within a stream. Each has seen and missing, both kept modulo 2^32, and
-- the last count."
use Rattle.std.specs.Prelude.{ℕ, ◌+◌, ◌-◌, ◌%◌, ◌^◌, List, [], ◌∷◌, eqb}
use Rattle.words.specs.Tests.{pick}
use Rattle.words.specs.Part.{put}
use Rattle.record.specs.Layout.{count_at, count_words, seen_of, missing_of, last_of}

-- "(count - last - 1) modulo 16", with 16 more so that the difference does not fall below zero
unfoldable pub missed_of : ℕ → ℕ → ℕ
missed_of last count = (count + 16 - last - 1) % 16

-- "The first packet adds nothing to missing; later ones add (count - last - 1) modulo 16." The last count is given as last plus one, or 0
unfoldable pub added_of : ℕ → ℕ → ℕ
added_of last count = pick (eqb last 0) 0 (missed_of (last - 1) count)

-- the three words of a count after a packet: one more is seen, missing has what the packet adds, and its count is the last
unfoldable pub counted_of : ℕ → List ℕ → List ℕ
counted_of count ws =
    ((seen_of ws + 1) % 2 ^ 32)
    ∷ ((missing_of ws + added_of (last_of ws) count) % 2 ^ 32)
    ∷ (count + 1)
    ∷ []

-- a record after a packet of the type of order k is counted, and what that packet adds to missing
unfoldable pub count_record : ℕ → ℕ → List ℕ → List ℕ
count_record k count r = put (count_at k) 3 (counted_of count (count_words k r)) r

unfoldable pub added_to : ℕ → ℕ → List ℕ → ℕ
added_to k count r = added_of (last_of (count_words k r)) count
