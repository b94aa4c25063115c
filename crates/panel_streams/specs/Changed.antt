-- Which held fields are not the same in two records, such as those of a stream before a packet and after it: TABLE where either table is not well made, STREAM
-- where either number is not in its table.
use Rattle.std.specs.Prelude.{ℕ, Bool, not, List, [], ◌∷◌, leb}
use Rattle.words.specs.Numbers.{TABLE, STREAM}
use Rattle.words.specs.Tests.{both, either, same_words}
use Rattle.words.specs.Word.{marked}
use Rattle.words.specs.Outcome.{Outcome, accepted}
use Rattle.words.specs.Refusals.{Refusals, first_given}
use Rattle.record.specs.Held.{slotted}
use Rattle.record.specs.Layout.{held_words_in}
use Rattle.table.specs.Layout.{streams_of, record_at}
use Rattle.table.specs.Well.{well_made}

-- the field of bit b is one of bits 30 to 10, and the words held for it by the one record and by the other are not the same; an absent field holds no words
unfoldable pub differs : List ℕ → List ℕ → ℕ → Bool
differs r q b = both (slotted b) (not (same_words (held_words_in b r) (held_words_in b q)))

-- the bits of all such fields
unfoldable pub changed_in : List ℕ → List ℕ → ℕ
changed_in r q = marked 31 (differs r q)

-- "table not well made"; "a stream number not in the table": of either
abbrev pub changed_list : List ℕ → ℕ → List ℕ → ℕ → Refusals
changed_list t s u v =
    (TABLE, either (not (well_made t)) (not (well_made u))) ∷ (STREAM, either (leb (streams_of t) s) (leb (streams_of u) v)) ∷ []

-- what `changed` answers
unfoldable pub changed_of : List ℕ → ℕ → List ℕ → ℕ → Outcome ℕ
changed_of t s u v = first_given (changed_list t s u v) (accepted (changed_in (record_at s t) (record_at v u)))
