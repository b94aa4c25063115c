-- "Bad .. tables, pages .. are refused": which are bad. Document 01, 'The table and its page', clause by clause, with what C-11 and C-13 of document 02 add;
-- the tests that TABLE and PAGE go by hold exactly where the clauses do.
use Rattle.std.specs.Prelude.{◌≡◌, ℕ, ◌+◌, ◌-◌, ◌^◌, ◌≤◌, ◌<◌, true, false, List, length, get_or, ◌↔◌, replicate}
use Rattle.words.specs.Numbers.{PAGE}
use Rattle.words.specs.Tests.{among}
use Rattle.words.specs.Word.{bits, has}
use Rattle.words.specs.Outcome.{refused}
use Rattle.fields.specs.Sizes.{field_size}
use Rattle.fields.specs.Rules.{rule_of}
use Rattle.record.specs.Layout.{held_of, choice_of, counted_types, order_of, count_words, seen_of, missing_of, last_of, slot_of}
use Rattle.table.specs.Layout.{streams_of, layout_words, record_at}
use Rattle.table.specs.Identifiers.{declared}
use Rattle.table.specs.Well.{well_made}
use Rattle.page.specs.Good.{page_good}
use Rattle.page.specs.PutBack.{put_back_of}
use Rattle.index.specs.Good.{index_good, GoodIndex}
use Rattle.demands.specs.Things.{field_bit, persistent, passing}
use Rattle.demands.specs.Program.{ours}
use Rattle.demands.specs.Resumed.{SavesAs}

-- the state word that a record holds
abbrev pub state_in : List ℕ → ℕ
state_in r = get_or (slot_of 16 r) 0 0

-- of the record of a stream. A count's third word is "last plus one or 0 if not started"
pub record RecordClauses (r : List ℕ) : Type 0 where
  -- "unheld fields .. zero", field 22 among them
  pub unheld : (b : ℕ) → field_bit b ≡ true → has (held_of r) b ≡ false → slot_of b r ≡ replicate (field_size b) 0
  -- "and words of no stated meaning zero": of the held indicator bits 31 and 9 to 0 have none; the slot of field 22, which has none either, is zero by the
  -- clause above
  pub meaningless : (held_of r < 2 ^ 31) × (bits 9 0 (held_of r) ≡ 0)
  -- "held fields obey their rules"
  pub obeys : (b : ℕ) → field_bit b ≡ true → has (held_of r) b ≡ true → rule_of b (slot_of b r) ≡ true
  -- document 02, C-11: "a page that holds field 22, those bits or a value without its enable is PAGE, a table likewise TABLE", those bits being over-range and
  -- sample loss (25/13, 24/12)
  pub never : has (held_of r) 22 ≡ false
  pub unlit : has (held_of r) 16 ≡ true → (e : ℕ) → passing e ≡ true → (has (state_in r) e ≡ false) × (has (state_in r) (e - 12) ≡ false)
  pub enabled : has (held_of r) 16 ≡ true → (e : ℕ) → persistent e ≡ true → has (state_in r) (e - 12) ≡ true → has (state_in r) e ≡ true
  -- and it is a word, which is said since a list may have numbers of any size
  pub word : has (held_of r) 16 ≡ true → state_in r < 2 ^ 32
  -- "a count not started has zeros"
  pub unstarted : (kind : ℕ) → among kind counted_types ≡ true → let count = count_words (order_of kind) r in
      last_of count ≡ 0 → (seen_of count ≡ 0) × (missing_of count ≡ 0)
  -- "a last count is at most 15"
  pub small : (kind : ℕ) → among kind counted_types ≡ true → (last : ℕ) → last_of (count_words (order_of kind) r) ≡ last + 1 → last ≤ 15
  -- document 02, C-13: "plain 49.0 (word 0) or 49A (1)", and no other word
  pub choice : choice_of r ≤ 1
  -- "no field held unless type 4 has started"
  pub started : last_of (count_words (order_of 4) r) ≡ 0 → held_of r ≡ 0

pub record TableClauses (t : List ℕ) : Type 0 where
  -- "the whole layout is there"
  pub whole : layout_words (streams_of t) ≤ length t
  -- "a valid list": not "0 or over 32 identifiers, or one twice"
  pub some : 1 ≤ streams_of t
  pub few : streams_of t ≤ 32
  pub apart : (u s : ℕ) → u < s → s < streams_of t → declared t u ≡ declared t s → ⊥
  pub records : (s : ℕ) → s < streams_of t → RecordClauses (record_at s t)

-- some well-made table saves exactly these words
abbrev pub SavedBySome : List ℕ → Type 0
SavedBySome p = (t : List ℕ) × TableClauses t × SavesAs ours t p

pub record Judged : Type 0 where
  -- "Well made: .."
  pub tables : (t : List ℕ) → (well_made t ≡ true) ↔ TableClauses t
  -- "A page is well made when some well-made table saves exactly its words."
  pub pages : (p : List ℕ) → (page_good p ≡ true) ↔ SavedBySome p
  -- document 02, C-16: "Contents are well made when wholly there, with one entry for each boundary reached, ..", fact by fact
  pub contents : (ix : List ℕ) → (index_good ix ≡ true) ↔ GoodIndex ix
  -- so PAGE is given exactly where no well-made table does
  pub put_back : (p t : List ℕ) → (put_back_of p t ≡ refused PAGE) ↔ (SavedBySome p → ⊥)
