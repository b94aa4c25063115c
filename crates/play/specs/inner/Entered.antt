-- What the functions inside promise of one packet: its header, its stream, what hearing it leaves, and its entry, which is what play says of it as numbers.
use Rattle.std.specs.Prelude.{◌≡◌, ℕ, Bool, List, [], ◌∷◌, eqb, leb, get_or}
use Rattle.words.specs.declared.Where.TheVariants.{Word, Field}
use Rattle.words.specs.Numbers.{FIELD, STREAM}
use Rattle.words.specs.Tests.{pick, when}
use Rattle.words.specs.Listed.{IsListed}
use Rattle.words.specs.Outcome.{Outcome, refused, accepted}
use Rattle.words.specs.Told.{Told, refusal, place_word, place_bit}
use Rattle.packet.specs.Header.{size_of}
use Rattle.packet.specs.Parts.{streamed, packet_of}
use Rattle.packet.specs.Read.{read_by}
use Rattle.packet.specs.Told.{where_of}
use Rattle.packet.specs.inner.Steps.{sized_checks}
use Rattle.record.specs.Layout.{choice_of}
use Rattle.record.specs.After.{added_by}
use Rattle.table.specs.Layout.{streams_of, record_at}
use Rattle.table.specs.Identifiers.{stream_of}
use Rattle.play.specs.declared.Heard.{Heard}
use Rattle.play.specs.declared.run.Entry.{Entry}
use Rattle.play.specs.Play.{table_after, chosen}
use Rattle.play.specs.inner.Steps.{sought_of}
use Rattle.play.specs.Run.{said_at, left_at, entry_at, words_of_entry}

-- the stream of an identifier; STREAM: "one not declared"
abbrev pub declared_of : ℕ → List ℕ → Outcome ℕ
declared_of identifier t = pick (leb (streams_of t) (stream_of identifier t)) (refused STREAM) (accepted (stream_of identifier t))

-- the words begin with a header w that is right, and have as many as it says
pub record Sized (w : ℕ) (ws : List ℕ) : Type 0 where
  pub header : w ≡ get_or ws 0 0
  pub passes : sized_checks ws ≡ accepted tt

-- the words hold a packet that reading accepts by its stream's choice in the table t, and w is its header
pub record Headed (w : ℕ) (ws t : List ℕ) : Type 0 where
  pub header : w ≡ get_or ws 0 0
  pub reads : read_by (chosen t ws) ws ≡ accepted (packet_of w ws)

-- 49A is chosen for stream s
abbrev pub chosen_at : ℕ → List ℕ → Bool
chosen_at s t = eqb (choice_of (record_at s t)) 1

-- the stream of that packet, or STREAM
abbrev pub sought_in : ℕ → List ℕ → List ℕ → Outcome ℕ
sought_in w ws t = sought_of (packet_of w ws).parts.kind (packet_of w ws).parts.identifier t

-- the packet, heard by stream s: the missing that it adds, and the table afterwards
pub record HeardAs (w s : ℕ) (ws t : List ℕ) (more : ℕ) (left : List ℕ) : Type 0 where
  pub adds : more ≡ added_by (packet_of w ws).parts.kind (packet_of w ws).parts.count (record_at s t)
  pub leaves : left ≡ table_after (packet_of w ws) s ws t

-- the entry r of the packet at a place, played on a table that is well made, and the table afterwards
pub record Entered (t ws : List ℕ) (at : ℕ) (r : Entry) (left : List ℕ) : Type 0 where
  pub entry : words_of_entry r ≡ entry_at t ws at
  pub table : left ≡ left_at t ws at

-- a number that an entry may have: 0, or one of the list
abbrev pub Sayable : ℕ → Type 0
Sayable n = (n ≡ 0 → ⊥) → IsListed n

-- what an entry says of its packet: it is heard where the number is 0; else it is refused, at a field with FIELD, and at a word with another number
abbrev pub said_by : Entry → Told Heard
said_by e =
    pick (eqb e.number 0) (accepted (record { size = e.size; kind = e.what; stream = e.which; missing = e.missing }))
    (refused (refusal e.number (pick (eqb e.number FIELD) (Field e.what e.which) (Word e.what))))

-- what is noted of a packet that is played on a table which is well made, before the place of what reading refuses is worked out, and the table afterwards
abbrev pub noted_of : Told Heard → ℕ → List ℕ
noted_of (refused r) size =
    let goes = eqb r.number STREAM in
    r.number ∷ when goes size ∷ when goes (place_word r.place) ∷ 0 ∷ 0 ∷ []
noted_of (accepted h) size = 0 ∷ size ∷ h.kind ∷ h.stream ∷ h.missing ∷ []

pub record Noted (t ws : List ℕ) (r : Entry) (left : List ℕ) : Type 0 where
  pub note : words_of_entry r ≡ noted_of (said_at t ws 0) (size_of (get_or ws 0 0))
  pub table : left ≡ left_at t ws 0

-- that of words that reading refuses with a number, and their entry
abbrev pub unread_note : ℕ → Entry
unread_note number = record { number = number; size = 0; what = 0; which = 0; missing = 0 }

abbrev pub unread_entry : ℕ → List ℕ → Entry
unread_entry number ws = record {
  number = number;
  size = 0;
  what = place_word (where_of ws number);
  which = place_bit (where_of ws number);
  missing = 0;
}

-- the entry of a packet with the header w that is of no stream
abbrev pub undeclared_entry : ℕ → ℕ → Entry
undeclared_entry number w = record { number = number; size = size_of w; what = when (streamed w) 1; which = 0; missing = 0 }
