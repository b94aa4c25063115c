-- A program, of which the demands speak: a record of what its calls answer, and what they leave in the words that they are lent. `ours` is the program of this
-- project: each call by the definition that its promise cites, so that what is proved of `ours` is proved of the code.
use Rattle.std.specs.Prelude.{◌≡◌, ℕ, ◌^◌, ◌<◌, Bool, true, false, List, [], ◌∷◌, get_or}
use Rattle.words.specs.Outcome.{Outcome, Reply, accepted, onward, Done, said_of, left_of}
use Rattle.words.specs.Told.{Told}
use Rattle.fields.specs.Layout.{found_of}
use Rattle.packet.specs.declared.Packet.{Packet}
use Rattle.packet.specs.declared.Parts.{Parts}
use Rattle.packet.specs.declared.Survey.{Survey}
use Rattle.packet.specs.Told.{read_told, survey_told}
use Rattle.packet_write.specs.Write.{write_of, write_survey_of}
use Rattle.packet_trailer.specs.declared.Trailer.{Trailer}
use Rattle.packet_trailer.specs.Trailer.{trailer_of, trailer_word_of}
use Rattle.payload_format.specs.Count.{needed_of}
use Rattle.payload_order.specs.declared.Coordinates.{Coordinates}
use Rattle.payload_order.specs.Numbering.{coordinates_of, item_of}
use Rattle.payload_unpack.specs.Unpack.{Buffers, unpack_of}
use Rattle.payload_pack.specs.Pack.{pack_of}
use Rattle.table.specs.Start.{start_of}
use Rattle.table.specs.Well.{well_made}
use Rattle.play.specs.declared.Heard.{Heard}
use Rattle.play.specs.declared.run.Reached.{Reached}
use Rattle.play.specs.Play.{play_told}
use Rattle.play.specs.Run.{run_of}
use Rattle.page.specs.Save.{length_of, save_of}
use Rattle.page.specs.PutBack.{put_back_of}
use Rattle.index.specs.Start.{start_index_of}
use Rattle.index_grow.specs.declared.Taken.{Taken}
use Rattle.index_grow.specs.Grow.{grow_told}
use Rattle.index_jump.specs.declared.Landed.{Landed}
use Rattle.index_jump.specs.Jump.{jump_of}
use Rattle.panel.specs.AllReadings.{readings_of}
use Rattle.panel.specs.HeldWords.{held_words_of}
use Rattle.panel.specs.Readings.{Reading, reading_of}
use Rattle.panel_streams.specs.Identity.{Declared, identity_of}
use Rattle.panel_streams.specs.TypeCounts.{Count, type_counts_of}
use Rattle.panel_streams.specs.OwnTable.{own_table_of}
use Rattle.panel_streams.specs.Changed.{changed_of}

-- what its calls answer, each by the words that it is handed; `Told` has a refusal's place with its number; `Done` has what an accepted call says and the lent
-- words afterwards. `find` gives the place of a field and its number of words, or nothing
pub record Program : Type 0 where
  pub read : List ℕ → Told Packet
  pub read_survey : List ℕ → Told Survey
  pub find : (bit : ℕ) (body : List ℕ) → List ℕ
  pub write : Parts → (body out : List ℕ) (at : ℕ) → Outcome (Done ℕ (List ℕ))
  pub write_survey : (pad : ℕ) → Parts → (body out : List ℕ) (at : ℕ) → Outcome (Done ℕ (List ℕ))
  pub trailer_parts : (word : ℕ) → Trailer
  pub trailer_word : (enables indicators e associated : ℕ) → Outcome ℕ
  pub pack : (first second : ℕ) (items events channels out : List ℕ) → Outcome (Done ℕ (List ℕ))
  pub unpack : (first second n : ℕ) → List ℕ → Buffers → Outcome (Done ℕ Buffers)
  pub words_needed : (first second n : ℕ) → Outcome ℕ
  pub coordinates : (first second n item : ℕ) → Outcome Coordinates
  pub item : (first second n : ℕ) → Coordinates → Outcome ℕ
  pub start : (ids choices table : List ℕ) → Outcome (Done ℕ (List ℕ))
  pub well_made : (table : List ℕ) → Bool
  pub play : (table words : List ℕ) → Told (Done Heard (List ℕ))
  pub play_run : (table words : List ℕ) (from : ℕ) (answers : List ℕ) → Outcome (Done Reached (List ℕ × List ℕ))
  pub page_length : (table : List ℕ) → Outcome ℕ
  pub save : (table page : List ℕ) → Outcome (Done ℕ (List ℕ))
  pub put_back : (page table : List ℕ) → Outcome (Done ℕ (List ℕ))
  pub start_index : (table index : List ℕ) → Outcome (Done ℕ (List ℕ))
  pub grow : (table words index : List ℕ) → Told (Done Taken (List ℕ × List ℕ))
  pub jump : (words : List ℕ) (first : ℕ) (index : List ℕ) (n : ℕ) (table : List ℕ) → Outcome (Done Landed (List ℕ))
  pub reading : (table : List ℕ) (stream bit : ℕ) → Outcome Reading
  pub readings : (table : List ℕ) (stream : ℕ) → Outcome (List Reading)
  pub held_words : (table : List ℕ) (stream bit : ℕ) (out : List ℕ) → Outcome (Done ℕ (List ℕ))
  pub identity : (table : List ℕ) (stream : ℕ) → Outcome Declared
  pub counts : (table : List ℕ) (stream kind : ℕ) → Outcome Count
  pub own_table : (table : List ℕ) (stream : ℕ) (out : List ℕ) → Outcome (Done ℕ (List ℕ))
  pub changed : (before : List ℕ) (stream : ℕ) (after : List ℕ) (other : ℕ) → Outcome ℕ

-- this project's, by the definitions that the promises cite
abbrev pub ours : Program
ours = record {
  read = read_told;
  read_survey = survey_told;
  find = found_of;
  write = write_of;
  write_survey = write_survey_of;
  trailer_parts = trailer_of;
  trailer_word = trailer_word_of;
  pack = pack_of;
  unpack = unpack_of;
  words_needed = needed_of;
  coordinates = coordinates_of;
  item = item_of;
  start = start_of;
  well_made = well_made;
  play = play_told;
  play_run = run_of;
  page_length = length_of;
  save = save_of;
  put_back = put_back_of;
  start_index = start_index_of;
  grow = grow_told;
  jump = jump_of;
  reading = reading_of;
  readings = readings_of;
  held_words = held_words_of;
  identity = identity_of;
  counts = type_counts_of;
  own_table = own_table_of;
  changed = changed_of;
}

-- an answer is accepted
abbrev pub Accepts : {R A : Type 0} → Reply R A → Type 0
Accepts {R} {A} o = (a : A) × (o ≡ accepted a)

-- words of 32 bits
abbrev pub AreWords : List ℕ → Type 0
AreWords ws = (i : ℕ) → get_or ws i 0 < 2 ^ 32

-- ---- packets by a choice: plain 49.0, or 49A

-- what is read: the packet, and its pad count; a plain packet has none
abbrev pub reads_by : Program → (survey : Bool) → List ℕ → Told (Packet × ℕ)
reads_by P false ws = onward (P.read ws) (λ p. accepted (p, 0))
reads_by P true ws = onward (P.read_survey ws) (λ s. accepted (s.packet, s.pad))

abbrev pub writes_by : Program → (survey : Bool) → ℕ → Parts → (body out : List ℕ) (at : ℕ) → Outcome (Done ℕ (List ℕ))
writes_by P false pad = P.write
writes_by P true pad = P.write_survey pad

-- ---- play, packet by packet

-- the table after some packets, and what play says of each: a refusal leaves the table
abbrev pub play_all : Program → List ℕ → List (List ℕ) → List ℕ
play_all P t [] = t
play_all P t (ws ∷ packets) = play_all P (left_of (P.play t ws) t) packets

abbrev pub said_all : Program → List ℕ → List (List ℕ) → List (Told Heard)
said_all P t [] = []
said_all P t (ws ∷ packets) = said_of (P.play t ws) ∷ said_all P (left_of (P.play t ws) t) packets
