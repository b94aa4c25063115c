-- Every call for C, with its promise and its refusals. No call has a `requires`: it may be handed any numbers and words. The promise of a call that refuses
-- nothing and answers its value is `r ≡ want h`; that of every other call is `Tells values (want h) (lent h) r after`, of what it is handed, h, the number r
-- that it answers, and the lent places afterwards; and where a refusal is told where, `Tells values (in_number (want h)) (lent h) r after`. These are the
-- `ensures` of the calls, word for word; `want` is the definition of the call inside.
use Rattle.std.specs.Prelude.{◌≡◌, ℕ, ◌<◌, true, List, [], ◌∷◌, ◌++◌, length, get_or, ℤ, Float}
use Rattle.words.specs.Numbers.{EMPTY, TYPE, BITS, SHORT, CUT, CLASS, TIME, INDICATOR, LAYOUT, FIELD}
use Rattle.words.specs.Numbers.{STREAM, LIST, ROOM, VALUE, SIZE, FORMAT, COUNT, TABLE, PAGE, PAD, PLACE}
use Rattle.words.specs.declared.Where.TheVariants.{Nowhere, Word}
use Rattle.words.specs.Told.{RefusalTold}
use Rattle.words.specs.Tests.{when}
use Rattle.words.specs.Word.{bits}
use Rattle.words.specs.Outcome.{Outcome, refused, accepted, number_of}
use Rattle.words.specs.Refusals.{RefusalsOf, Refusals, first_given, given_in}
use Rattle.words.specs.Told.{Told, refusal, told_list, place_word, place_bit, place_further}
use Rattle.fields.specs.Layout.{field_count, found_of, context_list, context_of}
use Rattle.fields.specs.Broken.{broken_of}
use Rattle.packet.specs.Header.{classed}
use Rattle.packet.specs.Parts.{streamed, class_at, fraction_at, body_at, body_of}
use Rattle.packet.specs.Read.{list_by, read_list}
use Rattle.packet.specs.Told.{where_of, read_told, survey_told}
use Rattle.packet_trailer.specs.Trailer.{trailer_of, trailer_list, trailer_word_of}
use Rattle.payload_format.specs.Count.{needed_list, needed_of}
use Rattle.payload_format.specs.Signs.{signed_list, signed_of}
use Rattle.payload_order.specs.Numbering.{coordinates_list, coordinates_of, item_list, item_of}
use Rattle.payload_pack.specs.Pack.{pack_list, pack_of}
use Rattle.payload_unpack.specs.Unpack.{Buffers, unpack_list, unpack_of}
use Rattle.table.specs.Start.{start_list, start_of}
use Rattle.table.specs.Well.{well_made}
use Rattle.table.specs.Stream.{stream_number_list}
use Rattle.play.specs.Play.{table_list, play_list, play_told}
use Rattle.play.specs.Run.{run_of}
use Rattle.page.specs.Save.{length_list, save_list, length_of, save_of}
use Rattle.page.specs.PutBack.{put_back_list, put_back_of}
use Rattle.index.specs.Start.{start_index_list, start_index_of}
use Rattle.index_grow.specs.Grow.{grow_list, grow_told}
use Rattle.index_jump.specs.Jump.{jump_list, jump_of}
use Rattle.panel.specs.Readings.{reading_list, reading_of}
use Rattle.panel.specs.AllReadings.{readings_of}
use Rattle.panel.specs.HeldWords.{held_words_list, held_words_of}
use Rattle.panel_streams.specs.Identity.{identity_of}
use Rattle.panel_streams.specs.TypeCounts.{type_counts_list, type_counts_of}
use Rattle.panel_streams.specs.OwnTable.{own_table_list, own_table_of}
use Rattle.panel_streams.specs.Changed.{changed_list, changed_of}
use Rattle.vrt49.specs.Answers.{Tells, in_number, plain, left, beside}
use Rattle.vrt49.specs.Packets.{packet_values, survey_values, trailer_values, found_values}
use Rattle.vrt49.specs.Packets.{write_words_list, write_words_of, write_survey_words_list, write_survey_words_of}
use Rattle.vrt49.specs.Payloads.{coordinates_values, coordinates_in}
use Rattle.vrt49.specs.Tables.{heard_values, reached_values}
use Rattle.vrt49.specs.Indexes.{taken_values, landed_values}
use Rattle.vrt49.specs.Readings.{reading_values, readings_values}
use Rattle.vrt49.specs.Streams.{identity_values, count_values}

-- a call that answers its value; and one that answers a number, by what is wanted of it, the values of an accepted answer, the lent places, the list of its
-- refusals, and their numbers in document 01's order; and one whose refusals are told where, each with its place
pub data CallForC : Type 1 where
  answers : {H : Type 0} → (H → ℕ) → CallForC
  tells : {H A L : Type 0} → (H → Outcome A) → (A → L) → (H → L) → (H → Refusals) → List ℕ → CallForC
  tells_where : {H A L : Type 0} → (H → Told A) → (A → L) → (H → L) → (H → RefusalsOf RefusalTold) → (H → List RefusalTold) → CallForC

-- "Prove that two outcomes meeting it are equal": the numbers, and the lent places afterwards
abbrev pub OnceForC : CallForC → Type 0
OnceForC (answers {H} want) = (h : H) (r s : ℕ) → r ≡ want h → s ≡ want h → r ≡ s
OnceForC (tells {H} {A} {L} want values lent list numbers) =
    (h : H) (r s : ℕ) (after after' : L) → Tells values (want h) (lent h) r after → Tells values (want h) (lent h) s after' → (r ≡ s) × (after ≡ after')
OnceForC (tells_where {H} {A} {L} want values lent list given) =
    (h : H) (r s : ℕ) (after after' : L) → Tells values (in_number (want h)) (lent h) r after → Tells values (in_number (want h)) (lent h) s after'
    → (r ≡ s) × (after ≡ after')

-- it "gets an answer": whatever it is handed, some outcome meets the promise
abbrev pub SomeForC : CallForC → Type 0
SomeForC (answers {H} want) = (h : H) → (r : ℕ) × (r ≡ want h)
SomeForC (tells {H} {A} {L} want values lent list numbers) = (h : H) → (r : ℕ) × (after : L) × Tells values (want h) (lent h) r after
SomeForC (tells_where {H} {A} {L} want values lent list given) = (h : H) → (r : ℕ) × (after : L) × Tells values (in_number (want h)) (lent h) r after

-- "A refusal changes no word of any buffer it was lent": no lent place
abbrev pub LeavesForC : CallForC → Type 0
LeavesForC (answers want) = Unit
LeavesForC (tells {H} {A} {L} want values lent list numbers) =
    (h : H) (r : ℕ) (after : L) → Tells values (want h) (lent h) r after → 0 < r → after ≡ lent h
LeavesForC (tells_where {H} {A} {L} want values lent list given) =
    (h : H) (r : ℕ) (after : L) → Tells values (in_number (want h)) (lent h) r after → 0 < r → after ≡ lent h

-- "The first that applies is given, in these orders": the number is the first of its list that applies, and 0 where none does
abbrev pub OrderForC : CallForC → Type 0
OrderForC (answers want) = Unit
OrderForC (tells {H} {A} {L} want values lent list numbers) =
    (h : H) (r : ℕ) (after : L) → Tells values (want h) (lent h) r after
    → (given_in (list h) ≡ numbers) × (r ≡ number_of (first_given {A = Unit} (list h) (accepted tt)))
OrderForC (tells_where {H} {A} {L} want values lent list given) =
    (h : H) (r : ℕ) (after : L) → Tells values (in_number (want h)) (lent h) r after
    → (given_in (list h) ≡ given h) × (r ≡ number_of (in_number (first_given {A = Unit} (list h) (accepted tt))))

-- the refusal's number, the field's bit and the word are parts of the number that the call gives
abbrev pub PartsForC : CallForC → Type 0
PartsForC (answers want) = Unit
PartsForC (tells want values lent list numbers) = Unit
PartsForC (tells_where {H} {A} {L} want values lent list given) =
    (h : H) (r : ℕ) (after : L) (says : RefusalTold) → Tells values (in_number (want h)) (lent h) r after → want h ≡ refused says
    → (bits 7 0 r ≡ says.number) × (bits 15 8 r ≡ place_bit says.place) × (bits 31 16 r ≡ place_word says.place)

-- 0 is the number of an accepted answer alone, and then the lent places hold its values
abbrev pub ZeroForC : CallForC → Type 0
ZeroForC (answers want) = Unit
ZeroForC (tells {H} {A} {L} want values lent list numbers) =
    (h : H) (after : L) → Tells values (want h) (lent h) 0 after → (a : A) × (want h ≡ accepted a) × (after ≡ values a)
ZeroForC (tells_where {H} {A} {L} want values lent list given) =
    (h : H) (after : L) → Tells values (in_number (want h)) (lent h) 0 after → (a : A) × (want h ≡ accepted a) × (after ≡ values a)

-- something of each call of a list
abbrev pub EachForC : (CallForC → Type 0) → List {1} CallForC → Type 0
EachForC P [] = Unit
EachForC P (c ∷ cs) = P c × EachForC P cs

-- "Read: 1 to 10 as listed", each with its place, of words ws with the header w
abbrev pub read_given : ℕ → List ℕ → List RefusalTold
read_given w ws =
    refusal EMPTY (Word 0) ∷ refusal TYPE (Word 0) ∷ refusal BITS (Word 0) ∷ refusal SHORT (Word 0) ∷ refusal CUT (Word 0)
    ∷ refusal CLASS (Word (class_at w)) ∷ refusal TIME (Word (fraction_at w)) ∷ refusal INDICATOR (Word (body_at w)) ∷ refusal LAYOUT (Word (body_at w))
    ∷ refusal FIELD (place_further (body_at w) (broken_of (body_of w ws))) ∷ []

-- of 49A, PAD is last
abbrev pub survey_given : ℕ → List ℕ → List RefusalTold
survey_given w ws = read_given w ws ++ (refusal PAD (Word (when (classed w) (class_at w))) ∷ [])

-- "Play: TABLE, read order, STREAM"
abbrev pub play_given : ℕ → List ℕ → List RefusalTold
play_given w ws = (refusal TABLE Nowhere ∷ []) ++ survey_given w ws ++ (refusal STREAM (Word (when (streamed w) 1)) ∷ [])

-- document 02, C-16: "growing TABLE, PAGE for contents, reading refusals, ROOM"
abbrev pub grow_given : ℕ → List ℕ → List RefusalTold
grow_given w ws = (refusal TABLE Nowhere ∷ refusal PAGE Nowhere ∷ []) ++ survey_given w ws ++ (refusal ROOM Nowhere ∷ [])

-- ---- packets, trailers and the fields of a body

abbrev pub for_read : CallForC
for_read =
    tells_where (λ (h : List ℕ × List ℕ). read_told h.0) packet_values (λ h. h.1)
    (λ h. told_list (where_of h.0) (read_list (get_or h.0 0 0) h.0)) (λ h. read_given (get_or h.0 0 0) h.0)

-- 49A: "CLASS is not given for 49A; 20 PAD, after FIELD"; CLASS is given for types that 49A does not govern
abbrev pub for_read_survey : CallForC
for_read_survey =
    tells_where (λ (h : List ℕ × List ℕ). survey_told h.0) survey_values (λ h. h.1)
    (λ h. told_list (where_of h.0) (list_by true (get_or h.0 0 0) h.0)) (λ h. survey_given (get_or h.0 0 0) h.0)

-- "Write: TYPE, VALUE, SHORT, SIZE, TIME, INDICATOR, LAYOUT, FIELD, ROOM."
abbrev pub for_write : CallForC
for_write =
    tells (λ (h : List ℕ × List ℕ × List ℕ × ℕ × ℕ). write_words_of h.0 h.1 h.2 h.3) (beside plain) (λ h. (h.2, h.4))
    (λ h. write_words_list h.0 h.1 (length h.2) h.3) (TYPE ∷ VALUE ∷ SHORT ∷ SIZE ∷ TIME ∷ INDICATOR ∷ LAYOUT ∷ FIELD ∷ ROOM ∷ [])

-- 49A: PAD after FIELD
abbrev pub for_write_survey : CallForC
for_write_survey =
    tells (λ (h : List ℕ × List ℕ × List ℕ × ℕ × ℕ). write_survey_words_of h.0 h.1 h.2 h.3) (beside plain) (λ h. (h.2, h.4))
    (λ h. write_survey_words_list h.0 h.1 (length h.2) h.3)
    (TYPE ∷ VALUE ∷ SHORT ∷ SIZE ∷ TIME ∷ INDICATOR ∷ LAYOUT ∷ FIELD ∷ PAD ∷ ROOM ∷ [])

abbrev pub for_trailer_parts : CallForC
for_trailer_parts = tells (λ (h : ℕ × List ℕ). accepted (trailer_of h.0)) trailer_values (λ h. h.1) (λ h. []) []

abbrev pub for_trailer_word : CallForC
for_trailer_word =
    tells (λ (h : ℕ × ℕ × ℕ × ℕ × ℕ). trailer_word_of h.0 h.1 h.2 h.3) plain (λ h. h.4)
    (λ h. trailer_list h.0 h.1 h.2 h.3) (VALUE ∷ [])

abbrev pub for_field_count : CallForC
for_field_count = answers field_count

abbrev pub for_check_body : CallForC
for_check_body = tells context_of plain (λ body. tt) context_list (INDICATOR ∷ LAYOUT ∷ FIELD ∷ [])

abbrev pub for_find : CallForC
for_find = tells (λ (h : List ℕ × ℕ × List ℕ). accepted (found_of h.1 h.0)) found_values (λ h. h.2) (λ h. []) []

-- ---- packed samples: "Pack: FORMAT, COUNT, VALUE, ROOM. Unpack: FORMAT, COUNT, ROOM. Signed value: FORMAT, VALUE."

abbrev pub for_unpack : CallForC
for_unpack =
    tells (λ (h : ℕ × ℕ × ℕ × List ℕ × Buffers). unpack_of h.0 h.1 h.2 h.3 h.4) left (λ h. h.4)
    (λ h. unpack_list h.0 h.1 h.2 (length h.3) (length h.4.items) (length h.4.events) (length h.4.channels))
    (FORMAT ∷ COUNT ∷ ROOM ∷ [])

abbrev pub for_pack : CallForC
for_pack =
    tells (λ (h : ℕ × ℕ × List ℕ × List ℕ × List ℕ × List ℕ × ℕ). pack_of h.0 h.1 h.2 h.3 h.4 h.5) (beside plain) (λ h. (h.5, h.6))
    (λ h. pack_list h.0 h.1 h.2 h.3 h.4 (length h.5)) (FORMAT ∷ COUNT ∷ VALUE ∷ ROOM ∷ [])

abbrev pub for_words_needed : CallForC
for_words_needed =
    tells (λ (h : ℕ × ℕ × ℕ × ℕ). needed_of h.0 h.1 h.2) plain (λ h. h.3) (λ h. needed_list h.0 h.1 h.2) (FORMAT ∷ COUNT ∷ [])

-- the numbering of items (document 02, C-12): FORMAT, COUNT, VALUE
abbrev pub for_coordinates_of : CallForC
for_coordinates_of =
    tells (λ (h : ℕ × ℕ × ℕ × ℕ × List ℕ). coordinates_of h.0 h.1 h.2 h.3) coordinates_values (λ h. h.4)
    (λ h. coordinates_list h.0 h.1 h.2 h.3) (FORMAT ∷ COUNT ∷ VALUE ∷ [])

abbrev pub for_item_at : CallForC
for_item_at =
    tells (λ (h : ℕ × ℕ × ℕ × List ℕ × ℕ). item_of h.0 h.1 h.2 (coordinates_in h.3)) plain (λ h. h.4)
    (λ h. item_list h.0 h.1 h.2 (coordinates_in h.3)) (FORMAT ∷ COUNT ∷ VALUE ∷ [])

abbrev pub for_signed : CallForC
for_signed = tells (λ (h : ℕ × ℕ × ℤ). signed_of h.0 h.1) plain (λ h. h.2) (λ h. signed_list h.0 h.1) (FORMAT ∷ VALUE ∷ [])

-- ---- tables and pages: "Start: LIST, ROOM. Play: TABLE, read order, STREAM. Save: TABLE, SIZE, ROOM. Put back: PAGE, ROOM." PAD is last in the read order.

abbrev pub for_start : CallForC
for_start =
    tells (λ (h : List ℕ × List ℕ × List ℕ × ℕ). start_of h.0 h.1 h.2) (beside plain) (λ h. (h.2, h.3))
    (λ h. start_list h.0 h.1 h.2) (LIST ∷ ROOM ∷ [])

abbrev pub for_well_made : CallForC
for_well_made = answers (λ (t : List ℕ). when (well_made t) 1)

abbrev pub for_play : CallForC
for_play =
    tells_where (λ (h : List ℕ × List ℕ × List ℕ). play_told h.0 h.1) (beside heard_values) (λ h. (h.0, h.2))
    (λ h. told_list (where_of h.1) (play_list h.0 h.1)) (λ h. play_given (get_or h.1 0 0) h.1)

abbrev pub for_play_run : CallForC
for_play_run =
    tells (λ (h : List ℕ × List ℕ × ℕ × List ℕ × ℕ × ℕ). run_of h.0 h.1 h.2 h.3) (beside reached_values) (λ h. ((h.0, h.3), (h.4, h.5)))
    (λ h. table_list h.0) (TABLE ∷ [])

abbrev pub for_page_length : CallForC
for_page_length = tells (λ (h : List ℕ × ℕ). length_of h.0) plain (λ h. h.1) (λ h. length_list h.0) (TABLE ∷ SIZE ∷ [])

abbrev pub for_save : CallForC
for_save =
    tells (λ (h : List ℕ × List ℕ × ℕ). save_of h.0 h.1) (beside plain) (λ h. (h.1, h.2)) (λ h. save_list h.0 h.1) (TABLE ∷ SIZE ∷ ROOM ∷ [])

abbrev pub for_put_back : CallForC
for_put_back =
    tells (λ (h : List ℕ × List ℕ × ℕ). put_back_of h.0 h.1) (beside plain) (λ h. (h.1, h.2)) (λ h. put_back_list h.0 h.1) (PAGE ∷ ROOM ∷ [])

-- ---- the index beside a recording: "jumping PAGE for contents, PLACE, PAGE for the entry, ROOM; starting TABLE, ROOM; growing TABLE, PAGE for contents,
-- reading refusals, ROOM" (document 02, C-16)

abbrev pub for_start_index : CallForC
for_start_index =
    tells (λ (h : List ℕ × List ℕ × ℕ). start_index_of h.0 h.1) (beside plain) (λ h. (h.1, h.2)) (λ h. start_index_list h.0 h.1) (TABLE ∷ ROOM ∷ [])

abbrev pub for_grow : CallForC
for_grow =
    tells_where (λ (h : List ℕ × List ℕ × List ℕ × List ℕ). grow_told h.0 h.1 h.2) (beside taken_values) (λ h. ((h.0, h.2), h.3))
    (λ h. told_list (where_of h.1) (grow_list h.0 h.1 h.2)) (λ h. grow_given (get_or h.1 0 0) h.1)

abbrev pub for_jump : CallForC
for_jump =
    tells (λ (h : List ℕ × ℕ × List ℕ × ℕ × List ℕ × ℕ × ℕ). jump_of h.0 h.1 h.2 h.3 h.4) (beside landed_values)
    (λ h. (h.4, (h.5, h.6))) (λ h. jump_list h.0 h.1 h.2 h.3 h.4) (PAGE ∷ PLACE ∷ PAGE ∷ ROOM ∷ [])

-- ---- readings for the panel: "Reading: TABLE, STREAM, VALUE."

abbrev pub for_reading : CallForC
for_reading =
    tells (λ (h : List ℕ × ℕ × ℕ × ℕ × ℕ × ℤ × List Float). reading_of h.0 h.1 h.2) reading_values (λ h. (h.3, h.4, h.5, h.6))
    (λ h. reading_list h.0 h.1 h.2) (TABLE ∷ STREAM ∷ VALUE ∷ [])

abbrev pub for_readings : CallForC
for_readings =
    tells (λ (h : List ℕ × ℕ × List ℕ × List ℕ × List ℤ × List Float × List Float). readings_of h.0 h.1) readings_values
    (λ h. (h.2, h.3, h.4, h.5, h.6)) (λ h. stream_number_list h.0 h.1) (TABLE ∷ STREAM ∷ [])

abbrev pub for_held_words : CallForC
for_held_words =
    tells (λ (h : List ℕ × ℕ × ℕ × List ℕ × ℕ). held_words_of h.0 h.1 h.2 h.3) (beside plain) (λ h. (h.3, h.4))
    (λ h. held_words_list h.0 h.1 h.2 h.3) (TABLE ∷ STREAM ∷ VALUE ∷ ROOM ∷ [])

-- ---- what a table says of a stream: TABLE and STREAM, then each its own

abbrev pub for_identity : CallForC
for_identity =
    tells (λ (h : List ℕ × ℕ × ℕ × ℕ × ℕ). identity_of h.0 h.1) identity_values (λ h. (h.2, h.3, h.4))
    (λ h. stream_number_list h.0 h.1) (TABLE ∷ STREAM ∷ [])

abbrev pub for_counts : CallForC
for_counts =
    tells (λ (h : List ℕ × ℕ × ℕ × List ℕ). type_counts_of h.0 h.1 h.2) count_values (λ h. h.3)
    (λ h. type_counts_list h.0 h.1 h.2) (TABLE ∷ STREAM ∷ VALUE ∷ [])

abbrev pub for_own_table : CallForC
for_own_table =
    tells (λ (h : List ℕ × ℕ × List ℕ × ℕ). own_table_of h.0 h.1 h.2) (beside plain) (λ h. (h.2, h.3))
    (λ h. own_table_list h.0 h.1 h.2) (TABLE ∷ STREAM ∷ ROOM ∷ [])

abbrev pub for_changed : CallForC
for_changed =
    tells (λ (h : List ℕ × ℕ × List ℕ × ℕ × ℕ). changed_of h.0 h.1 h.2 h.3) plain (λ h. h.4)
    (λ h. changed_list h.0 h.1 h.2 h.3) (TABLE ∷ STREAM ∷ [])

-- ---- all of them, in the order of include/vrt49.h

abbrev pub calls_for_c : List {1} CallForC
calls_for_c =
    for_read ∷ for_read_survey ∷ for_write ∷ for_write_survey ∷ for_trailer_parts ∷ for_trailer_word ∷ for_field_count ∷ for_check_body ∷ for_find
    ∷ for_unpack ∷ for_pack ∷ for_words_needed ∷ for_coordinates_of ∷ for_item_at ∷ for_signed
    ∷ for_start ∷ for_well_made ∷ for_play ∷ for_play_run
    ∷ for_page_length ∷ for_save ∷ for_put_back
    ∷ for_start_index ∷ for_grow ∷ for_jump
    ∷ for_reading ∷ for_readings ∷ for_held_words
    ∷ for_identity ∷ for_counts ∷ for_own_table ∷ for_changed
    ∷ []
