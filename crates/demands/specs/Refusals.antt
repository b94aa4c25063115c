-- Document 01, 'Numbers given back': "The first that applies is given, in these orders." For each call the numbers in the document's order, and that the call
-- gives the first of its list that applies. The list of a call, each number with the test that says when it is given, stands with the call's definition.
use Rattle.std.specs.Prelude.{◌≡◌, ℕ, true, List, [], ◌∷◌, ◌++◌, length, get_or, drop, map}
use Rattle.words.specs.Numbers.{TYPE, SHORT, TIME, INDICATOR, LAYOUT, FIELD}
use Rattle.words.specs.Numbers.{STREAM, LIST, ROOM, VALUE, SIZE, FORMAT, COUNT, TABLE, PAGE, PAD, PLACE}
use Rattle.words.specs.declared.refusals.Refusal.{Refusal}
use Rattle.words.specs.declared.refusals.Refusal.TheVariants as refusals
use Rattle.words.specs.Listed.{list_number}
use Rattle.words.specs.Word.{join}
use Rattle.words.specs.Outcome.{Reply, accepted}
use Rattle.words.specs.Refusals.{RefusalsOf, first_given, given_in}
use Rattle.words.specs.Told.{told_list}
use Rattle.fields.specs.Layout.{context_list, context_of}
use Rattle.packet.specs.declared.Parts.{Parts}
use Rattle.packet.specs.Parts.{packet_of}
use Rattle.packet.specs.Read.{read_list, list_by}
use Rattle.packet.specs.Survey.{survey_of}
use Rattle.packet.specs.Told.{where_of, read_told, survey_told}
use Rattle.packet_trailer.specs.Trailer.{trailer_list, trailer_word_of}
use Rattle.packet_write.specs.Write.{pad_for, write_list, write_survey_list, written_done, write_of, write_survey_of}
use Rattle.payload_format.specs.Count.{words_for, needed_list, needed_of}
use Rattle.payload_format.specs.Format.{packing_of}
use Rattle.payload_order.specs.declared.Coordinates.{Coordinates}
use Rattle.payload_order.specs.Numbering.{coordinates_under, item_under, coordinates_list, coordinates_of, item_list, item_of}
use Rattle.payload_pack.specs.Pack.{packed, pack_list, pack_of}
use Rattle.words.specs.Signed.{twos_complement}
use Rattle.payload_format.specs.Signs.{signed_list, signed_of}
use Rattle.payload_unpack.specs.Unpack.{Buffers, unpacked, unpack_list, unpack_of}
use Rattle.record.specs.Layout.{held_words_in}
use Rattle.table.specs.Layout.{layout_words, record_at}
use Rattle.table.specs.Identifiers.{stream_of}
use Rattle.table.specs.Stream.{stream_number_list}
use Rattle.table.specs.Start.{fresh_table, start_list, start_of}
use Rattle.play.specs.Play.{heard_done, table_list, play_list, play_told}
use Rattle.play.specs.Run.{whole_walk, reached_of, answers_of, run_of}
use Rattle.page.specs.Layout.{page_of, page_length, bodies_in, table_of}
use Rattle.page.specs.Save.{length_list, save_list, length_of, save_of}
use Rattle.page.specs.PutBack.{put_back_list, put_back_of}
use Rattle.index.specs.Start.{start_words, started_index, start_index_list, start_index_of}
use Rattle.index_grow.specs.Grow.{grow_list, grown_done, grow_told}
use Rattle.index_jump.specs.Jump.{jump_list, landed_done, jump_of}
use Rattle.panel.specs.AllReadings.{record_readings, readings_of}
use Rattle.panel.specs.HeldWords.{held_words_list, held_words_of}
use Rattle.panel.specs.Readings.{record_shows, reading_list, reading_of}
use Rattle.panel_streams.specs.Identity.{declared_in, identity_of}
use Rattle.panel_streams.specs.TypeCounts.{type_count_in, type_counts_list, type_counts_of}
use Rattle.panel_streams.specs.OwnTable.{own_done, own_table_list, own_table_of}
use Rattle.panel_streams.specs.Changed.{changed_in, changed_list, changed_of}
use Rattle.vrt49.specs.Calls.{read_given, survey_given, play_given, grow_given}

-- a call's list has these refusals in this order, numbers or numbers with places; the call gives the first of the list that applies, and is else accepted with
-- this answer
pub record Ordered {R A : Type 0} (call : Reply R A) (given : List R) (list : RefusalsOf R) (answer : A) : Type 0 where
  pub order : given_in list ≡ given
  pub first : call ≡ first_given list (accepted answer)

-- "Write: TYPE, VALUE, SHORT, SIZE, TIME, INDICATOR, LAYOUT, FIELD, ROOM."
abbrev pub write_order : List ℕ
write_order = TYPE ∷ VALUE ∷ SHORT ∷ SIZE ∷ TIME ∷ INDICATOR ∷ LAYOUT ∷ FIELD ∷ ROOM ∷ []

-- document 02, C-13: "20 PAD, after FIELD"
abbrev pub write_survey_order : List ℕ
write_survey_order = TYPE ∷ VALUE ∷ SHORT ∷ SIZE ∷ TIME ∷ INDICATOR ∷ LAYOUT ∷ FIELD ∷ PAD ∷ ROOM ∷ []

-- the refusals of code, in the order of document 01's table 'Numbers given back' (TYPE is `Kind` there), and then those that document 02 adds
abbrev pub every_refusal : List Refusal
every_refusal =
    refusals.Empty ∷ refusals.Kind ∷ refusals.Bits ∷ refusals.Short ∷ refusals.Cut ∷ refusals.Class ∷ refusals.Time ∷ refusals.Indicator ∷ refusals.Layout
    ∷ refusals.Field ∷ refusals.Stream ∷ refusals.List ∷ refusals.Room ∷ refusals.Value ∷ refusals.Size ∷ refusals.Format ∷ refusals.Count ∷ refusals.Table
    ∷ refusals.Page ∷ refusals.Pad ∷ refusals.Place ∷ []

-- of the public calls, those that are not here never refuse
pub record InOrder : Type 0 where
  -- their numbers, as both documents print them
  pub listed : map list_number every_refusal
      ≡ 1 ∷ 2 ∷ 3 ∷ 4 ∷ 5 ∷ 6 ∷ 7 ∷ 8 ∷ 9 ∷ 10 ∷ 11 ∷ 12 ∷ 13 ∷ 14 ∷ 15 ∷ 16 ∷ 17 ∷ 18 ∷ 19 ∷ 20 ∷ 21 ∷ []
  -- "Read: 1 to 10 as listed"; document 02, C-15: each with its place
  pub read : (ws : List ℕ) → let w = get_or ws 0 0 in Ordered (read_told ws) (read_given w ws) (told_list (where_of ws) (read_list w ws)) (packet_of w ws)
  pub write : (p : Parts) (body out : List ℕ) (at : ℕ)
      → Ordered (write_of p body out at) write_order (write_list p body (length out) at) (written_done 0 p body out at)
  -- 49A: "CLASS is not given" where it governs, as its test says, and PAD where it governs alone
  pub read_survey : (ws : List ℕ) → let w = get_or ws 0 0 in
      Ordered (survey_told ws) (survey_given w ws) (told_list (where_of ws) (list_by true w ws)) (survey_of w ws)
  pub write_survey : (pad : ℕ) (p : Parts) (body out : List ℕ) (at : ℕ)
      → Ordered (write_survey_of pad p body out at) write_survey_order (write_survey_list pad p body (length out) at)
      (written_done (pad_for true pad p) p body out at)
  -- "Start: LIST, ROOM. Play: TABLE, read order, STREAM. Save: TABLE, SIZE, ROOM. Put back: PAGE, ROOM. Reading: TABLE, STREAM, VALUE."
  pub start : (ids choices t : List ℕ)
      → Ordered (start_of ids choices t) (LIST ∷ ROOM ∷ []) (start_list ids choices t)
      (record { says = layout_words (length ids); leaves = fresh_table ids choices t })
  pub play : (t ws : List ℕ) → let p = packet_of (get_or ws 0 0) ws in
      Ordered (play_told t ws) (play_given (get_or ws 0 0) ws) (told_list (where_of ws) (play_list t ws)) (heard_done p (stream_of p.parts.identifier t) t ws)
  pub save : (t page : List ℕ)
      → Ordered (save_of t page) (TABLE ∷ SIZE ∷ ROOM ∷ []) (save_list t page)
      (record { says = page_length t; leaves = page_of t ++ drop (page_length t) page })
  pub put_back : (p t : List ℕ) → let n = layout_words (bodies_in p) in
      Ordered (put_back_of p t) (PAGE ∷ ROOM ∷ []) (put_back_list p t) (record { says = n; leaves = table_of p ++ drop n t })
  -- document 02, C-16: "jumping PAGE for contents, PLACE, PAGE for the entry, ROOM; starting TABLE, ROOM; growing TABLE, PAGE for contents, reading refusals,
  -- ROOM"
  pub start_index : (t ix : List ℕ)
      → Ordered (start_index_of t ix) (TABLE ∷ ROOM ∷ []) (start_index_list t ix) (record { says = start_words t; leaves = started_index t ix })
  pub grow : (t ws ix : List ℕ)
      → Ordered (grow_told t ws ix) (grow_given (get_or ws 0 0) ws) (told_list (where_of ws) (grow_list t ws ix)) (grown_done t ws ix)
  pub jump : (ws : List ℕ) (first : ℕ) (ix : List ℕ) (n : ℕ) (t : List ℕ)
      → Ordered (jump_of ws first ix n t) (PAGE ∷ PLACE ∷ PAGE ∷ ROOM ∷ []) (jump_list ws first ix n t) (landed_done ws first ix n t)
  pub reading : (t : List ℕ) (stream bit : ℕ)
      → Ordered (reading_of t stream bit) (TABLE ∷ STREAM ∷ VALUE ∷ []) (reading_list t stream bit) (record_shows bit (record_at stream t))
  -- "Pack: FORMAT, COUNT, VALUE, ROOM. Unpack: FORMAT, COUNT, ROOM. Signed value: FORMAT, VALUE."
  pub pack : (first second : ℕ) (items events channels out : List ℕ) → let n = length items in
      Ordered (pack_of first second items events channels out) (FORMAT ∷ COUNT ∷ VALUE ∷ ROOM ∷ []) (pack_list first second items events channels (length out))
      (record { says = words_for first n; leaves = packed (packing_of first) n items events channels out })
  pub unpack : (first second n : ℕ) (ws : List ℕ) (b : Buffers)
      → Ordered (unpack_of first second n ws b) (FORMAT ∷ COUNT ∷ ROOM ∷ [])
      (unpack_list first second n (length ws) (length b.items) (length b.events) (length b.channels))
      (record { says = n; leaves = unpacked (packing_of first) n ws b })
  pub signed : (w x : ℕ) → Ordered (signed_of w x) (FORMAT ∷ VALUE ∷ []) (signed_list w x) (twos_complement w x)
  -- the numbering of items (document 02, C-12): FORMAT and COUNT as in packing, then VALUE
  pub coordinates_of : (first second n item : ℕ)
      → Ordered (coordinates_of first second n item) (FORMAT ∷ COUNT ∷ VALUE ∷ []) (coordinates_list first second n item) (coordinates_under first second item)
  pub item_at : (first second n : ℕ) (at : Coordinates)
      → Ordered (item_of first second n at) (FORMAT ∷ COUNT ∷ VALUE ∷ []) (item_list first second n at) (item_under first second at)
  -- those of a type 4 body alone, the words needed, a trailer word, a run, a page's length, all readings and held words: each as the call that it belongs to
  pub check_body : (body : List ℕ) → Ordered (context_of body) (INDICATOR ∷ LAYOUT ∷ FIELD ∷ []) (context_list body) tt
  pub words_needed : (first second n : ℕ) → Ordered (needed_of first second n) (FORMAT ∷ COUNT ∷ []) (needed_list first second n) (words_for first n)
  pub trailer_word : (enables indicators e associated : ℕ)
      → Ordered (trailer_word_of enables indicators e associated) (VALUE ∷ []) (trailer_list enables indicators e associated)
      (join (7 ∷ 1 ∷ 12 ∷ 12 ∷ []) (associated ∷ e ∷ indicators ∷ enables ∷ []))
  pub play_run : (t ws : List ℕ) (from : ℕ) (out : List ℕ) → let w = whole_walk t ws from out in
      Ordered (run_of t ws from out) (TABLE ∷ []) (table_list t) (record { says = reached_of w; leaves = (w.table, answers_of w out) })
  pub page_length_of : (t : List ℕ) → Ordered (length_of t) (TABLE ∷ SIZE ∷ []) (length_list t) (page_length t)
  pub readings : (t : List ℕ) (stream : ℕ)
      → Ordered (readings_of t stream) (TABLE ∷ STREAM ∷ []) (stream_number_list t stream) (record_readings (record_at stream t))
  pub held_words : (t : List ℕ) (stream bit : ℕ) (out : List ℕ) → let ws = held_words_in bit (record_at stream t) in
      Ordered (held_words_of t stream bit out) (TABLE ∷ STREAM ∷ VALUE ∷ ROOM ∷ []) (held_words_list t stream bit out)
      (record { says = length ws; leaves = ws ++ drop (length ws) out })
  -- what a table says of a stream: TABLE and STREAM as a reading, then VALUE of a type, or ROOM; of two tables, each of either
  pub identity : (t : List ℕ) (stream : ℕ)
      → Ordered (identity_of t stream) (TABLE ∷ STREAM ∷ []) (stream_number_list t stream) (declared_in (record_at stream t))
  pub counts : (t : List ℕ) (stream kind : ℕ)
      → Ordered (type_counts_of t stream kind) (TABLE ∷ STREAM ∷ VALUE ∷ []) (type_counts_list t stream kind) (type_count_in kind (record_at stream t))
  pub own_table : (t : List ℕ) (stream : ℕ) (out : List ℕ)
      → Ordered (own_table_of t stream out) (TABLE ∷ STREAM ∷ ROOM ∷ []) (own_table_list t stream out) (own_done (record_at stream t) out)
  pub changed : (t : List ℕ) (s : ℕ) (u : List ℕ) (v : ℕ)
      → Ordered (changed_of t s u v) (TABLE ∷ STREAM ∷ []) (changed_list t s u v) (changed_in (record_at s t) (record_at v u))
