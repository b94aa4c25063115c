-- The three demands, in the words of the person this is built for (quoted above each statement), as statements about a program (Program). proofs/AllMet.antt
-- proves them of `ours`, the program of this project, and so of the code.
use Rattle.std.specs.Prelude.{◌≡◌, ℕ, ◌+◌, ◌^◌, ◌≤◌, ◌<◌, Bool, List, [], ◌++◌, eqb, length, take, drop}
use Rattle.words.specs.Numbers.{ROOM}
use Rattle.words.specs.Word.{bits, has}
use Rattle.words.specs.Part.{part}
use Rattle.words.specs.Outcome.{refused, accepted, Done, said_of, left_of}
use Rattle.words.specs.Told.{Told}
use Rattle.fields.specs.Layout.{found_of}
use Rattle.packet.specs.declared.Packet.{Packet}
use Rattle.packet.specs.declared.Parts.{Parts}
use Rattle.packet.specs.Parts.{body_at}
use Rattle.packet.specs.declared.Survey.{Survey}
use Rattle.packet.specs.Told.{read_told, survey_told}
use Rattle.packet_trailer.specs.Trailer.{trailer_of, trailer_word_of}
use Rattle.packet_write.specs.Write.{header_word, size_for, plain_parts, pad_for, write_of, write_survey_of}
use Rattle.payload_format.specs.Count.{needed_of}
use Rattle.payload_unpack.specs.Unpack.{Buffers, unpack_of}
use Rattle.payload_order.specs.declared.Coordinates.{Coordinates}
use Rattle.payload_order.specs.Numbering.{coordinates_of, item_of}
use Rattle.payload_pack.specs.Pack.{pack_of}
use Rattle.table.specs.Layout.{layout_words, record_at}
use Rattle.play.specs.declared.Heard.{Heard}
use Rattle.panel.specs.Readings.{reading_of}
use Rattle.demands.specs.Calls.{SomeOutcome, OneOutcome, RefusalLeaves, Each, calls}
use Rattle.demands.specs.Sources.{Sources}
use Rattle.demands.specs.Refusals.{InOrder}
use Rattle.demands.specs.WellMade.{Judged}
use Rattle.demands.specs.ForC.{ForC}
use Rattle.demands.specs.Clean.{Clean}
use Rattle.demands.specs.Packings.{PackedAs}
use Rattle.demands.specs.ItemsNumbered.{ItemsNumbered, figures}
use Rattle.demands.specs.Samples.{Hold}
use Rattle.demands.specs.ShownAs.{ShownAs}
use Rattle.demands.specs.Listing.{Listing, streams_in, Valid}
use Rattle.demands.specs.Trace.{trace_of, own, field_carried, answers_after}
use Rattle.demands.specs.Program.{Program, Accepts, AreWords, reads_by, writes_by, play_all, said_all}
use Rattle.demands.specs.Survey.{OneN, OthersPlain, UnlistedPlain, survey_samples}
use Rattle.demands.specs.PlacesTold.{PlacesTold}
use Rattle.demands.specs.FieldFound.{FieldFound}
use Rattle.demands.specs.Right.{Right, past_of}
use Rattle.demands.specs.Lights.{LightsOut}
use Rattle.demands.specs.PanelShows.{changed_by, PanelShows}
use Rattle.demands.specs.OwnRight.{OwnRight}
use Rattle.demands.specs.Resumed.{Saves, Resumes, Stop, Day, DayRight}
use Rattle.demands.specs.Recording.{Runs}
use Rattle.demands.specs.Jumped.{StartsIndex, StartsWhere, Grows, GrowsWhere, GrowsFull, AsRun, Hands, Jumps, JumpsRight, PlaceExact}
use Rattle.demands.specs.Jumped.{PageExact}
use Rattle.demands.specs.PastUnread.{IsLayout, PastUnread}
use Rattle.demands.specs.Altered.{Altered, own_answers, RefusedApart}

-- ---- demand 1

pub record Demand1 : Type 1 where
  -- "Every word slice handed in gets an answer, and each call finishes": no public call asks anything of what it is handed, and each promise is its function's
  -- own (that the code returns and keeps it says proofs/Sources.antt)
  pub sources : Sources
  -- the promise of each is met by some outcome, answer and lent words, whatever is handed in, and leaves one
  pub answered : Each SomeOutcome calls
  pub once : Each OneOutcome calls
  -- "Bad packets, tables, pages and formats are refused with the number in our list, given exactly when the list says."
  pub numbers : InOrder
  -- and which tables, pages and contents of an index are bad
  pub well_made_lem : Judged
  -- "A refusal changes no word of any buffer it was lent."
  pub refusals : Each RefusalLeaves calls
  -- and all of it of the calls for C
  pub for_c : ForC

-- ---- demand 2: "Packets, context fields and packed samples are read and written as VITA 49.0 defines them, within the limits of document 01."

pub record Demand2 (P : Program) : Type 0 where
  -- the layouts of document 01; document 02, C-15: "Demand 2 takes the place as part of the answer"
  pub reads : (ws : List ℕ) → P.read ws ≡ read_told ws
  pub reads_survey : (ws : List ℕ) → P.read_survey ws ≡ survey_told ws
  pub places : PlacesTold P
  pub finds : (b : ℕ) (body : List ℕ) → P.find b body ≡ found_of b body
  pub writes : (p : Parts) (body out : List ℕ) (at : ℕ) → P.write p body out at ≡ write_of p body out at
  pub writes_survey : (pad : ℕ) (p : Parts) (body out : List ℕ) (at : ℕ) → P.write_survey pad p body out at ≡ write_survey_of pad p body out at
  pub trailers : (w : ℕ) → P.trailer_parts w ≡ trailer_of w
  pub trailer_words_lem : (enables indicators e associated : ℕ) → P.trailer_word enables indicators e associated
      ≡ trailer_word_of enables indicators e associated
  pub packs : (first second : ℕ) (items events channels out : List ℕ)
      → P.pack first second items events channels out ≡ pack_of first second items events channels out
  pub words_needed_lem : (first second n : ℕ) → P.words_needed first second n ≡ needed_of first second n
  pub unpacks : (first second n : ℕ) (ws : List ℕ) (b : Buffers) → P.unpack first second n ws b ≡ unpack_of first second n ws b
  -- "context fields .. are read": of an accepted Context packet, each field that the indicator carries is found, and no other
  pub fields : (ws : List ℕ) (p : Packet) → P.read ws ≡ accepted p → p.parts.kind ≡ 4 → (b : ℕ) → FieldFound P b (part p.place p.length ws)
  -- "An accepted packet written again gives the same words": its parts, its pad count where it is a 49A packet, and its body, written anywhere with room
  pub again : (survey : Bool) (ws : List ℕ) → AreWords ws → (p : Packet) (pad : ℕ) → reads_by P survey ws ≡ accepted (p, pad)
      → (out : List ℕ) (at : ℕ) → at + p.size ≤ length out
      → writes_by P survey pad p.parts (part p.place p.length ws) out at
      ≡ accepted (record { says = p.size; leaves = take at out ++ take p.size ws ++ drop (at + p.size) out })
  -- what was written, read from its place on, has the same parts, absent ones zero, the same pad count and the same body
  pub back : (survey : Bool) (pad : ℕ) (p : Parts) (body out : List ℕ) (at : ℕ) (d : Done ℕ (List ℕ)) → writes_by P survey pad p body out at ≡ accepted d
      → let w = header_word p (size_for p (length body)) in
      (reads_by P survey (drop at d.leaves)
      ≡ accepted (record { parts = plain_parts w p; size = d.says; place = body_at w; length = length body }, pad_for survey pad p))
      × (part (body_at w) (length body) (drop at d.leaves) ≡ body)
  -- document 02, C-13: "An accepted 49A packet has one n"; types other than 1 stay plain
  pub one_n : (ws : List ℕ) (s : Survey) → P.read_survey ws ≡ accepted s → s.packet.parts.kind ≡ 1 → OneN P ws s
  pub others_plain : OthersPlain P
  pub survey_samples_lem : Hold survey_samples
  -- "no bit combination is refused": the parts of every trailer word make that word again; and a word that was made says its parts
  pub trailer_again : (w : ℕ) → w < 2 ^ 32 → P.trailer_word (bits 31 20 w) (bits 19 8 w) (bits 7 7 w) (bits 6 0 w) ≡ accepted w
  pub trailer_back_lem : (enables indicators e associated w : ℕ) → P.trailer_word enables indicators e associated ≡ accepted w
      → P.trailer_parts w ≡ record { enables = enables; indicators = indicators; e = eqb e 1; associated = associated }
  -- "Legal samples, event tags and channel tags packed and unpacked come back the same"
  pub unpacked : (first second : ℕ) (items events channels out : List ℕ) (d : Done ℕ (List ℕ)) → P.pack first second items events channels out ≡ accepted d
      → (b : Buffers) → length items ≤ length b.items → length items ≤ length b.events → length items ≤ length b.channels
      → let answer = P.unpack first second (length items) (take d.says d.leaves) b in
      (said_of answer ≡ accepted (length items))
      × (take (length items) (left_of answer b).items ≡ items)
      × (take (length items) (left_of answer b).events ≡ events)
      × (take (length items) (left_of answer b).channels ≡ channels)
  -- and the other way: words that a writer made, unpacked and packed, are the same words
  pub packed : (first second n : ℕ) (ws : List ℕ) → AreWords ws → Clean first n ws → (b : Buffers) (v : ℕ) → said_of (P.unpack first second n ws b) ≡ accepted v
      → (out : List ℕ) → length ws ≤ length out
      → let left = left_of (P.unpack first second n ws b) b in
      let answer = P.pack first second (take n left.items) (take n left.events) (take n left.channels) out in
      (said_of answer ≡ accepted (length ws)) × (take (length ws) (left_of answer out) ≡ ws)
  -- packed samples lie in the words as document 01 says, those that were packed and those that are unpacked; "Writers put zero in unused bits"
  pub packs_as : (first second : ℕ) (items events channels out : List ℕ) (d : Done ℕ (List ℕ)) → P.pack first second items events channels out ≡ accepted d
      → let ws = take d.says d.leaves in
      PackedAs first (length items) items events channels ws × Clean first (length items) ws
  pub unpacks_as : (first second n : ℕ) (ws : List ℕ) → AreWords ws → (b : Buffers) (d : Done ℕ Buffers) → P.unpack first second n ws b ≡ accepted d
      → PackedAs first n (take n d.leaves.items) (take n d.leaves.events) (take n d.leaves.channels) ws
  -- document 02, C-12: the items of a payload by time, channel, component and repeat, and back, one-to-one and onto, in both orders
  pub coordinates : (first second n item : ℕ) → P.coordinates first second n item ≡ coordinates_of first second n item
  pub items : (first second n : ℕ) (at : Coordinates) → P.item first second n at ≡ item_of first second n at
  pub numbered : ItemsNumbered P
  -- and these orders are those of the figures of VITA 49.0
  pub as_figures : Hold figures
  -- readings for the panel: what each shows of the words of its field
  pub readings : (table : List ℕ) (stream bit : ℕ) → P.reading table stream bit ≡ reading_of table stream bit
  pub shown_as : (ws : List ℕ) → ShownAs ws

-- ---- demand 3: tables

pub record Demand3 (P : Program) : Type 0 where
  -- "Start a fresh table for any valid list of streams": one is started wherever there is room
  pub starts : (list : Listing) (t : List ℕ) → Valid list → layout_words (streams_in list) ≤ length t → Accepts (P.start list.ids list.choices t)
  -- "and play any packets, refused ones among them": the table is right, each answer is the one that the rules give, and words past the layout stay
  pub right : (list : Listing) (t : List ℕ) (d : Done ℕ (List ℕ)) → P.start list.ids list.choices t ≡ accepted d → (packets : List (List ℕ))
      → Right list packets (play_all P d.leaves packets)
  pub answers : (list : Listing) (t : List ℕ) (d : Done ℕ (List ℕ)) → P.start list.ids list.choices t ≡ accepted d → (packets : List (List ℕ))
      → said_all P d.leaves packets ≡ answers_after [] (trace_of list packets)
  pub past : (list : Listing) (t : List ℕ) (d : Done ℕ (List ℕ)) → P.start list.ids list.choices t ≡ accepted d → (packets : List (List ℕ))
      → past_of list (play_all P d.leaves packets) ≡ past_of list t
  -- document 02, C-13: "packets of no declared stream .. stay plain"
  pub unlisted_plain : UnlistedPlain P
  -- document 02, C-11: over-range, sample loss and field 22 leave no trace
  pub lights_out : LightsOut P
  -- what the panel and the caller see of a stream is that value, and these counts
  pub shows : (list : Listing) (packets : List (List ℕ)) (t : List ℕ) → Right list packets t → (s : ℕ) → s < streams_in list → PanelShows P list packets t s
  -- which fields two tables do not hold alike, such as those before a packet and after it: those whose values, by what was last carried, are not the same
  pub changes : (list : Listing) (packets : List (List ℕ)) (t : List ℕ) → Right list packets t → (s : ℕ) → s < streams_in list
      → (others : Listing) (heard : List (List ℕ)) (u : List ℕ) → Right others heard u → (v : ℕ) → v < streams_in others
      → (w : ℕ) × (P.changed t s u v ≡ accepted w)
      × ((b : ℕ) → has w b ≡ changed_by b (field_carried b (own s (trace_of list packets))) (field_carried b (own v (trace_of others heard))))
  -- a stream's own table is right for its identifier and choice alone and the same packets
  pub own : (list : Listing) (packets : List (List ℕ)) (t : List ℕ) → Right list packets t → (s : ℕ) → s < streams_in list
      → (out : List ℕ) → layout_words 1 ≤ length out
      → OwnRight P list packets t s out
  -- many packets in one slice of words are played as one by one
  pub runs : Runs P
  -- "A lent table may be longer than its layout: words past it are neither read nor changed": two tables with one layout get the same answers and layouts
  pub unread : (l x : List ℕ) → IsLayout l → PastUnread P l x
  -- "Save a page after any packet": of every table that is right for the packets so far, the tables above among them
  pub saves : (list : Listing) (packets : List (List ℕ)) (t : List ℕ) → Right list packets t → Saves P list t
  -- "put it back where there is room, play the rest"; without room, ROOM
  pub resumes : (list : Listing) (first rest : List (List ℕ)) (t : List ℕ) → Right list first t → (buffer : List ℕ) (saved : Done ℕ (List ℕ))
      → P.save t buffer ≡ accepted saved → (lent : List ℕ) → layout_words (streams_in list) ≤ length lent
      → Resumes P list t first rest (take saved.says saved.leaves) lent
  pub no_room : (list : Listing) (first : List (List ℕ)) (t : List ℕ) → Right list first t → (buffer : List ℕ) (saved : Done ℕ (List ℕ))
      → P.save t buffer ≡ accepted saved → (lent : List ℕ) → length lent < layout_words (streams_in list)
      → P.put_back (take saved.says saved.leaves) lent ≡ refused ROOM
  -- and so all day, with any number of stops: "every answer and the final table equal those of the unbroken play", and so does every page
  pub days : (list : Listing) (first packets : List (List ℕ)) (t last : List ℕ) (answers : List (Told Heard)) (stops : List Stop) → Right list first t
      → Day P [] t packets answers stops last → DayRight P list first t packets answers stops last
  -- document 02, C-16: "Demand 3's resuming now speaks of jumps both ways". An index is started with well-made contents, and growing is play; both wherever
  -- there is room, and full contents refuse the next packet with ROOM. Packets are numbered as a run goes over them. A jump to any packet taken in leaves the
  -- table of playing all earlier packets on the first, and where that one was right, a right one; PLACE is given exactly above them, and PAGE exactly for
  -- contents or an entry
  pub starts_index : StartsIndex P
  pub starts_where : StartsWhere P
  pub grows : Grows P
  pub grows_where : GrowsWhere P
  pub grows_full : GrowsFull P
  pub as_run : AsRun P
  pub hands : Hands P
  pub jumps : Jumps P
  pub jumps_right : JumpsRight P
  pub place_exact : PlaceExact P
  pub page_exact : PageExact P
  -- "With the list unchanged, other streams' packets may be altered at will, none becoming this stream's, without altering this stream's answers or record."
  pub apart : (list : Listing) (t u : List ℕ) (d e : Done ℕ (List ℕ)) → P.start list.ids list.choices t ≡ accepted d
      → P.start list.ids list.choices u ≡ accepted e → (s : ℕ) → s < streams_in list
      → (ps qs : List (List ℕ)) → Altered list s ps qs
      → (record_at s (play_all P d.leaves ps) ≡ record_at s (play_all P e.leaves qs))
      × (own_answers list s ps (said_all P d.leaves ps) ≡ own_answers list s qs (said_all P e.leaves qs))
  -- refused packets are no stream's, also those that bear its identifier
  pub refused_apart : (list : Listing) → RefusedApart P list
