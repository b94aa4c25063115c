-- What is packed is unpacked again, and the other way, over the promises of the two public calls: once for every format, both packings, and every
-- number of items. The idea: an accepted answer tells that every test passed, the tests of the other call then pass too, and fields and words
-- come back by one regrouping of the stream (`field_back`, `word_back`).
use Rattle.words.proofs.Kit.{◌≡◌, refl, sym, ap, ◌∙◌, true, false, List, ℕ, ◌+◌, ◌-◌, ◌*◌, ◌^◌, ◌≤◌, ◌<◌, arith, length, get_or, take, ltb, lt-ltb}
use Rattle.words.proofs.Kit.{le-ltb, eq-eqb}
use native.Mathlib.Nat.{mod-lt}
use lib.Pow.{pow_pos, shr_lt}
use Rattle.words.specs.Outcome.{accepted, Done, said_of, left_of}
use Rattle.words.proofs.Cases.{accepted_same}
use Rattle.words.proofs.RefusalLaws.{first_passed, none_given, first_fine}
use Rattle.words.proofs.MeetLaws.{said_accepted}
use Rattle.words.proofs.AllLaws.{all_intro}
use Rattle.fields.specs.Format.{event_size, channel_size, item_size, packing_size}
use Rattle.bitstream.specs.Carried.{stream_bits, packing_field, word_of}
use Rattle.bitstream.proofs.SpanLaws.{below}
use Rattle.bitstream.proofs.CarriedLaws.{field_back, word_back, enough}
use Rattle.bitstream.proofs.FilledLaws.{list_length, list_at, filled_take, filled_front}
use Rattle.payload_format.specs.declared.inner.Packing.{Packing}
use Rattle.payload_format.specs.Format.{format_bad, carried_bits, packing_of}
use Rattle.payload_format.specs.inner.Legal.{Legal}
use Rattle.payload_format.specs.Count.{count_bad, words_for}
use Rattle.payload_format.specs.Field.{field_in, item_in, event_in, channel_in, fields_of}
use Rattle.payload_unpack.specs.Unpack.{Buffers, unpacked, unpack_list, unpack_of}
use Rattle.payload_pack.specs.Pack.{packed, fitting, value_bad, pack_list, pack_of}
use Rattle.payload_pack.specs.inner.Packable.{pack_check, Fitting}
use Rattle.demands.specs.Clean.{Clean}
use Rattle.payload_format.proofs.FormatLaws.{legal, carry_some, carry_most, field_some}
use Rattle.payload_format.proofs.FieldLaws.{item_back, event_back, channel_back, made_below, made_back, fields_blank}
use Rattle.payload_unpack.proofs.UnpackLaws.{unpack_check, UnpackPassed, unpack_passed}
use Rattle.payload_pack.proofs.PackLaws.{PackPassed, pack_passed, packable}

-- ---- the checks of each call, passed
unpack_passes : (first second n m a b c : ℕ) → UnpackPassed first second n m a b c → unpack_check first second n m a b c ≡ accepted tt
unpack_passes first second n m a b c p =
    simp (
      p.format,
      p.count,
      eq-eqb m (words_for first n) p.there,
      le-ltb a n p.items,
      le-ltb b n p.events,
      le-ltb c n p.channels,
    )

fitting_is : (w n : ℕ) (l : List ℕ) → Fitting w n l → fitting w l ≡ true
unfolding fitting
fitting_is w n l h =
    all_intro (λ k. ltb (get_or l k 0) (2 ^ w)) (length l) (λ k q. lt-ltb (get_or l k 0) (2 ^ w) (h.each k (omega (arith, h.many))))

pack_passes : (first second : ℕ) (items events channels : List ℕ) (room : ℕ) → PackPassed first second items events channels room
    → pack_check first second items events channels room ≡ accepted tt
unfolding pack_check value_bad
pack_passes first second items events channels room p =
    let n : ℕ = length items in
    simp (
      p.format,
      p.count,
      eq-eqb (length events) n p.events_fit.many,
      eq-eqb (length channels) n p.channels_fit.many,
      fitting_is (item_size first) n items p.items_fit,
      fitting_is (event_size first) n events p.events_fit,
      fitting_is (channel_size first) n channels p.channels_fit,
      le-ltb room (words_for first n) p.places,
    )

-- ---- packed, then unpacked
module _ (first second : ℕ) (items events channels out : List ℕ) (p : PackPassed first second items events channels (length out)) where
  abbrev n : ℕ
  n = length items

  abbrev m : ℕ
  m = words_for first (length items)

  abbrev P : Packing
  P = packing_of first

  abbrev pub words : List ℕ
  words = take m (packed P n items events channels out)

  pub words_length : length words ≡ m
  unfolding packing_of words_for
  words_length = ap length (filled_take m _ out) ∙ list_length m _

  pub word_packed : (j : ℕ) → j < m → get_or words j 0 ≡ word_of P.carry P.field (fields_of P items events channels) j
  unfolding packing_of words_for
  word_packed j h = ap (λ (x : List ℕ). get_or x j 0) (filled_take m _ out) ∙ list_at m _ j h

  -- field k of the words is the field that was packed
  pub field_packed : (k : ℕ) → k < n → field_in P words k ≡ fields_of P items events channels k
  unfolding packing_of words_for
  field_packed k l =
      let q = packable first second items events channels (length out) p in
      field_back P.carry P.field m n (fields_of P items events channels) words
      (carry_some first) (enough P.carry P.field n (carry_some first))
      word_packed
      k l (made_below P q.0.legal _ _ _ (p.events_fit.each k l) (p.channels_fit.each k l) (p.items_fit.each k l))

  -- and its parts
  module _ (k : ℕ) (l : k < n) where
    lawful : Legal P
    lawful = legal first p.format

    pub item_packed : item_in P (field_in P words k) ≡ get_or items k 0
    unfolding packing_of
    item_packed = ap (item_in P) (field_packed k l) ∙ item_back P lawful _ _ _ (p.events_fit.each k l) (p.channels_fit.each k l)

    pub event_packed : event_in P (field_in P words k) ≡ get_or events k 0
    unfolding packing_of
    event_packed = ap (event_in P) (field_packed k l) ∙ event_back P lawful _ _ _ (p.events_fit.each k l) (p.channels_fit.each k l)

    pub channel_packed : channel_in P (field_in P words k) ≡ get_or channels k 0
    unfolding packing_of
    channel_packed = ap (channel_in P) (field_packed k l) ∙ channel_back P lawful _ _ _ (p.events_fit.each k l) (p.channels_fit.each k l)

-- What `pack` wrote, handed to `unpack` with room for as many, is accepted, and gives the items, the event tags and the channel tags back.
pub pack_then_unpack : (first second : ℕ) (items events channels out : List ℕ) (d : Done ℕ (List ℕ))
    → pack_of first second items events channels out ≡ accepted d
    → (b : Buffers) → length items ≤ length b.items → length items ≤ length b.events → length items ≤ length b.channels
    → let answer = unpack_of first second (length items) (take d.says d.leaves) b in
    (said_of answer ≡ accepted (length items))
    × (take (length items) (left_of answer b).items ≡ items)
    × (take (length items) (left_of answer b).events ≡ events)
    × (take (length items) (left_of answer b).channels ≡ channels)
unfolding pack_of pack_check unpack_of
pack_then_unpack first second items events channels out d e b hi he hc =
    let n = length items in
    let a = first_passed (pack_list first second items events channels (length out)) _ d e in
    let k = pack_passed first second items events channels (length out) (none_given (pack_list first second items events channels (length out)) _ a.0) in
    let ws = words first second items events channels out k in
    let c = unpack_passes first second n (length ws) (length b.items) (length b.events) (length b.channels)
    (record {
      format = k.format;
      count = k.count;
      there = words_length first second items events channels out k;
      items = hi;
      events = he;
      channels = hc;
    }) in
    let f : unpack_of first second n ws b ≡ accepted (record { says = n; leaves = unpacked (packing_of first) n ws b }) =
    first_fine (unpack_list first second n (length ws) (length b.items) (length b.events) (length b.channels)) tt tt _ c in
    rw (← accepted_same a.1, f) (
      refl,
      filled_front n _ b.items items refl (item_packed first second items events channels out k),
      filled_front n _ b.events events k.events_fit.many (event_packed first second items events channels out k),
      filled_front n _ b.channels channels k.channels_fit.many (channel_packed first second items events channels out k),
    )

-- ---- unpacked, then packed

-- lists of n entries that are the parts of the words' fields
pub record Parts (first n : ℕ) (ws items events channels : List ℕ) : Type 0 where
  pub many : (length items ≡ n) × (length events ≡ n) × (length channels ≡ n)
  pub item : (k : ℕ) → k < n → get_or items k 0 ≡ item_in (packing_of first) (field_in (packing_of first) ws k)
  pub event : (k : ℕ) → k < n → get_or events k 0 ≡ event_in (packing_of first) (field_in (packing_of first) ws k)
  pub channel : (k : ℕ) → k < n → get_or channels k 0 ≡ channel_in (packing_of first) (field_in (packing_of first) ws k)

pub parts_of_lem : (first n : ℕ) (ws : List ℕ) (b : Buffers)
    → let left = unpacked (packing_of first) n ws b in Parts first n ws (take n left.items) (take n left.events) (take n left.channels)
parts_of_lem first n ws b =
    rw (filled_take n _ b.items, filled_take n _ b.events, filled_take n _ b.channels)
    (record {
      many = (list_length n _, list_length n _, list_length n _);
      item = list_at n _;
      event = list_at n _;
      channel = list_at n _;
    })

-- an item of a field fits its bits
item_small : (p : Packing) → Legal p → (ws : List ℕ) (k : ℕ) → item_in p (field_in p ws k) < 2 ^ p.item
unfolding packing_field
item_small p l ws k =
    let e : p.item + (p.field - p.item) ≡ p.field = omega arith in
    shr_lt p.item (p.field - p.item) (rw e (below p.carry (stream_bits p.carry ws) (p.field * k) p.field))

module _ (first second n : ℕ) (ws items events channels out : List ℕ) (f : format_bad first ≡ false) (c : count_bad first second n ≡ false)
    (there : length ws ≡ words_for first n) (h : Parts first n ws items events channels) (room : length ws ≤ length out) where
  repacks : PackPassed first second items events channels (length out)
  unfolding packing_of
  repacks =
      let item-fits : (k : ℕ) → k < n → get_or items k 0 < 2 ^ item_size first =
      λ k q. rw (h.item k q) (item_small (packing_of first) (legal first f) ws k) in
      let event-fits : (k : ℕ) → k < n → get_or events k 0 < 2 ^ event_size first = λ k q. rw (h.event k q) (mod-lt _ (pow_pos (event_size first))) in
      let channel-fits : (k : ℕ) → k < n → get_or channels k 0 < 2 ^ channel_size first = λ k q. rw (h.channel k q) (mod-lt _ (pow_pos (channel_size first))) in
      record {
        format = f;
        count = rw h.many.0 c;
        places = rw (h.many.0, ← there) room;
        items_fit = record { many = refl; each = λ k l. item-fits k (omega (arith, h.many.0)) };
        events_fit = record { many = h.many.1 ∙ sym h.many.0; each = λ k l. event-fits k (omega (arith, h.many.0)) };
        channels_fit = record { many = h.many.2 ∙ sym h.many.0; each = λ k l. channel-fits k (omega (arith, h.many.0)) };
      }

  -- the fields are those of the words, and the words come back
  repacked : ((j : ℕ) → get_or ws j 0 < 2 ^ 32) → Clean first n ws → take (length ws) (packed (packing_of first) (length items) items events channels out) ≡ ws
  unfolding packing_of words_for
  repacked w z =
      let g : ℕ → ℕ = fields_of (packing_of first) items events channels in
      let same : (k : ℕ) → k < n → g k ≡ field_in (packing_of first) ws k =
      λ k l. rw (h.item k l, h.event k l, h.channel k l)
      (made_back (packing_of first) (legal first f) (field_in (packing_of first) ws k) (z.unused k l)) in
      let past : (k : ℕ) → n ≤ k → g k ≡ 0 =
      λ k l. fields_blank (packing_of first) k items events channels (omega (arith, h.many.0)) (omega (arith, h.many.1)) (omega (arith, h.many.2)) in
      let back : (j : ℕ) → j < length ws → word_of (carried_bits first) (packing_size first) g j ≡ get_or ws j 0 =
      λ j l. word_back (carried_bits first) (packing_size first) n g ws j (field_some first) (carry_some first) (carry_most first) same past z.padding (w j)
      (z.uncarried j) in
      rw (h.many.0, ← there) (filled_front (length ws) (word_of (carried_bits first) (packing_size first) g) out ws refl back)

  packs_back : ((j : ℕ) → get_or ws j 0 < 2 ^ 32) → Clean first n ws
      → let answer = pack_of first second items events channels out in (said_of answer ≡ accepted (length ws)) × (take (length ws) (left_of answer out) ≡ ws)
  unfolding pack_of pack_check
  packs_back w z =
      let done : Done ℕ (List ℕ) =
      record { says = words_for first (length items); leaves = packed (packing_of first) (length items) items events channels out } in
      let f : pack_of first second items events channels out ≡ accepted done =
      first_fine (pack_list first second items events channels (length out)) tt tt _ (pack_passes first second items events channels (length out) repacks) in
      rw f (rw (h.many.0, ← there), repacked w z)

-- What `unpack` gave, handed to `pack` with room for as many words, is accepted, and gives the words back where they were clean.
pub unpack_then_pack : (first second n : ℕ) (ws : List ℕ) → ((j : ℕ) → get_or ws j 0 < 2 ^ 32) → Clean first n ws → (b : Buffers) (v : ℕ)
    → said_of (unpack_of first second n ws b) ≡ accepted v → (out : List ℕ) → length ws ≤ length out
    → let left = left_of (unpack_of first second n ws b) b in
    let answer = pack_of first second (take n left.items) (take n left.events) (take n left.channels) out in
    (said_of answer ≡ accepted (length ws)) × (take (length ws) (left_of answer out) ≡ ws)
unfolding unpack_of
unpack_then_pack first second n ws w z b v e out room =
    let list = unpack_list first second n (length ws) (length b.items) (length b.events) (length b.channels) in
    let t = said_accepted (unpack_of first second n ws b) v e in
    let passed = (first_passed list _ t.0 t.1).0 in
    let k = unpack_passed first second n (length ws) (length b.items) (length b.events) (length b.channels) (none_given list _ passed) in
    let f : unpack_of first second n ws b ≡ accepted (record { says = n; leaves = unpacked (packing_of first) n ws b }) = none_given list _ passed in
    let h = parts_of_lem first n ws b in
    rw f (packs_back first second n ws _ _ _ out k.format k.count k.there h room w z)
