-- The definition says what document 01 says of both packings. The idea: `carried_bits` is the one number by which they differ, so each statement is a
-- law of streams at that number; what was packed and what is unpacked have the fields of the definition (RoundTrip).
use Rattle.words.proofs.Kit.{◌≡◌, sym, ap, ◌∙◌, true, false, ⊎_elim, List, ℕ, suc, ◌+◌, ◌-◌, ◌*◌, ◌/◌, ◌%◌, ◌^◌, ◌≤◌, ◌<◌, arith, get_or, length, take}
use Rattle.words.proofs.Kit.{le-leb, lt-leb}
use native.Mathlib.Nat.{mul_comm, div-add-mod', add-mul, mul-add, mul_assoc, mul-le-mul_left, mul-le-mul_right, mod-lt, zero-mod, suc-mul, le-div_iff_mul-le}
use native.Mathlib.Nat.{div-mul-le_self}
use lib.ListN.{get_or-eq_default}
use lib.Arith.{digits_div}
use Rattle.words.specs.Word.{high_first}
use Rattle.words.specs.Outcome.{accepted, Done}
use Rattle.words.proofs.Cases.{le_or_lt, accepted_same}
use Rattle.words.proofs.RefusalLaws.{first_passed, none_given}
use Rattle.fields.specs.Format.{packing_size}
use Rattle.bitstream.specs.Stream.{span}
use Rattle.bitstream.specs.BigNumber.{value}
use Rattle.bitstream.specs.Carried.{stream_bits, packing_field, needed}
use Rattle.bitstream.proofs.CarriedLaws.{carried_one, carried_all, field_words, enough, word_below, word_uncarried, word_padding}
use Rattle.bitstream.proofs.BigNumber.{by_value}
use Rattle.payload_format.specs.Format.{link_efficient, carried_bits, packing_of}
use Rattle.payload_format.specs.Count.{words_for}
use Rattle.payload_format.specs.Field.{field_in, unused_in, fields_of}
use Rattle.payload_format.proofs.FormatLaws.{legal, field_some, carry_some, carry_most}
use Rattle.payload_format.proofs.FieldLaws.{unused_made, fields_blank}
use Rattle.payload_pack.specs.Pack.{pack_list, pack_of}
use Rattle.payload_pack.specs.inner.Packable.{pack_check}
use Rattle.payload_pack.proofs.PackLaws.{PackPassed, pack_passed}
use Rattle.payload_unpack.specs.Unpack.{Buffers, unpack_list, unpack_of}
use Rattle.payload_unpack.proofs.UnpackLaws.{unpack_passed}
use Rattle.demands.specs.Clean.{Clean}
use Rattle.demands.specs.Packings.{FieldAt, WordsTaken, PackedAs}
use Rattle.demands.proofs.RoundTrip.{words, words_length, word_packed, field_packed, item_packed, event_packed, channel_packed, parts_of_lem}

-- ---- link-efficient
module _ (first : ℕ) (link : link_efficient first ≡ true) where
  all_carried : carried_bits first ≡ 32
  unfolding carried_bits
  all_carried = rw link

  -- "Link-efficient fields of f bits follow without a gap": field k is the f bits from bit f * k on, of the words as one number
  linked : (k : ℕ) (ws : List ℕ) → ((j : ℕ) → get_or ws j 0 < 2 ^ 32) → packing_size first * k + packing_size first ≤ length ws * 32
      → field_in (packing_of first) ws k ≡ value ws / 2 ^ (length ws * 32 - (packing_size first * k + packing_size first)) % 2 ^ packing_size first
  unfolding packing_field packing_of
  linked k ws h l =
      rw all_carried (carried_all ws (packing_size first * k) (packing_size first) ∙ by_value ws h (packing_size first * k) (packing_size first) l)

  -- "n of them take n times f over 32 words, rounded up"
  linked_words : (n : ℕ) → words_for first n ≡ (n * packing_size first + 31) / 32
  unfolding words_for needed
  linked_words n = rw all_carried (ap (λ (x : ℕ). (x + 31) / 32) (mul_comm (packing_size first) n))

-- ---- processing-efficient, at most 32 bits
module _ (m f : ℕ) (hf : 0 < f) (hm : 0 < m) (l : m * f ≤ 32) where
  several : (k : ℕ) (ws : List ℕ) → packing_field (m * f) f ws k ≡ get_or ws (k / m) 0 / 2 ^ (32 - (k % m * f + f)) % 2 ^ f
  unfolding packing_field
  several k ws =
      let q : f * k ≡ k / m * (m * f) + k % m * f =
      mul_comm f k ∙ ap (λ (x : ℕ). x * f) (sym (div-add-mod' k m)) ∙ add-mul (k / m * m) (k % m) f ∙ ap (λ (x : ℕ). x + k % m * f) (mul_assoc (k / m) m f) in
      let o : k % m * f + f ≤ m * f = omega (arith, mul-le-mul_right f (mod-lt k hm), suc-mul (k % m) f) in
      ap (λ (x : ℕ). span (m * f) (stream_bits (m * f) ws) x f) q
      ∙ carried_one (m * f) ws (k / m) (k % m * f) f l o

  several_words : (n : ℕ) → needed (m * f) f n ≡ (n + (m - 1)) / m
  unfolding needed
  several_words n =
      let x : ℕ = n + (m - 1) in
      let q : ℕ = x / m in
      let r : ℕ = x % m in
      let s : suc (m - 1) ≡ m = omega arith in
      let cut : n * f + (m - 1) * f ≡ q * (m * f) + r * f =
      sym (add-mul n (m - 1) f) ∙ ap (λ (y : ℕ). y * f) (sym (div-add-mod' x m)) ∙ add-mul (q * m) r f ∙ ap (λ (y : ℕ). y + r * f) (mul_assoc q m f) in
      let one : (m - 1) * f + f ≡ m * f = sym (suc-mul (m - 1) f) ∙ ap (λ (y : ℕ). y * f) s in
      let small : r * f + f ≤ m * f = omega (arith, mul-le-mul_right f (mod-lt x hm), suc-mul r f) in
      let e : f * n + (m * f - 1) ≡ q * (m * f) + (r * f + (f - 1)) = omega (arith, mul_comm f n) in
      ap (λ (y : ℕ). y / (m * f)) e ∙ digits_div q {m = m * f} {r = r * f + (f - 1)} (omega arith)

module _ (first : ℕ) (processing-efficient : link_efficient first ≡ false) where
  module _ (narrow : packing_size first ≤ 32) where
    some_fit : 0 < 32 / packing_size first
    some_fit = (le-div_iff_mul-le (field_some first)).1 (omega arith)

    whole_carried : carried_bits first ≡ 32 / packing_size first * packing_size first
    unfolding carried_bits
    whole_carried = rw (processing-efficient, le-leb (packing_size first) 32 narrow)

    -- "each word holds as many whole fields as fit, from the left": with m = 32 / f of them, field k is in word k / m, the (k % m)-th from the left
    processing : (k : ℕ) (ws : List ℕ)
        → field_in (packing_of first) ws k
        ≡ get_or ws (k / (32 / packing_size first)) 0 / 2 ^ (32 - (k % (32 / packing_size first) * packing_size first + packing_size first))
        % 2 ^ packing_size first
    unfolding packing_of
    processing k ws =
        rw whole_carried (several (32 / packing_size first) (packing_size first) (field_some first) some_fit (div-mul-le_self 32 (packing_size first)) k ws)

    -- so n fields take n over m words, rounded up
    processing_words : (n : ℕ) → words_for first n ≡ (n + (32 / packing_size first - 1)) / (32 / packing_size first)
    unfolding words_for
    processing_words n =
        rw whole_carried (several_words (32 / packing_size first) (packing_size first) (field_some first) some_fit (div-mul-le_self 32 (packing_size first)) n)

  -- ---- and of 64
  module _ (double : packing_size first ≡ 64) where
    both_carried : carried_bits first ≡ 32
    unfolding carried_bits
    both_carried = rw (processing-efficient, lt-leb (packing_size first) 32 (omega arith))

    -- "f of 64 takes two words", high first
    doubled : (k : ℕ) (ws : List ℕ) → ((j : ℕ) → get_or ws j 0 < 2 ^ 32)
        → field_in (packing_of first) ws k ≡ high_first (get_or ws (2 * k) 0) (get_or ws (2 * k + 1) 0)
    unfolding packing_of
    doubled k ws h = rw (both_carried, double) (field_words ws h k)

    doubled_words : (n : ℕ) → words_for first n ≡ 2 * n
    unfolding words_for needed
    doubled_words n = rw (both_carried, double) (omega arith)

-- ---- both calls: the words are those of n fields, each at its place
words_taken : (first n m : ℕ) → m ≡ words_for first n → WordsTaken first n m
words_taken first n m e = record {
  linked = λ link. e ∙ linked_words first link n;
  several = λ processing-efficient narrow. e ∙ processing_words first processing-efficient narrow n;
  double = λ processing-efficient double. e ∙ doubled_words first processing-efficient double n;
}

-- the bits of field k lie within the words
field_inside : (first n m k : ℕ) → m ≡ words_for first n → link_efficient first ≡ true → k < n → packing_size first * k + packing_size first ≤ m * 32
unfolding words_for
field_inside first n m k e link l =
    let c = all_carried first link in
    let b = enough (carried_bits first) (packing_size first) n (carry_some first) in
    let b' = rw (← e, c) at b in
    omega (arith, b', mul-le-mul_left (packing_size first) l, mul-add (packing_size first) k 1)

field_at : (first n k : ℕ) (ws : List ℕ) → ((j : ℕ) → get_or ws j 0 < 2 ^ 32) → length ws ≡ words_for first n → k < n
    → FieldAt first ws k (field_in (packing_of first) ws k)
field_at first n k ws h e l = record {
  linked = λ link. linked first link k ws h (field_inside first n (length ws) k e link l);
  several = λ processing-efficient narrow. processing first processing-efficient narrow k ws;
  double = λ processing-efficient double. doubled first processing-efficient double k ws h;
}

-- ---- what was packed
module _ (first second : ℕ) (items events channels out : List ℕ) (p : PackPassed first second items events channels (length out)) where
  abbrev ws : List ℕ
  ws = words first second items events channels out p

  there : length ws ≡ words_for first (length items)
  there = words_length first second items events channels out p

  past : (j : ℕ) → words_for first (length items) ≤ j → get_or ws j 0 ≡ 0
  past j q = get_or-eq_default ws 0 (rw there q)

  packed_below : (j : ℕ) → get_or ws j 0 < 2 ^ 32
  unfolding packing_of
  packed_below j =
      ⊎_elim
      (λ (q : words_for first (length items) ≤ j). rw (past j q) (omega arith))
      (λ (q : j < words_for first (length items)).
      rw (word_packed first second items events channels out p j q) (word_below (carried_bits first) (packing_size first) _ j (carry_most first)))
      (le_or_lt (words_for first (length items)) j)

  as_packed : PackedAs first (length items) items events channels ws
  unfolding packing_of
  as_packed = record {
    words = words_taken first (length items) (length ws) there;
    field = λ k l. (
      field_in (packing_of first) ws k,
      field_at first (length items) k ws packed_below there l,
      record {
        item = sym (item_packed first second items events channels out p k l);
        event = sym (event_packed first second items events channels out p k l);
        channel = sym (channel_packed first second items events channels out p k l);
      },
    );
  }

  -- "Writers put zero in unused bits"
  clean : Clean first (length items) ws
  unfolding packing_of words_for
  clean = record {
    unused = λ k l.
        ap (unused_in (packing_of first)) (field_packed first second items events channels out p k l)
        ∙ unused_made (packing_of first) (legal first p.format) _ _ _ (p.events_fit.each k l) (p.channels_fit.each k l);
    uncarried = λ j.
        ⊎_elim
        (λ (q : words_for first (length items) ≤ j). rw (past j q) (zero-mod (2 ^ (32 - carried_bits first))))
        (λ (q : j < words_for first (length items)).
        rw (word_packed first second items events channels out p j q) (word_uncarried (carried_bits first) (packing_size first) _ j))
        (le_or_lt (words_for first (length items)) j);
    padding =
        word_padding (carried_bits first) (packing_size first) (words_for first (length items)) (length items)
        (fields_of (packing_of first) items events channels) ws (carry_some first) (field_some first)
        (enough (carried_bits first) (packing_size first) (length items) (carry_some first))
        (word_packed first second items events channels out p) past
        (λ k l. fields_blank (packing_of first) k items events channels l (omega (arith, p.events_fit.many)) (omega (arith, p.channels_fit.many)));
  }

pub packed_as : (first second : ℕ) (items events channels out : List ℕ) (d : Done ℕ (List ℕ)) → pack_of first second items events channels out ≡ accepted d
    → let ws = take d.says d.leaves in PackedAs first (length items) items events channels ws × Clean first (length items) ws
unfolding pack_of pack_check
packed_as first second items events channels out d e =
    let list = pack_list first second items events channels (length out) in
    let a = first_passed list _ d e in
    let k = pack_passed first second items events channels (length out) (none_given list _ a.0) in
    rw (← accepted_same a.1) (as_packed first second items events channels out k, clean first second items events channels out k)

-- ---- what is unpacked
pub unpacked_as : (first second n : ℕ) (ws : List ℕ) → ((j : ℕ) → get_or ws j 0 < 2 ^ 32) → (b : Buffers) (d : Done ℕ Buffers)
    → unpack_of first second n ws b ≡ accepted d
    → PackedAs first n (take n d.leaves.items) (take n d.leaves.events) (take n d.leaves.channels) ws
unfolding unpack_of packing_of
unpacked_as first second n ws h b d e =
    let list = unpack_list first second n (length ws) (length b.items) (length b.events) (length b.channels) in
    let a = first_passed list _ d e in
    let k = unpack_passed first second n (length ws) (length b.items) (length b.events) (length b.channels) (none_given list _ a.0) in
    let parts = parts_of_lem first n ws b in
    rw (← accepted_same a.1)
    (record {
      words = words_taken first n (length ws) k.there;
      field = λ j l. (
        field_in (packing_of first) ws j,
        field_at first n j ws h k.there l,
        record { item = parts.item j l; event = parts.event j l; channel = parts.channel j l },
      );
    })
