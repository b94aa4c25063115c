-- What is known where nothing of unpacking is refused, what fields without tags hold, and the answers of `unpack`.
use Rattle.words.proofs.Kit.{◌≡◌, refl, sym, ap, ◌∙◌, false, not, List, ℕ, ◌+◌, ◌*◌, ◌/◌, ◌%◌, ◌^◌, ◌≤◌, ◌<◌, arith, length, get_or, ltb, eqb}
use Rattle.words.proofs.Kit.{ltb-false, eqb-true, not-false, eq-eqb, ne_eqb, lt-ltb, le-ltb}
use native.Mathlib.Nat.{mod-one, div-one}
use Rattle.std.specs.Prelude.{Ok, Err}
use Rattle.words.specs.declared.refusals.Refusal.{Refusal}
use Rattle.words.specs.Listed.{list_number, on_paper}
use Rattle.words.specs.Numbers.{COUNT, ROOM}
use Rattle.words.specs.Outcome.{Outcome, refused, accepted, Meets}
use Rattle.words.specs.Refusals.{Refusals, first_given}
use Rattle.words.specs.Word.{high_first}
use Rattle.words.proofs.RefusalLaws.{first_passed, either_passed, first_refused, first_fine}
use Rattle.words.proofs.MeetLaws.{meets_err, meets_ok}
use Rattle.bitstream.specs.Carried.{needed}
use Rattle.bitstream.specs.Filled.{list_of, filled}
use Rattle.bitstream.proofs.CarriedLaws.{enough, none_over, field_word, field_words}
use Rattle.bitstream.proofs.FilledLaws.{filled_same}
use Rattle.payload_format.specs.declared.inner.Packing.{Packing}
use Rattle.payload_format.specs.Format.{format_bad, packing_of, carried_bits}
use Rattle.payload_format.specs.Count.{count_bad, words_for}
use Rattle.payload_format.specs.inner.Checked.{items_check}
use Rattle.payload_format.specs.inner.Legal.{Legal}
use Rattle.payload_format.specs.Field.{field_in, item_in}
use Rattle.payload_format.proofs.FormatLaws.{carry_some, words_for_lem, items_first, items_legal, items_few}
use Rattle.payload_unpack.specs.Unpack.{Buffers, buffers, unpacked, unpack_list, unpack_of}
use Rattle.payload_unpack.specs.inner.Unpackable.{fit_list, fit_check, Unpackable}

-- ---- fields without tags

-- tags of size zero read as 0
no_tags : (e n : ℕ) (h : ℕ → ℕ) (l : List ℕ) → e ≡ 0 → filled n (λ k. 0) l ≡ filled n (λ k. h k % 2 ^ e) l
no_tags e n h l z = rw z (filled_same n (λ k. 0) (λ k. h k % 2 ^ 0) l (λ k q. sym (mod-one (h k))))

module _ (p : Packing) (ws : List ℕ) where
  pub unpacked_none : (n : ℕ) (items events channels : List ℕ) → n ≡ 0 → buffers items events channels ≡ unpacked p n ws (buffers items events channels)
  unfolding filled list_of
  unpacked_none n items events channels z = rw z

  pub unpacked_plain : (n : ℕ) (items events channels items' events' channels' : List ℕ) → p.event + p.channel ≡ 0
      → items' ≡ filled n (λ k. item_in p (field_in p ws k)) items → events' ≡ filled n (λ k. 0) events → channels' ≡ filled n (λ k. 0) channels
      → buffers items' events' channels' ≡ unpacked p n ws (buffers items events channels)
  unpacked_plain n items events channels items' events' channels' z x y t =
      let y' = y ∙ no_tags p.event n (λ k. field_in p ws k / 2 ^ p.channel) events (omega arith) in
      let t' = t ∙ no_tags p.channel n (field_in p ws) channels (omega arith) in
      cc

-- items that are whole words, and pairs of words
module _ {p : Packing} {n room : ℕ} {ws : List ℕ} (u : Unpackable p n ws room) where
  module _ (one : p.item ≡ 32) (narrow : p.field ≤ 32) where
    one_field : p.field ≡ 32
    one_field = omega (arith, u.legal.parts)

    one_carry : p.carry ≡ 32
    one_carry = omega (arith, u.legal.narrow narrow, u.legal.most, one_field)

    pub words_there : n ≤ length ws
    words_there = let t = rw (one_field, one_carry) at u.there in omega arith

    pub plain_words : (small : (j : ℕ) → get_or ws j 0 < 2 ^ 32) (l left : List ℕ) → left ≡ filled n (λ k. get_or ws k 0) l
        → left ≡ filled n (λ k. item_in p (field_in p ws k)) l
    plain_words small l left e =
        e ∙ filled_same n _ _ l
        (λ k q. rw (one_field, one_carry, one) (sym (ap (λ (x : ℕ). x / 2 ^ 0) (field_word ws small k) ∙ div-one (get_or ws k 0))))

  module _ (two : p.item ≡ 64) where
    two_field : p.field ≡ 64
    two_field = omega (arith, u.legal.parts, u.legal.few)

    two_carry : p.carry ≡ 32
    two_carry = u.legal.wide (omega (arith, two_field))

    pub pairs_there : 2 * n ≤ length ws
    pairs_there = let t = rw (two_field, two_carry) at u.there in omega arith

    pub plain_pairs : (small : (j : ℕ) → get_or ws j 0 < 2 ^ 32) (l left : List ℕ)
        → left ≡ filled n (λ k. high_first (get_or ws (2 * k) 0) (get_or ws (2 * k + 1) 0)) l → left ≡ filled n (λ k. item_in p (field_in p ws k)) l
    plain_pairs small l left e =
        e ∙ filled_same n _ _ l
        (λ k q.
        rw (two_field, two_carry, two)
        (sym (ap (λ (x : ℕ). x / 2 ^ 0) (field_words ws small k) ∙ div-one (high_first (get_or ws (2 * k) 0) (get_or ws (2 * k + 1) 0)))))

-- the words that are needed hold the fields, and one word fewer does not
fields_there : (first n m : ℕ) → m ≡ words_for first n → (packing_of first).field * n ≤ m * (packing_of first).carry
unfolding words_for packing_of
fields_there first n m e = rw e (enough (carried_bits first) _ n (carry_some first))

fields_fill : (first n m : ℕ) → m ≡ words_for first n → m * (packing_of first).carry < (packing_of first).field * n + (packing_of first).carry
unfolding words_for packing_of
fields_fill first n m e = rw e (none_over (carried_bits first) _ n (carry_some first))

-- ---- all refusals of unpacking, and what they let through
abbrev pub unpack_check : (first second n given items events channels : ℕ) → Outcome Unit
unpack_check first second n given items events channels = first_given (unpack_list first second n given items events channels) (accepted tt)

pub record UnpackPassed (first second n given room-items room-events room-channels : ℕ) : Type 0 where
  pub format : format_bad first ≡ false
  pub count : count_bad first second n ≡ false
  pub there : given ≡ words_for first n
  pub items : n ≤ room-items
  pub events : n ≤ room-events
  pub channels : n ≤ room-channels

pub unpack_passed : (first second n m i e c : ℕ) → unpack_check first second n m i e c ≡ accepted tt → UnpackPassed first second n m i e c
unpack_passed first second n m i e c h =
    let a = (first_passed (unpack_list first second n m i e c) _ tt h).0 in
    let count = either_passed (count_bad first second n) (not (eqb m (words_for first n))) a.1.0 in
    let items = either_passed (ltb i n) _ a.1.1.0 in
    let tags = either_passed (ltb e n) (ltb c n) items.1 in
    record {
      format = a.0;
      count = count.0;
      there = eqb-true m (words_for first n) (not-false _ count.1);
      items = ltb-false i n items.0;
      events = ltb-false e n tags.0;
      channels = ltb-false c n tags.1;
    }

-- ---- the answers of `fit_check`
module _ (need words n given items events channels : ℕ) (w : words ≡ need) where
  pub other_words : (given ≡ words → ⊥) → refused COUNT ≡ fit_check need n given items events channels
  unfolding fit_check
  other_words d = rw (← w, ne_eqb given words d)

  module _ (a : given ≡ words) where
    pub items_short : items < n → refused ROOM ≡ fit_check need n given items events channels
    unfolding fit_check
    items_short h = rw (← w, eq-eqb given words a, lt-ltb items n h)

    module _ (i : n ≤ items) where
      pub events_short : events < n → refused ROOM ≡ fit_check need n given items events channels
      unfolding fit_check
      events_short h = rw (← w, eq-eqb given words a, le-ltb items n i, lt-ltb events n h)

      module _ (e : n ≤ events) where
        pub channels_short : channels < n → refused ROOM ≡ fit_check need n given items events channels
        unfolding fit_check
        channels_short h = rw (← w, eq-eqb given words a, le-ltb items n i, le-ltb events n e, lt-ltb channels n h)

        pub all_fit : n ≤ channels → accepted tt ≡ fit_check need n given items events channels
        unfolding fit_check
        all_fit h = rw (← w, eq-eqb given words a, le-ltb items n i, le-ltb events n e, le-ltb channels n h)

-- for `fit_check`
pub ruleset lines = (other_words, items_short, events_short, channels_short, all_fit)

-- ---- the answers of `unpack`, by what `items_check` found of the format and n, and `fit_check` of the words and the places
module _ (first second n : ℕ) (ws items events channels : List ℕ) where
  abbrev lent : Buffers
  lent = buffers items events channels

  pub unpack_asked : (r : Refusal) → refused (list_number r) ≡ items_check first second n → Meets on_paper (unpack_of first second n ws lent) lent (Err r) lent
  unfolding unpack_of
  unpack_asked r e = meets_err (rw (items_first first second n, ← e))

  module _ (fine : accepted tt ≡ items_check first second n) (p : Packing) (q : p ≡ packing_of first) where
    packing_legal : Legal p
    packing_legal = rw q (items_legal first second n fine)

    items_small : n ≤ 2097120
    items_small = items_few first second n fine

    -- the words that are needed, by the sizes
    words_here : needed p.carry p.field n ≡ words_for first n
    words_here = words_for_lem first n _ p q refl

    abbrev list : Refusals
    list = fit_list (needed p.carry p.field n) n (length ws) (length items) (length events) (length channels)

    abbrev fit : Outcome Unit
    fit = fit_check (needed p.carry p.field n) n (length ws) (length items) (length events) (length channels)

    -- the lines of the definition that are left
    left : unpack_of first second n ws lent ≡ first_given list (accepted (record { says = n; leaves = unpacked p n ws lent }))
    unfolding unpack_of
    left = rw (items_first first second n, ← fine, words_here, q)

    pub unpack_unfit : (r : Refusal) → refused (list_number r) ≡ fit → Meets on_paper (unpack_of first second n ws lent) lent (Err r) lent
    unfolding fit_check
    unpack_unfit r e = meets_err (left ∙ first_refused list tt (list_number r) _ (sym e))

    module _ (fits : accepted tt ≡ fit) where
      through : UnpackPassed first second n (length ws) (length items) (length events) (length channels)
      unfolding fit_check
      through =
          unpack_passed first second n (length ws) (length items) (length events) (length channels)
          (rw (items_first first second n, ← fine, ← words_here) (sym fits))

      unpackable : Unpackable p n ws (length items)
      unpackable =
          record {
            legal = packing_legal;
            few = items_small;
            there = rw q (fields_there first n (length ws) through.there);
            none_over = rw q (fields_fill first n (length ws) through.there);
            places = through.items;
          }

      pub lent_rightly : Unpackable p n ws (length items) × (n ≤ length events) × (n ≤ length channels)
      lent_rightly = (unpackable, through.events, through.channels)

      pub unpack_accepted : (after : Buffers) → after ≡ unpacked p n ws lent → Meets on_paper (unpack_of first second n ws lent) lent (Ok n) after
      unfolding fit_check
      unpack_accepted after done = meets_ok (left ∙ first_fine list tt tt _ (sym fits)) done
