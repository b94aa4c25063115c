-- What is known where nothing of packing is refused, and the answers of `pack` by whether its checks pass.
use Rattle.words.proofs.Kit.{◌≡◌, refl, sym, ap, true, false, not, List, [], ◌∷◌, ⊎_elim, ℕ, ◌+◌, ◌-◌, ◌*◌, ◌^◌, ◌≤◌, ◌<◌, arith, length, get_or, ltb}
use Rattle.words.proofs.Kit.{Bool, eqb, ltb-false, eqb-true, not-false, eq-eqb, ne_eqb, lt-ltb, le-ltb}
use lib.ListN.{get_or-eq_default}
use lib.Arith.{lt-one}
use Rattle.words.specs.Tests.{either}
use Rattle.std.specs.Prelude.{Ok, Err}
use Rattle.words.specs.declared.refusals.Refusal.{Refusal}
use Rattle.words.specs.Listed.{list_number, on_paper}
use Rattle.words.specs.Outcome.{Outcome, refused, accepted, Meets}
use Rattle.words.specs.Refusals.{first_given}
use Rattle.words.specs.Numbers.{COUNT, VALUE, ROOM}
use Rattle.words.proofs.Cases.{le_or_lt}
use Rattle.words.proofs.RefusalLaws.{first_passed, either_passed, first_refused, first_fine}
use Rattle.words.proofs.MeetLaws.{meets_err, meets_ok}
use Rattle.fields.specs.Format.{event_size, channel_size, item_size}
use Rattle.bitstream.specs.Carried.{needed, word_of}
use Rattle.bitstream.specs.Filled.{filled}
use Rattle.payload_format.specs.declared.inner.Packing.{Packing}
use Rattle.payload_format.specs.Format.{format_bad, packing_of}
use Rattle.payload_format.specs.Count.{count_bad, words_for}
use Rattle.payload_format.specs.inner.Checked.{items_check}
use Rattle.payload_format.specs.Field.{fields_of}
use Rattle.payload_pack.specs.Pack.{packed, fitting, value_bad, pack_list, pack_of}
use Rattle.payload_pack.specs.inner.Packable.{pack_check, Packable, Fitting}
use Rattle.payload_format.proofs.FormatLaws.{legal, count_few, items_first, items_few}
use Rattle.payload_pack.proofs.FitLaws.{fitting_each}

-- a list whose entries have no bits is 0 everywhere
all_zero : (w n : ℕ) (l : List ℕ) → w ≡ 0 → Fitting w n l → (k : ℕ) → get_or l k 0 ≡ 0
all_zero w n l z h k =
    ⊎_elim
    (λ (a : n ≤ k). get_or-eq_default l 0 (omega (arith, h.many)))
    (λ (a : k < n). lt-one (rw z at (h.each k a)))
    (le_or_lt n k)

-- fields without tags hold items alone
pub untagged : (p : Packing) (n : ℕ) (items events channels out : List ℕ) → p.event + p.channel ≡ 0 → Fitting p.event n events
    → Fitting p.channel n channels
    → filled (needed p.carry p.field n) (word_of p.carry p.field (λ k. get_or items k 0 * 2 ^ (p.field - p.item))) out
    ≡ packed p n items events channels out
untagged p n items events channels out z he hc =
    ap (λ (g : ℕ → ℕ). filled (needed p.carry p.field n) (word_of p.carry p.field g) out)
    (λ i k. same k i)
  where
    same : (k : ℕ) → get_or items k 0 * 2 ^ (p.field - p.item) ≡ fields_of p items events channels k
    same k =
        let e : get_or events k 0 ≡ 0 = all_zero p.event n events (omega arith) he k in
        let c : get_or channels k 0 ≡ 0 = all_zero p.channel n channels (omega arith) hc k in
        rw (e, c) (omega arith)

-- ---- the answers of `pack_check`, by what `items_check` says
module _ (first second : ℕ) (items events channels : List ℕ) (room : ℕ) where
  pub asked_refused : (k : ℕ) → refused k ≡ items_check first second (length items) → refused k ≡ pack_check first second items events channels room
  unfolding pack_check
  asked_refused k r = rw (items_first first second (length items), ← r)

  -- the lines of `pack_check` that are left
  pub asked_fine : accepted tt ≡ items_check first second (length items) → pack_check first second items events channels room
      ≡ first_given
      ((COUNT, either (not (eqb (length events) (length items))) (not (eqb (length channels) (length items))))
      ∷ (VALUE, value_bad first items events channels)
      ∷ (ROOM, ltb room (words_for first (length items)))
      ∷ [])
      (accepted tt)
  unfolding pack_check
  asked_fine r = rw (items_first first second (length items), ← r)

module _ (first second : ℕ) (items events channels : List ℕ) (room : ℕ) (fine : accepted tt ≡ items_check first second (length items)) where
  pub events_refused : (length events ≡ length items → ⊥) → refused COUNT ≡ pack_check first second items events channels room
  events_refused d = rw (asked_fine first second items events channels room fine, ne_eqb (length events) (length items) d)

  module _ (a : length events ≡ length items) where
    pub channels_refused : (length channels ≡ length items → ⊥) → refused COUNT ≡ pack_check first second items events channels room
    channels_refused d =
        rw (
          asked_fine first second items events channels room fine,
          eq-eqb (length events) (length items) a,
          ne_eqb (length channels) (length items) d,
        )

    module _ (b : length channels ≡ length items) (bad : Bool) (v : bad ≡ value_bad first items events channels) where
      pub value_refused : bad ≡ true → refused VALUE ≡ pack_check first second items events channels room
      value_refused set =
          rw (
            asked_fine first second items events channels room fine,
            eq-eqb (length events) (length items) a,
            eq-eqb (length channels) (length items) b,
            ← v,
            set,
          )

      module _ (good : bad ≡ false) (need : ℕ) (w : need ≡ words_for first (length items)) where
        pub room_refused : room < need → refused ROOM ≡ pack_check first second items events channels room
        room_refused h =
            rw (
              asked_fine first second items events channels room fine,
              eq-eqb (length events) (length items) a,
              eq-eqb (length channels) (length items) b,
              ← v,
              good,
              ← w,
              lt-ltb room need h,
            )

        pub all_fine : need ≤ room → accepted tt ≡ pack_check first second items events channels room
        all_fine h =
            rw (
              asked_fine first second items events channels room fine,
              eq-eqb (length events) (length items) a,
              eq-eqb (length channels) (length items) b,
              ← v,
              good,
              ← w,
              le-ltb room need h,
            )

-- for `pack_check`
pub ruleset lines = (asked_refused, items_few, events_refused, channels_refused, value_refused, room_refused, all_fine)

-- ---- what `pack_check` lets through
pub record PackPassed (first second : ℕ) (items events channels : List ℕ) (room : ℕ) : Type 0 where
  pub format : format_bad first ≡ false
  pub count : count_bad first second (length items) ≡ false
  pub places : words_for first (length items) ≤ room
  pub items_fit : Fitting (item_size first) (length items) items
  pub events_fit : Fitting (event_size first) (length items) events
  pub channels_fit : Fitting (channel_size first) (length items) channels

fits : (w n : ℕ) (l : List ℕ) → length l ≡ n → fitting w l ≡ true → Fitting w n l
fits w n l e h = record { many = e; each = λ k q. fitting_each w l h k (omega arith) }

module _ (first second : ℕ) (items events channels : List ℕ) (room : ℕ) where
  pub pack_passed : pack_check first second items events channels room ≡ accepted tt → PackPassed first second items events channels room
  unfolding pack_check value_bad
  pack_passed e =
      let n : ℕ = length items in
      let a = (first_passed (pack_list first second items events channels room) _ tt e).0 in
      let many = either_passed (count_bad first second n) _ a.1.0 in
      let alike = either_passed (not (eqb (length events) n)) (not (eqb (length channels) n)) many.1 in
      let small = either_passed (not (fitting (item_size first) items)) _ a.1.1.0 in
      let tags = either_passed (not (fitting (event_size first) events)) (not (fitting (channel_size first) channels)) small.1 in
      record {
        format = a.0;
        count = many.0;
        places = ltb-false room (words_for first n) a.1.1.1.0;
        items_fit = fits (item_size first) n items refl (not-false _ small.0);
        events_fit = fits (event_size first) n events (eqb-true (length events) n (not-false _ alike.0)) (not-false _ tags.0);
        channels_fit = fits (channel_size first) n channels (eqb-true (length channels) n (not-false _ alike.1)) (not-false _ tags.1);
      }

  pub packable : PackPassed first second items events channels room
      → Packable (packing_of first) (length items) room × Fitting (packing_of first).item (length items) items
      × Fitting (packing_of first).event (length items) events × Fitting (packing_of first).channel (length items) channels
  unfolding packing_of words_for
  packable k = (
    record { legal = legal first k.format; few = count_few first second (length items) k.count; room = k.places },
    k.items_fit,
    k.events_fit,
    k.channels_fit,
  )

module _ (first second : ℕ) (items events channels out : List ℕ) where
  abbrev check : Outcome Unit
  check = pack_check first second items events channels (length out)

  -- a refusal, and an answer
  pub pack_refused : (r : Refusal) → refused (list_number r) ≡ check → Meets on_paper (pack_of first second items events channels out) out (Err r) out
  unfolding pack_of pack_check
  pack_refused r e = meets_err (first_refused (pack_list first second items events channels (length out)) tt (list_number r) _ (sym e))

  module _ (fine : accepted tt ≡ check) (p : Packing) (q : p ≡ packing_of first) where
    passed : PackPassed first second items events channels (length out)
    passed = pack_passed first second items events channels (length out) (sym fine)

    pub few_items : length items ≤ 2097120
    few_items = count_few first second (length items) passed.count

    pub ready : Packable p (length items) (length out) × Fitting p.item (length items) items × Fitting p.event (length items) events
        × Fitting p.channel (length items) channels
    ready = rw q (packable first second items events channels (length out) passed)

    pub pack_accepted : (m : ℕ) (after : List ℕ) → m ≡ words_for first (length items) → after ≡ packed p (length items) items events channels out
        → Meets on_paper (pack_of first second items events channels out) out (Ok m) after
    unfolding pack_of pack_check
    pack_accepted m after w l =
        rw w (meets_ok (first_fine (pack_list first second items events channels (length out)) tt tt _ (sym fine)) (rw q at l))
