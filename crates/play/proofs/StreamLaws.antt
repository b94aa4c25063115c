-- A packet and its stream. The idea: a packet whose header and size are right is of type 5 at most, and its words are there (`sized_kind`, `sized_parts`); the
-- types that have an identifier are all but 0 and 2, so looking for it where there is one is looking by the type (`sought_in_lem`). Its choice is that of the
-- stream that was found (`alike_found`, `alike_none`): of type 1 it is the same test, and of other types reading does not ask.
use Rattle.words.proofs.Kit.{◌≡◌, refl, sym, ap, subst, ◌∙◌, Bool, true, false, not, ⊎_elim, List, [], ◌∷◌, ℕ, ◌+◌, ◌^◌, ◌≤◌, ◌<◌, arith, ne_eqb}
use Rattle.words.proofs.Kit.{ltb-false, le-leb, lt-leb, eqb, leb, length, get_or}
use borrow.Author.Tests.{leb-false}
use Rattle.words.specs.Numbers.{STREAM}
use Rattle.words.specs.Tests.{pick, among, either}
use Rattle.words.specs.All.{all}
use Rattle.words.specs.Outcome.{Outcome, refused, accepted}
use Rattle.words.proofs.Cases.{le_or_lt, same_or_not, accepted_same, true_is_false}
use Rattle.words.proofs.RefusalLaws.{Numbered, first_passed, either_passed, number_among}
use Rattle.words.proofs.AllLaws.{all_at}
use Rattle.packet.specs.Header.{type_of, size_of}
use Rattle.packet.specs.Parts.{streamed, word_if, required_of, parts_of, packet_of}
use Rattle.packet.specs.Read.{sized_list}
use Rattle.packet.specs.inner.Steps.{sized_checks, rest_checks}
use Rattle.packet.proofs.ReadLaws.{sized, read_accepts}
use Rattle.packet.proofs.FrontLaws.{sized_fits, rest_other}
use Rattle.table.specs.Layout.{streams_of, base}
use Rattle.table.specs.Identifiers.{declared, stream_of, surveyed}
use Rattle.table.specs.Well.{well_made}
use Rattle.table.proofs.RecordLaws.{record_choice}
use Rattle.table.proofs.ListLaws.{none_more, stream_found, stream_none}
use Rattle.table.proofs.WellLaws.{well_whole, well_few, well_of}
use Rattle.table.proofs.StreamLaws.{surveyed_at, surveyed_other}
use Rattle.play.specs.Play.{stream_list, chosen}
use Rattle.play.specs.inner.Steps.{sought_of}
use Rattle.play.specs.inner.Entered.{declared_of, Sized, Headed, sought_in, chosen_at}

-- ---- the stream of an identifier

-- streams 0 to s - 1 have another identifier
pub record Seeking (t : List ℕ) (identifier s : ℕ) : Type 0 where
  pub others : (i : ℕ) → i < s → eqb (declared t i) identifier ≡ false

-- a table that is well made has a word, the number of its streams
module _ (t : List ℕ) (w : well_made t ≡ true) where
  pub table_there : 0 < length t
  table_there = omega (arith, well_whole t w)

  pub table_few : get_or t 0 0 < 2 ^ 64
  table_few = omega (arith, well_few t w)

pub seeking_start : (t : List ℕ) (identifier : ℕ) → Seeking t identifier 0
seeking_start t identifier = record { others = λ i h. absurd (omega arith) }

pub seeking_small : (t : List ℕ) (s : ℕ) → well_made t ≡ true → s < get_or t 0 0 → s < 2 ^ 32
seeking_small t s w b = omega (arith, well_few t w)

module _ (t : List ℕ) (identifier s at : ℕ) (p : Seeking t identifier s) (b : s < get_or t 0 0) (e : at ≡ base s) where
  pub seeking_inside : well_made t ≡ true → at < length t
  seeking_inside w = omega (arith, well_whole t w)

  pub seeking_found : get_or t at 0 ≡ identifier → accepted s ≡ declared_of identifier t
  seeking_found i =
      let f : s ≡ stream_of identifier t = stream_found t identifier s (get_or t 0 0) refl p.others b (rw e at i) in
      let g : stream_of identifier t < streams_of t = omega arith in
      rw (lt-leb (streams_of t) (stream_of identifier t) g, f)

  pub seeking_turn : (get_or t at 0 ≡ identifier → ⊥) → Seeking t identifier (s + 1)
  seeking_turn o = record { others = none_more t identifier s p.others (ne_eqb (declared t s) identifier (rw e at o)) }

pub seeking_none : (t : List ℕ) (identifier s : ℕ) → Seeking t identifier s → s ≡ get_or t 0 0 → refused STREAM ≡ declared_of identifier t
seeking_none t identifier s p m =
    let f : streams_of t ≡ stream_of identifier t = stream_none t identifier s (streams_of t) refl p.others m in
    let g : streams_of t ≤ stream_of identifier t = omega arith in
    rw (le-leb (streams_of t) (stream_of identifier t) g)

-- ---- the stream by the type

abbrev streamed_kinds : List ℕ
streamed_kinds = 1 ∷ 3 ∷ 4 ∷ 5 ∷ []

abbrev other_kinds : List ℕ
other_kinds = 0 ∷ 2 ∷ []

opposed : ℕ → Bool
opposed k = pick (among k streamed_kinds) (not (among k other_kinds)) (among k other_kinds)

-- the types that have an identifier are all but 0 and 2
sought_streamed : (kind identifier : ℕ) (t : List ℕ) → kind < 6
    → pick (among kind streamed_kinds) (declared_of identifier t) (refused STREAM) ≡ sought_of kind identifier t
unfolding opposed all sought_of
sought_streamed kind identifier t h =
    swapped (among kind streamed_kinds) (among kind other_kinds) (leb (streams_of t) (stream_of identifier t)) (refused STREAM) _ (all_at opposed 6 kind h refl)
  where
    swapped : (a b c : Bool) (x y : Outcome ℕ) → pick a (not b) b ≡ true → pick a (pick c x y) x ≡ pick (either b c) x y
    swapped true true c x y e = absurd (true_is_false (sym e))
    swapped true false c x y e = refl
    swapped false true c x y e = refl
    swapped false false c x y e = absurd (true_is_false (sym e))

-- STREAM alone is given where none is found
pub sought_number : (kind identifier : ℕ) (t : List ℕ) (n : ℕ) → sought_of kind identifier t ≡ refused n → n ≡ STREAM
unfolding sought_of
sought_number kind identifier t n e =
    subst (Numbered (λ k. k ≡ STREAM)) e (number_among (λ k. k ≡ STREAM) (stream_list kind identifier t) (accepted (stream_of identifier t)) (refl, tt) tt)

-- a stream that is found is one of the table's
pub sought_below : (kind identifier : ℕ) (t : List ℕ) (s : ℕ) → sought_of kind identifier t ≡ accepted s → s < streams_of t
unfolding sought_of
sought_below kind identifier t s f =
    let a = first_passed (stream_list kind identifier t) _ s f in
    let b = either_passed (among kind other_kinds) (leb (streams_of t) (stream_of identifier t)) a.0.0 in
    rw (accepted_same a.1) at (leb-false (streams_of t) (stream_of identifier t) b.1)

data_like : ℕ → Bool
data_like k = pick (eqb k 4) true (pick (among k other_kinds) true (among k (1 ∷ 3 ∷ 5 ∷ [])))

-- a type other than 4 of which a stream is found
sought_data : (kind identifier : ℕ) (t : List ℕ) (s : ℕ) → kind < 6 → (kind ≡ 4 → ⊥) → sought_of kind identifier t ≡ accepted s
    → among kind (1 ∷ 3 ∷ 5 ∷ []) ≡ true
unfolding data_like all sought_of
sought_data kind identifier t s h n e =
    let a = (first_passed (stream_list kind identifier t) _ s e).0.0 in
    rw (ne_eqb kind 4 n, (either_passed (among kind other_kinds) (leb (streams_of t) (stream_of identifier t)) a).0) at (all_at data_like 6 kind h refl)

-- ---- a packet whose header w and size are right

module _ (w : ℕ) (ws : List ℕ) (p : Sized w ws) where
  -- its words are there
  pub sized_parts : required_of w ≤ size_of w
  sized_parts = rw p.header (sized_fits ws p.passes).0

  pub sized_whole : size_of w ≤ length ws
  sized_whole = rw p.header (sized_fits ws p.passes).1

  sized_kind : type_of w < 6
  unfolding sized_checks
  sized_kind =
      let k = ltb-false 5 (type_of (get_or ws 0 0)) (first_passed (sized_list (get_or ws 0 0) ws) _ tt p.passes).0.1.0 in
      rw p.header (omega arith)

  module _ (t : List ℕ) where
    -- its stream, as a program looks for it
    pub sought_in_lem : (flag : Bool) (identifier : ℕ) (o : Outcome ℕ) → flag ≡ streamed w → identifier ≡ word_if (streamed w) 1 ws
        → o ≡ pick flag (declared_of identifier t) (refused STREAM) → o ≡ sought_in w ws t
    unfolding streamed packet_of parts_of
    sought_in_lem flag identifier o f i e = e ∙ rw (f, i) (sought_streamed (type_of w) (word_if (streamed w) 1 ws) t sized_kind)

    -- of a stream that is known to be the packet's
    module _ (s : ℕ) (f : sought_in w ws t ≡ accepted s) where
      pub known_below : s < streams_of t
      known_below = sought_below (packet_of w ws).parts.kind (packet_of w ws).parts.identifier t s f

      pub known_few : well_made t ≡ true → s < 32
      known_few v = omega (arith, known_below, well_few t v)

      pub known_data : (type_of w ≡ 4 → ⊥) → among (type_of w) (1 ∷ 3 ∷ 5 ∷ []) ≡ true
      unfolding packet_of parts_of
      known_data n = sought_data (type_of w) (packet_of w ws).parts.identifier t s sized_kind n f

-- ---- the choice that a packet is read by

-- of type 1 it is that of the stream that was found, and plain where none was
choice_found : (identifier : ℕ) (t : List ℕ) (s : ℕ) → sought_of 1 identifier t ≡ accepted s → chosen_at s t ≡ surveyed identifier t
unfolding sought_of
choice_found identifier t s e =
    let a = first_passed (stream_list 1 identifier t) _ s e in
    let below = leb-false (streams_of t) (stream_of identifier t) a.0.0 in
    rw (← accepted_same a.1) (sym (surveyed_at identifier t (stream_of identifier t) refl below))

choice_none : (identifier : ℕ) (t : List ℕ) (n : ℕ) → sought_of 1 identifier t ≡ refused n → false ≡ surveyed identifier t
unfolding sought_of
choice_none identifier t n e =
    ⊎_elim (λ (h : streams_of t ≤ stream_of identifier t). sym (surveyed_other identifier t h))
    (λ (h : stream_of identifier t < streams_of t). absurd (unlike (rw (lt-leb (streams_of t) (stream_of identifier t) h) at e)))
    (le_or_lt (streams_of t) (stream_of identifier t))
  where
    unlike : {m k : ℕ} → accepted m ≡ refused k → ⊥
    unlike e = let z : ◌≡◌ {A = ℕ} 0 1 = cc in omega arith

-- so a packet is read alike by that and by the list's choice: types other than 1 are plain by either
read_alike : (survey : Bool) (w : ℕ) (ws t : List ℕ) → w ≡ get_or ws 0 0 → (type_of w ≡ 1 → survey ≡ chosen t ws)
    → rest_checks survey w ws ≡ rest_checks (chosen t ws) w ws
read_alike survey w ws t h same =
    ⊎_elim (λ one. ap (λ (b : Bool). rest_checks b w ws) (same one))
    (λ other. rest_other w ws survey other ∙ sym (rest_other w ws (chosen t ws) other))
    (same_or_not (type_of w) 1)

module _ (w : ℕ) (ws t : List ℕ) (h : w ≡ get_or ws 0 0) where
  pub alike_found : (s : ℕ) → sought_in w ws t ≡ accepted s → rest_checks (chosen_at s t) w ws ≡ rest_checks (chosen t ws) w ws
  unfolding packet_of parts_of
  alike_found s e = read_alike (chosen_at s t) w ws t h (λ one. choice_found _ t s (rw one at e) ∙ rw (← h))

  pub alike_none : (n : ℕ) → sought_in w ws t ≡ refused n → rest_checks false w ws ≡ rest_checks (chosen t ws) w ws
  unfolding packet_of parts_of
  alike_none n e = read_alike false w ws t h (λ one. choice_none _ t n (rw one at e) ∙ rw (← h))

-- where a program finds the choice of stream s, whose record begins at a place
module _ (t : List ℕ) (s at : ℕ) (w : well_made t ≡ true) (below : s < streams_of t) where
  pub chosen_small : s < 2 ^ 32
  chosen_small = omega (arith, below, well_few t w)

  module _ (e : at ≡ base s) where
    pub chosen_inside : at + 14 < length t
    chosen_inside = omega (arith, below, well_whole t w)

    pub chosen_read : eqb (get_or t (at + 14) 0) 1 ≡ chosen_at s t
    chosen_read = rw e (ap (λ (n : ℕ). eqb n 1) (sym (record_choice s t)))

-- ---- an accepted packet

module _ (w : ℕ) (ws t : List ℕ) (p : Headed w ws t) where
  -- its words are there
  pub headed_parts : required_of w ≤ size_of w
  headed_parts = (sized w (length ws) (rw p.header (read_accepts (chosen t ws) ws (packet_of w ws) p.reads).passes.size)).0
