-- The words of a packet by their pieces. The idea: each piece has as many words as the header says, so a packet's words are as many as its size; and
-- a body that is copied block by block is at each turn its first words and what was there behind them (`Copying`).
use Rattle.words.proofs.Kit.{◌≡◌, refl, sym, ap, ◌∙◌, Bool, true, false, List, [], ◌∷◌, ◌++◌, ℕ, ◌+◌, ◌-◌, ◌/◌, ◌%◌, ◌^◌, ◌≤◌, ◌<◌, arith, ltb}
use Rattle.words.proofs.Kit.{length, take, drop}
use mathlib.Core.List.{append_assoc}
use native.Mathlib.Nat.{add-zero, zero-add}
use borrow.Author.Tests.{ltb-true}
use lib.ListN.{length-append}
use lib.Seq.{sets, sets-eq, length-take-le, drop-drop, drop_at, take-add, take-length}
use Rattle.words.specs.Tests.{when, both}
use Rattle.words.specs.Part.{part, put}
use Rattle.words.specs.Laid.{Laid}
use Rattle.words.proofs.Cases.{both_left, both_right}
use Rattle.words.proofs.PartLaws.{part_is, put_at}
use Rattle.words.proofs.LaidLaws.{sets_put, then, laid_length}
use Rattle.packet.specs.declared.Parts.{Parts}
use Rattle.packet.specs.Header.{classed, trailed}
use Rattle.packet.specs.Parts.{streamed, has_seconds, has_fraction, class_at, seconds_at, fraction_at, body_at}
use Rattle.packet_write.specs.Write.{header_word, size_for, given, class_first, class_word, leading_words, class_words, time_words, prologue_words}
use Rattle.packet_write.specs.Write.{trailer_words, packet_words, class_fits}
use Rattle.packet_write.specs.inner.Given.{Layable}
use Rattle.packet_write.proofs.FitLaws.{parts_fit_lem}
use Rattle.packet_write.proofs.HeaderLaws.{size_for_is}

-- ---- how many words

pub length_given : (t : Bool) (ws : List ℕ) → length (given t ws) ≡ when t (length ws)
length_given true ws = refl
length_given false ws = refl

module _ (w : ℕ) (p : Parts) where
  pub head_length : length (leading_words w p) ≡ 1 + when (streamed w) 1
  unfolding leading_words
  head_length = simp length_given (omega arith)

  pub time_length : length (time_words w p) ≡ when (has_seconds w) 1 + when (has_fraction w) 2
  unfolding time_words
  time_length = simp (length-append, length_given)

  pub trailer_length : length (trailer_words w p) ≡ when (trailed w) 1
  unfolding trailer_words
  trailer_length = simp length_given

  module _ (pad : ℕ) where
    pub class_length : length (class_words pad w p) ≡ when (classed w) 2
    unfolding class_words
    class_length = simp length_given

    pub prologue_length : length (prologue_words pad w p) ≡ body_at w
    unfolding prologue_words body_at fraction_at seconds_at class_at
    prologue_length = simp length-append (omega (arith, head_length, class_length, time_length))

-- ---- a class that is there and fits

module _ (t : Bool) (there : t ≡ true) (oui information code : ℕ) (fits : class_fits t oui information code ≡ true) where
  pub oui_fits : oui < 2 ^ 24
  unfolding class_fits
  oui_fits = ltb-true oui (2 ^ 24) (both_left (ltb oui (2 ^ 24)) _ (rw there at fits))

  codes_fit_lem : both (ltb information (2 ^ 16)) (ltb code (2 ^ 16)) ≡ true
  unfolding class_fits
  codes_fit_lem = both_right (ltb oui (2 ^ 24)) _ (rw there at fits)

  pub information_fits : information < 2 ^ 16
  information_fits = ltb-true information (2 ^ 16) (both_left (ltb information (2 ^ 16)) _ codes_fit_lem)

  pub code_fits : code < 2 ^ 16
  code_fits = ltb-true code (2 ^ 16) (both_right (ltb information (2 ^ 16)) _ codes_fit_lem)

-- ---- the pieces of the prologue, each where the one before it ended; `has` is the answer to whether a part is there

module _ (w : ℕ) (p : Parts) where
  pub head_first : (n : ℕ) → length (leading_words w p) ≤ n → 1 ≤ n
  head_first n h = omega (arith, head_length w p)

  module _ (has : Bool) (e : has ≡ streamed w) (out mid : List ℕ) (a : ℕ) (l : Laid out 0 (w ∷ []) a mid) where
    pub head_second : length (leading_words w p) ≤ length out → a + when has 1 ≤ length mid
    head_second h = rw e (omega (arith, head_length w p, l.past, laid_length l))

    pub head_laid : (left : List ℕ) (b : ℕ) → Laid mid a (given has (p.identifier ∷ [])) b left → Laid out 0 (leading_words w p) b left
    unfolding leading_words
    head_laid left b m = then l (rw e at m)

  module _ (has : Bool) (e : has ≡ classed w) (pad : ℕ) where
    pub class_there : has ≡ true → classed w ≡ true
    class_there on = rw (← e) on

    pub class_pad : has ≡ true → (classed w ≡ true → pad < 32) → pad < 32
    class_pad on small = small (class_there on)

    pub class_room : has ≡ true → (at n : ℕ) → at + length (class_words pad w p) ≤ n → at + 2 ≤ n
    class_room on at n h = omega (arith, rw (class_there on) at (class_length w p pad))

    pub class_laid : has ≡ true → (out left : List ℕ) (first second at a : ℕ) → first ≡ class_first pad p.oui → second ≡ class_word p.information p.code
        → Laid out at (first ∷ second ∷ []) a left → Laid out at (class_words pad w p) a left
    unfolding class_words
    class_laid on out left first second at a f s l = rw (class_there on, ← f, ← s) l

    pub class_absent : has ≡ false → (out : List ℕ) (at : ℕ) → Laid out at (class_words pad w p) at out
    unfolding class_words
    class_absent off out at = rw (← e, off) (record { past = sym (add-zero at); kept = refl })

  module _ (has : Bool) (e : has ≡ has_seconds w) where
    pub seconds_room : (at n : ℕ) → at + length (time_words w p) ≤ n → at + when has 1 ≤ n
    seconds_room at n h = rw e (omega (arith, time_length w p))

    module _ (more : Bool) (f : more ≡ has_fraction w) (out mid : List ℕ) (at a : ℕ) (l : Laid out at (given has (p.seconds ∷ [])) a mid) where
      pub fraction_room : at + length (time_words w p) ≤ length out → a + when more 2 ≤ length mid
      fraction_room h = rw f (omega (arith, time_length w p, rw (e, length_given (has_seconds w) (p.seconds ∷ [])) at l.past, laid_length l))

      pub time_laid : (left : List ℕ) (high low b : ℕ) → high ≡ p.fraction / 2 ^ 32 → low ≡ p.fraction % 2 ^ 32
          → Laid mid a (given more (high ∷ low ∷ [])) b left → Laid out at (time_words w p) b left
      unfolding time_words
      time_laid left high low b g h m = then (rw e at l) (rw (f, g, h) at m)

  module _ (pad : ℕ) where
    pieces : length (prologue_words pad w p) ≡ length (leading_words w p) + (length (class_words pad w p) + length (time_words w p))
    unfolding prologue_words
    pieces = simp length-append (omega arith)

    pub prologue_first : (n : ℕ) → length (prologue_words pad w p) ≤ n → length (leading_words w p) ≤ n
    prologue_first n h = omega (arith, pieces)

    module _ (out first : List ℕ) (a : ℕ) (l : Laid out 0 (leading_words w p) a first) where
      pub prologue_second : length (prologue_words pad w p) ≤ length out → a + length (class_words pad w p) ≤ length first
      prologue_second h = omega (arith, pieces, l.past, laid_length l)

      module _ (second : List ℕ) (b : ℕ) (m : Laid first a (class_words pad w p) b second) where
        pub prologue_third : length (prologue_words pad w p) ≤ length out → b + length (time_words w p) ≤ length second
        prologue_third h = omega (arith, pieces, l.past, m.past, laid_length l, laid_length m)

        pub prologue_laid : (left : List ℕ) (k : ℕ) → Laid second b (time_words w p) k left → Laid out 0 (prologue_words pad w p) k left
        unfolding prologue_words
        prologue_laid left k n = then (then l m) n

  module _ (has : Bool) (e : trailed w ≡ has) where
    pub trailer_room : (n : ℕ) → length (trailer_words w p) ≤ n → 0 + when has 1 ≤ n
    trailer_room n h = rw (← e) (omega (arith, trailer_length w p))

    pub trailer_laid : (out left : List ℕ) (a : ℕ) → Laid out 0 (given has (p.trailer ∷ [])) a left → Laid out 0 (trailer_words w p) a left
    unfolding trailer_words
    trailer_laid out left a l = rw e l

-- ---- the body, copied to the front of a buffer in blocks of 2,048 words

-- its first a words are copied, and k more
copied_more : (body out : List ℕ) (a k : ℕ) → a + k ≤ length body → put a k (part a k body) (take a body ++ drop a out) ≡ take (a + k) body ++ drop (a + k) out
copied_more body out a k h =
    put_at a k (take a body) (drop a out) (part a k body) (length-take-le a body (omega arith))
    ∙ rw (part_is a k body, drop-drop k a out, take-add a k body, append_assoc)

-- the words up to a place are copied, and whole blocks are left
pub record Copying (body out : List ℕ) (at : ℕ) (now : List ℕ) : Type 0 where
  pub within : at ≤ length body
  pub whole : (length body - at) % 2048 ≡ 0
  pub long : length now ≡ length out
  pub copied : now ≡ take at body ++ drop at out

-- what whole blocks leave is copied first
module _ (body out mid : List ℕ) (l : mid ≡ put 0 (length body % 2048) (part 0 (length body % 2048) body) out) where
  abbrev first : ℕ
  first = length body % 2048

  front : mid ≡ take (length body % 2048) body ++ drop (length body % 2048) out
  front = l ∙ copied_more body out 0 first (omega arith) ∙ rw (zero-add first)

  past_front : drop (length body % 2048) mid ≡ drop (length body % 2048) out
  past_front = ap (drop first) front ∙ drop_at (take first body) (drop first out) first (length-take-le first body (omega arith))

  past_body : drop (length body) mid ≡ drop (length body) out
  past_body =
      let k : ℕ = length body - first in
      let e : length body ≡ first + k = omega arith in
      ap (λ (n : ℕ). drop n mid) e ∙ sym (drop-drop k first mid) ∙ ap (drop k) past_front ∙ drop-drop k first out ∙ ap (λ (n : ℕ). drop n out) (sym e)

  pub copying_start : Copying body mid (length body % 2048) mid
  copying_start = record {
    within = omega arith;
    whole = omega arith;
    long = refl;
    copied = front ∙ ap (λ (x : List ℕ). take first body ++ x) (sym past_front);
  }

  pub copying_end : {at : ℕ} {now : List ℕ} → Copying body mid at now → length body ≤ at → length body ≤ length out → Laid out 0 body (length body) now
  unfolding put
  copying_end {at} {now} p h g =
      let all : at ≡ length body = omega (arith, p.within) in
      record {
        past = omega arith;
        kept = p.copied ∙ rw (all, take-length body, past_body) (sym (sets_put out body 0 (omega arith)));
      }

module _ {body out now : List ℕ} {at : ℕ} (p : Copying body out at now) (h : at < length body) where
  pub block_inside : at + 2048 ≤ length body
  block_inside = omega (arith, p.within, p.whole)

  pub copying_turn : (left : List ℕ) → length left ≡ length now → left ≡ put at 2048 (part at 2048 body) now → Copying body out (at + 2048) left
  copying_turn left k l = record {
    within = block_inside;
    whole = omega (arith, p.whole, block_inside);
    long = k ∙ p.long;
    copied = l ∙ rw p.copied (copied_more body out at 2048 block_inside);
  }

-- ---- a packet that may be laid
module _ (pad : ℕ) (p : Parts) (body : List ℕ) (room at : ℕ) (may : Layable pad p body room at) where
  abbrev size : ℕ
  size = size_for p (length body)

  abbrev W : ℕ
  W = header_word p size

  pub packet_length : length (packet_words pad p body) ≡ size_for p (length body)
  unfolding packet_words
  packet_length =
      simp length-append
      (omega (arith, prologue_length W p pad, trailer_length W p, size_for_is p size may.kind (parts_fit_lem p may.fit) may.small (length body)))

-- what the three writers in turn leave is the buffer with the packet at its place
pub laid_packet : (pad : ℕ) (p : Parts) (body out after : List ℕ) (at w next : ℕ) → Layable pad p body (length out) at
    → w ≡ header_word p (size_for p (length body)) → Laid out at (prologue_words pad w p ++ body ++ trailer_words w p) next after
    → after ≡ take at out ++ packet_words pad p body ++ drop (at + size_for p (length body)) out
unfolding packet_words
laid_packet pad p body out after at w next may e l =
    let long : length (packet_words pad p body) ≡ size_for p (length body) = packet_length pad p body (length out) at may in
    let laid : after ≡ sets out at (packet_words pad p body) = rw (← e) l.kept in
    laid ∙ sets-eq (packet_words pad p body) out at (omega (arith, may.inside))
    ∙ ap (λ (n : ℕ). take at out ++ packet_words pad p body ++ drop (at + n) out) long
