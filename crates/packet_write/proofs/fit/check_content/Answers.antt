-- `check_content` meets its promise: each return is a line of the chain. A packet that is SHORT has no body, and is not SIZE.
use Rattle.words.proofs.Kit.{◌≡◌, refl, Bool, true, false, List, ℕ, ◌+◌, ◌≤◌, ◌<◌, arith, eq-eqb, ne_eqb, lt-ltb, le-ltb, eqb, ltb, length, rules}
use Rattle.words.specs.Numbers.{SHORT, SIZE, TIME}
use Rattle.words.specs.Tests.{pick, both}
use Rattle.words.specs.Outcome.{Outcome, refused, accepted}
use Rattle.words.proofs.Cases.{both_no}
use Rattle.fields.specs.Layout.{context_of}
use Rattle.packet.specs.Header.{type_of}
use Rattle.packet.specs.Parts.{required_of}
use Rattle.packet.specs.Read.{time_over}
use Rattle.packet.specs.declared.Parts.{Parts}
use Rattle.packet_write.specs.Write.{header_word, size_for}
use Rattle.packet_write.specs.AsWords.{parts_in}
use Rattle.packet_write.specs.inner.Steps.{content_checks}
use Rattle.packet_write.proofs.HeaderLaws.{short_is}
use Rattle.packet_write.proofs.fit.check_content.Goals as goal

short_first : (short : Bool) → refused (pick short SHORT TIME) ≡ pick {A = Outcome Unit} short (refused SHORT) (refused TIME)
short_first true = refl
short_first false = refl

module _ (p : Parts) (body : List ℕ) (size : ℕ) (s : size ≡ size_for p (length body)) (h₀ : type_of (header_word p 0) ≡ p.kind) where
  -- SHORT: a type 4 packet without a word in its body
  short : ltb (size_for p (length body)) (required_of (header_word p 0)) ≡ both (eqb p.kind 4) (eqb (length body) 0)
  short = short_is p (length body) h₀

  too_long : size ≤ length body + 8 → 65535 < size → refused SIZE ≡ content_checks p body
  unfolding content_checks
  too_long h g = rw (short, ne_eqb (length body) 0 (λ e. omega arith), both_no (eqb p.kind 4), ← s, lt-ltb 65535 size g)

  module _ (small : size ≤ 65535) (over : Bool) (t : over ≡ time_over p.tsf p.fraction) where
    time_late : over ≡ true → (n : ℕ) → n ≡ pick (both (eqb p.kind 4) (eqb (length body) 0)) SHORT TIME → refused n ≡ content_checks p body
    unfolding content_checks
    time_late e n r = rw (short, ← s, le-ltb 65535 size small, ← t, e) (rw r (short_first (both (eqb p.kind 4) (eqb (length body) 0))))

    module _ (fine : over ≡ false) where
      other_type : (p.kind ≡ 4 → ⊥) → accepted tt ≡ content_checks p body
      unfolding content_checks
      other_type d = rw (short, ne_eqb p.kind 4 d, ← s, le-ltb 65535 size small, ← t, fine)

      no_words : p.kind ≡ 4 → length body ≡ 0 → refused SHORT ≡ content_checks p body
      unfolding content_checks
      no_words k e = rw (short, k, e)

      context : p.kind ≡ 4 → (length body ≡ 0 → ⊥) → (o : Outcome Unit) → o ≡ context_of body → o ≡ content_checks p body
      unfolding content_checks context_of
      context k d o e = rw (short, eq-eqb p.kind 4 k, ne_eqb (length body) 0 d, ← s, le-ltb 65535 size small, ← t, fine) e

pub returns-then-size-gt65535 : goal.returns-then-size-gt65535
unfolding parts_in
returns-then-size-gt65535 c = search too_long

pub time_over-requires : goal.time_over-requires
unfolding parts_in
time_over-requires c = search rules

pub bounds-q-0 : goal.bounds-q-0
unfolding parts_in
bounds-q-0 c = search rules

pub short_or_time-requires : goal.short_or_time-requires
unfolding parts_in
short_or_time-requires c = search rules

pub returns-then-time_over : goal.returns-then-time_over
unfolding parts_in
returns-then-time_over c = search time_late

pub bounds-q-0-2 : goal.bounds-q-0-2
unfolding parts_in
bounds-q-0-2 c = search rules

pub returns-then-q-ne4 : goal.returns-then-q-ne4
unfolding parts_in
returns-then-q-ne4 c = search other_type

pub returns-then-body-eq0 : goal.returns-then-body-eq0
unfolding parts_in
returns-then-body-eq0 c = search no_words

pub check_body-requires : goal.check_body-requires
unfolding parts_in
check_body-requires c = search rules

pub returns : goal.returns
unfolding parts_in
returns c = search context
