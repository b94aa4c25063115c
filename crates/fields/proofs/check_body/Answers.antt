-- `check_body` meets its promise: each return is a line of the chain of refusals, its tests being the end of the fields and what the walk found.
use Rattle.words.proofs.Kit.{ℕ, ◌+◌, ◌%◌, ◌≡◌, Bool, true, false, List, drop, length, eq-eqb, ne_eqb}
use Rattle.words.specs.Numbers.{INDICATOR, LAYOUT, FIELD}
use Rattle.words.specs.Outcome.{refused, accepted}
use Rattle.words.specs.SetBits.{bits_of}
use Rattle.fields.specs.Layout.{indicator_of, span_of, obeyed, context_of, low_bits_set, other_length, rule_broken}
use Rattle.fields.proofs.WalkLaws.{walked_words, walked_rules}
use Rattle.fields.proofs.check_body.Goals as goal

module _ (body : List ℕ) (w : ℕ) (i : w ≡ indicator_of body) where
  low_bits : (w % 256 ≡ 0 → ⊥) → refused INDICATOR ≡ context_of body
  unfolding context_of low_bits_set
  low_bits d = rw (← i, ne_eqb (w % 256) 0 d)

  module _ (zero : w % 256 ≡ 0) (end : ℕ) (e : end ≡ 1 + span_of (bits_of 31 w) (drop 1 body)) where
    other_length_lem : (end ≡ length body → ⊥) → refused LAYOUT ≡ context_of body
    unfolding context_of low_bits_set other_length
    other_length_lem d = rw (walked_words w end body i e, ← i, eq-eqb (w % 256) 0 zero, ne_eqb end (length body) d)

    module _ (whole : end ≡ length body) (kept : Bool) (k : kept ≡ obeyed (bits_of 31 w) (drop 1 body)) where
      fine : kept ≡ true → accepted tt ≡ context_of body
      unfolding context_of low_bits_set other_length rule_broken
      fine t =
          rw (walked_words w end body i e, walked_rules w kept body i k, ← i, eq-eqb (w % 256) 0 zero, eq-eqb end (length body) whole, t)

      rule_broken_lem : kept ≡ false → refused FIELD ≡ context_of body
      unfolding context_of low_bits_set other_length rule_broken
      rule_broken_lem f =
          rw (walked_words w end body i e, walked_rules w kept body i k, ← i, eq-eqb (w % 256) 0 zero, eq-eqb end (length body) whole, f)

pub returns-then-indicator-ne0 : goal.returns-then-indicator-ne0
returns-then-indicator-ne0 c = search low_bits

pub returns-then-end_of-body : goal.returns-then-end_of-body
returns-then-end_of-body c = search other_length_lem

pub returns-then-rules_kept : goal.returns-then-rules_kept
returns-then-rules_kept c = search fine

pub returns : goal.returns
returns c = search rule_broken_lem
