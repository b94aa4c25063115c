-- `survey_of` meets its promise: each number is what its function answers, since the packet is not PAD.
use Rattle.words.proofs.Kit.{◌≡◌, true, false, List, [], ◌∷◌, ℕ, rules}
use Rattle.words.specs.Numbers.{PAD}
use Rattle.words.specs.Outcome.{accepted}
use Rattle.words.proofs.RefusalLaws.{first_passed}
use Rattle.packet_survey.specs.Class.{pad_of, low_known, class_known}
use Rattle.packet_survey.specs.Payload.{payload_whole, pad_bad, items_in, format_first, format_second}
use Rattle.packet_survey.proofs.ClassLaws.{class_low_lem}
use Rattle.packet_survey.proofs.PayloadLaws.{pad_known, pad_whole}
use Rattle.packet.specs.declared.Parts.{Parts}
use Rattle.packet.specs.Header.{type_of, classed, trailed, size_of}
use Rattle.packet.specs.Parts.{body_at, body_length, class_high, class_low, parts_of, packet_of}
use Rattle.packet.specs.Survey.{survey_of}
use Rattle.packet.specs.inner.Steps.{payload_checks}
use Rattle.packet.proofs.surveys.survey_of.Goals as goal

module _ (w high low : ℕ) (e : payload_checks w high low ≡ accepted tt) where
  not_pad : pad_bad (classed w) (trailed w) high low (body_length w) ≡ false
  unfolding payload_checks
  not_pad = (first_passed ((PAD, pad_bad (classed w) (trailed w) high low (body_length w)) ∷ []) _ tt e).0.0

  class_fits : class_known high low ≡ true
  class_fits = pad_known _ _ _ _ _ not_pad

  low_fits : low_known low ≡ true
  low_fits = class_low_lem high low class_fits

  payload_fits : (l : ℕ) → l ≡ body_length w → payload_whole high low l ≡ true
  payload_fits l f = rw f (pad_whole _ _ _ _ _ not_pad)

module _ (w : ℕ) (ws : List ℕ) (parts : Parts) (size place l : ℕ) (c : parts ≡ parts_of w ws) (z : size ≡ size_of w) (a : place ≡ body_at w)
    (f : l ≡ body_length w) where
  packet_made : record { parts = parts; size = size; place = place; length = l } ≡ packet_of w ws
  unfolding packet_of
  packet_made = rw (c, z, a, f)

  survey_made : type_of w ≡ 1 → (high low : ℕ) → high ≡ class_high w ws → low ≡ class_low w ws → (pad first second items : ℕ) → pad ≡ pad_of high
      → first ≡ format_first low → second ≡ format_second low → items ≡ items_in high low l
      → record { packet = record { parts = parts; size = size; place = place; length = l }; pad = pad; first = first; second = second; items = items }
      ≡ survey_of w ws
  unfolding survey_of
  survey_made one high low h g pad first second items p b s n = rw (one, packet_made, p, b, s, n, h, g, f)

pub format_first-requires : goal.format_first-requires
format_first-requires c = search low_fits

pub items_in-requires : goal.items_in-requires
items_in-requires c = search (class_fits, payload_fits, rules)

pub returns : goal.returns
returns c = search survey_made
