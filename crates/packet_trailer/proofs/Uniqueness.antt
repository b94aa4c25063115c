-- Two answers that meet the promise of a public call are equal: `on_paper` has a left inverse (`on_paper_once`).
use Rattle.std.specs.Prelude.{Result}
use Rattle.words.proofs.Kit.{◌≡◌, sym, ◌∙◌, ℕ}
use Rattle.words.specs.declared.refusals.Refusal.{Refusal}
use Rattle.words.specs.Listed.{on_paper}
use Rattle.words.proofs.Once.{on_paper_once}
use Rattle.packet_trailer.specs.declared.Trailer.{Trailer}
use Rattle.packet_trailer.specs.Trailer.{trailer_of, trailer_word_of}

pub trailer_parts_once : (word : ℕ) {a b : Trailer} → a ≡ trailer_of word → b ≡ trailer_of word → a ≡ b
trailer_parts_once word p q = p ∙ sym q

pub trailer_word_once : (enables indicators e associated : ℕ) {a b : Result ℕ Refusal} → on_paper a ≡ trailer_word_of enables indicators e associated
    → on_paper b ≡ trailer_word_of enables indicators e associated → a ≡ b
trailer_word_once enables indicators e associated = on_paper_once
