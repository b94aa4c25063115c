-- Two answers that meet the promise of a public call are equal: `told_paper` has a left inverse (`told_once`).
use Rattle.std.specs.Prelude.{Result}
use Rattle.words.proofs.Kit.{◌≡◌, List, ℕ}
use Rattle.words.specs.declared.RefusedAt.{RefusedAt}
use Rattle.words.specs.Told.{told_paper}
use Rattle.words.proofs.Once.{told_once}
use Rattle.packet.specs.declared.Packet.{Packet}
use Rattle.packet.specs.declared.Survey.{Survey}
use Rattle.packet.specs.Told.{read_told, survey_told}

pub read_once : (ws : List ℕ) {a b : Result Packet RefusedAt} → told_paper a ≡ read_told ws → told_paper b ≡ read_told ws → a ≡ b
read_once ws = told_once

pub read_survey_once : (ws : List ℕ) {a b : Result Survey RefusedAt} → told_paper a ≡ survey_told ws → told_paper b ≡ survey_told ws → a ≡ b
read_survey_once ws = told_once
