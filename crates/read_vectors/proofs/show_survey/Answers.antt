-- The body of an accepted packet lies inside the words that were read.
use Rattle.words.proofs.Kit.{◌≡◌, sym, arith, true}
use Rattle.words.specs.Outcome.{accepted}
use Rattle.packet.specs.Read.{read_by}
use Rattle.packet.specs.Survey.{read_survey_of}
use Rattle.packet.proofs.FrontLaws.{survey_read}
use Rattle.packet.proofs.ReadLaws.{body_inside, read_inside}
use Rattle.packet.proofs.ToldLaws.{told_given}
use Rattle.read_vectors.proofs.show_survey.Goals as goal

pub show_context-requires : goal.show_context-requires
show_context-requires g c =
    let ws = c.args.ws.now in
    let s = c.in-Ok.s in
    let f : read_survey_of ws ≡ accepted s = told_given ws s (sym c.in-Ok.ensures) in
    let e : read_by true ws ≡ accepted s.packet = rw (survey_read ws, f) in
    omega (arith, body_inside true ws s.packet e, read_inside true ws s.packet e)
