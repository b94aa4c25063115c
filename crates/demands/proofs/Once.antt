-- Every promise leaves one outcome, and a refusal leaves the lent words. The first cites the law of each call; the second is one law over `Meets`, whose
-- `left_of` is the words as they were where the answer is a refusal.
use Rattle.words.proofs.Kit.{sym, ◌∙◌, List, [], ◌∷◌}
use Rattle.words.proofs.MeetLaws.{said_refused}
use Rattle.words.proofs.Once.{on_paper_once, on_paper_meets_once}
use Rattle.fields.proofs.Uniqueness.{field_count_once, check_body_once, find_once}
use Rattle.packet_trailer.proofs.Uniqueness.{trailer_parts_once, trailer_word_once}
use Rattle.packet.proofs.Uniqueness.{read_once, read_survey_once}
use Rattle.payload_format.proofs.Uniqueness.{signed_once}
use Rattle.payload_order.proofs.Uniqueness.{coordinates_once}
use Rattle.play.proofs.Uniqueness.{play_once, play_run_once}
use Rattle.index_grow.proofs.Uniqueness.{grow_once}
use Rattle.index_jump.proofs.Uniqueness.{jump_once}
use Rattle.panel.proofs.Uniqueness.{reading_once, readings_once}
use Rattle.panel_streams.proofs.Uniqueness.{identity_once, counts_once}
use Rattle.demands.specs.Calls.{Call, answers, lends, OneOutcome, RefusalLeaves, Each, calls}
use Rattle.vrt49.proofs.CallLaws.{◌and◌}

-- ---- one outcome

pub one_outcome : Each OneOutcome calls
unfolding calls
one_outcome =
    field_count_once
    and check_body_once
    and (λ h. find_once h.0 h.1)
    and (λ ws r s. read_once ws)
    and (λ ws r s. read_survey_once ws)
    and (λ h r s after after'. on_paper_meets_once)
    and (λ h r s after after'. on_paper_meets_once)
    and (λ word r s. trailer_parts_once word)
    and (λ h r s. trailer_word_once h.0 h.1 h.2 h.3)
    and (λ h r s. on_paper_once)
    and (λ h r s after after'. on_paper_meets_once)
    and (λ h r s after after'. on_paper_meets_once)
    and (λ h. coordinates_once h.0 h.1 h.2 h.3)
    and (λ h r s. on_paper_once)
    and (λ h. signed_once h.0 h.1)
    and (λ h r s after after'. on_paper_meets_once)
    and (λ t r s p q. p ∙ sym q)
    and (λ h r s after after'. play_once h.0 h.1)
    and (λ h r s after after'. play_run_once h.0 h.1 h.2 h.3)
    and (λ t r s. on_paper_once)
    and (λ h r s after after'. on_paper_meets_once)
    and (λ h r s after after'. on_paper_meets_once)
    and (λ h r s after after'. on_paper_meets_once)
    and (λ h r s after after'. grow_once h.0 h.1 h.2)
    and (λ h r s after after'. jump_once h.0 h.1 h.2 h.3 h.4)
    and (λ h. reading_once h.0 h.1 h.2)
    and (λ h. readings_once h.0 h.1)
    and (λ h r s after after'. on_paper_meets_once)
    and (λ h. identity_once h.0 h.1)
    and (λ h. counts_once h.0 h.1 h.2)
    and (λ h r s after after'. on_paper_meets_once)
    and (λ h r s. on_paper_once)
    and tt

-- ---- a refusal

pub refusal_leaves : (c : Call) → RefusalLeaves c
refusal_leaves (answers paper want) = tt
refusal_leaves (lends paper want lent) = λ h r after n m e. m.buffer ∙ rw (said_refused (want h) n (sym m.answer ∙ e))

pub each_refusal : (cs : List {1} Call) → Each RefusalLeaves cs
each_refusal [] = tt
each_refusal (c ∷ cs) = (refusal_leaves c, each_refusal cs)
