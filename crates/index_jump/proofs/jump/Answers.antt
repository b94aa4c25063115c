-- `jump` meets its promise: the contents and the place are tested; then it goes by the packets from the entry on, and by the streams of the entry's page.
use Rattle.words.proofs.Kit.{rules}
use Rattle.index_jump.proofs.JumpLaws.{jump_ill, jump_good, jump_whole, jump_past, jump_few, jump_few_streams}
use Rattle.index_jump.proofs.LandLaws.{space_few, space_most}
use Rattle.index_jump.proofs.jump.Goals as goal

pub returns-then-not-index_good : goal.returns-then-not-index_good
returns-then-not-index_good c = search jump_ill

pub packets_taken-requires : goal.packets_taken-requires
packets_taken-requires c = search jump_whole

pub returns-then-packets_taken-n : goal.returns-then-packets_taken-n
returns-then-packets_taken-n c = search jump_past

pub jump_back-requires : goal.jump_back-requires
jump_back-requires c = (search jump_good, search jump_few, search rules)

pub few_before-requires : goal.few_before-requires
few_before-requires c = search (jump_good, jump_few)

pub jump_apart-requires : goal.jump_apart-requires
jump_apart-requires c =
    (search rules, search jump_good, search jump_few, space_few _ _ (jump_few_streams _ _ _ c.few_before.ensures c.if-few_before.true))

pub jump_apart-requires-2 : goal.jump_apart-requires-2
jump_apart-requires-2 c = search (rules, jump_good, jump_few, space_most)
