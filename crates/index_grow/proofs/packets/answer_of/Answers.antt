-- `answer_of` meets its promise: what play heard is said, and a refusal by whether the recording goes on.
use Rattle.words.proofs.Kit.{rules}
use Rattle.index_grow.proofs.PacketLaws.{heard_answer, unheard_answer}
use Rattle.index_grow.proofs.packets.answer_of.Goals as goal

pub returns-in-Ok : goal.returns-in-Ok
returns-in-Ok c = search heard_answer

pub returns-in-Err : goal.returns-in-Err
returns-in-Err c = search unheard_answer
