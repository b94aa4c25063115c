-- `lay` meets its promise: parts that passed the checks fit and have room, and what is laid is the packet.
use Rattle.words.proofs.Kit.{◌+◌, ◌^◌, ◌<◌, arith, rules}
use Rattle.packet_write.proofs.GivenLaws.{sum_small, headed, pad_given, packet_room, packet_laid}
use Rattle.packet_write.proofs.laying.lay.Goals.{Start}
use Rattle.packet_write.proofs.laying.lay.Goals as goal

-- the header word with the size in it is a word
word_small : (c : Start) → c.args.w + c.args.size < 2 ^ 32
word_small c = search sum_small

pub overflow_cast-size : goal.overflow_cast-size
overflow_cast-size c = omega (arith, word_small ((goal.at.overflow_cast-size c).Start))

pub overflow_add-w : goal.overflow_add-w
overflow_add-w c = omega (arith, word_small ((goal.at.overflow_add-w c).Start))

pub lay_parts-requires : goal.lay_parts-requires
lay_parts-requires c = record { header_given = (search headed, search pad_given); room_left = search packet_room }

pub returns : goal.returns
returns c = search packet_laid
