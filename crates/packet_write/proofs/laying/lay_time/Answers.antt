-- `lay_time` meets its promise: the seconds, and then the fraction where the first call ended.
use Rattle.words.proofs.Kit.{◌^◌, ◌<◌, arith, get_or, rules}
use Rattle.packet_write.specs.AsWords.{parts_in}
use Rattle.packet_write.proofs.GivenLaws.{high_given, low_given}
use Rattle.packet_write.proofs.LayLaws.{seconds_room, fraction_room, time_laid}
use Rattle.packet_write.proofs.laying.lay_time.Goals as goal

pub has_seconds-requires : goal.has_seconds-requires
unfolding parts_in
has_seconds-requires c = search rules

pub bounds-q-11 : goal.bounds-q-11
unfolding parts_in
bounds-q-11 c = search rules

pub lay_one-a-requires : goal.lay_one-a-requires
unfolding parts_in
lay_one-a-requires c = search seconds_room

pub bounds-q-12 : goal.bounds-q-12
unfolding parts_in
bounds-q-12 c = search rules

pub bounds-q-13 : goal.bounds-q-13
unfolding parts_in
bounds-q-13 c = search rules

pub has_fraction-requires : goal.has_fraction-requires
unfolding parts_in
has_fraction-requires c = search rules

pub lay_two-requires : goal.lay_two-requires
unfolding parts_in
lay_two-requires c = search fraction_room

pub shape_of-out : goal.shape_of-out
unfolding parts_in
shape_of-out c = search rules

pub returns : goal.returns
unfolding parts_in
returns c =
    let low_small : get_or c.args.q.now 13 0 < 2 ^ 32 = omega (arith, c.type_inv.q 13) in
    search (time_laid, high_given, low_given, low_small)
