-- `lay_class` meets its promise: where there is a class its numbers fit, and its words are laid.
use Rattle.packet_write.specs.AsWords.{parts_in}
use Rattle.packet_write.proofs.LayLaws.{oui_fits, information_fits, code_fits, class_there, class_pad, class_room, class_laid, class_absent}
use borrow.Author.Rules.{rules}
use Rattle.packet_write.proofs.laying.lay_class.Goals as goal

pub has_class-requires : goal.has_class-requires
unfolding parts_in
has_class-requires c = search rules

pub bounds-q-8 : goal.bounds-q-8
unfolding parts_in
bounds-q-8 c = search rules

pub class_first-first-requires : goal.class_first-first-requires
unfolding parts_in
class_first-first-requires c = (search class_pad, search (oui_fits, class_there))

pub bounds-q-9 : goal.bounds-q-9
unfolding parts_in
bounds-q-9 c = search rules

pub bounds-q-10 : goal.bounds-q-10
unfolding parts_in
bounds-q-10 c = search rules

pub class_word-second-requires : goal.class_word-second-requires
unfolding parts_in
class_word-second-requires c = (search (information_fits, class_there), search (code_fits, class_there))

pub lay_two-requires : goal.lay_two-requires
unfolding parts_in
lay_two-requires c = search class_room

pub shape_of-out-then-has_class : goal.shape_of-out-then-has_class
unfolding parts_in
shape_of-out-then-has_class c = search rules

pub returns-then-has_class : goal.returns-then-has_class
unfolding parts_in
returns-then-has_class c = search class_laid

pub returns : goal.returns
unfolding parts_in
returns c = search class_absent
