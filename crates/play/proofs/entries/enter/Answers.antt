-- `enter` meets its promise: a refusal of the header or the size is given, and else the packet is entered by its type.
use Rattle.words.proofs.Kit.{sym, ◌∙◌}
use Rattle.play.proofs.CheckedLaws.{unread_sized, has_header, is_sized}
use Rattle.play.proofs.EntryLaws.{noted_unread}
use Rattle.play.proofs.entries.enter.Goals as goal

pub returns-in_default : goal.returns-in_default
returns-in_default c = noted_unread _ _ c.requires _ _ (unread_sized _ _ _ (rw c.unwrap_err.ensures at c.check_sized-sized.ensures)) c.note_unread.ensures

pub bounds-given-0 : goal.bounds-given-0
bounds-given-0 c = has_header _ c.in-Ok.ensures

pub enter_data-requires : goal.enter_data-requires
enter_data-requires c = (c.requires, is_sized _ c.in-Ok.ensures, λ four. c.if-type_of-ne4.true (c.type_of.ensures ∙ four))

pub enter_context-requires : goal.enter_context-requires
enter_context-requires c = (c.requires, is_sized _ c.in-Ok.ensures, sym c.type_of.ensures ∙ c.if-type_of-ne4.false)
