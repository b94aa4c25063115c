-- `taken_words` meets its promise: a packet that is taken in was heard, or is of no declared stream.
use Rattle.words.proofs.Kit.{rules}
use Rattle.vrt49.proofs.SmallLaws.{small_heard, small_stranger, heard_entry, stranger_entry}
use Rattle.vrt49.proofs.indexes.taken_words.Goals as goal

pub heard_entry-requires : goal.heard_entry-requires
heard_entry-requires c = small_heard _ c.requires _ c.in-Declared.is

pub stranger_entry-requires : goal.stranger_entry-requires
stranger_entry-requires c = small_stranger _ c.requires _ c.in-Undeclared.is

pub returns-in-Declared : goal.returns-in-Declared
returns-in-Declared c = heard_entry _ _ _ c.in-Declared.is c.heard_entry.ensures

pub returns-in-Undeclared : goal.returns-in-Undeclared
returns-in-Undeclared c = stranger_entry _ _ _ c.in-Undeclared.is c.stranger_entry.ensures
