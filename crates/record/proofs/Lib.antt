-- The laws of records, each beside its kin.

-- the fields that have a slot, and those that are held
pub mod SlotLaws
-- what is held of a state word
pub mod StateLaws
-- the words of a field, copied
pub mod CopyLaws
-- fields put into their slots
pub mod HoldLaws
-- the words that a record holds for a field
pub mod HeldWordsLaws
-- slots and their held words, both ways
pub mod SqueezeLaws
-- a record after a packet, part by part
pub mod AfterLaws
-- counts after a packet
pub mod CountLaws
-- when a record is good
pub mod GoodLaws
-- a record after an accepted packet, as the crates above use it
pub mod PacketLaws
