-- The laws of the Standard Data Packet of 49A, each beside its kin.

-- its class, and the data types
pub mod ClassLaws
-- its payload: the one number of items that fills it
pub mod PayloadLaws
