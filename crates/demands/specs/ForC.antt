-- Demand 1 of the calls for C: the list `calls_for_c` (vrt49/specs/Calls.antt) has each with its promise, its refusals and their order.
use Rattle.vrt49.specs.Calls.{OnceForC, SomeForC, LeavesForC, OrderForC, PartsForC, ZeroForC, EachForC, calls_for_c}
use Rattle.demands.specs.SourcesForC.{SourcesForC}

pub record ForC : Type 1 where
  -- "Every word slice handed in gets an answer, and each call finishes": none asks anything, each promise is its function's own; one outcome meets it
  pub sources : SourcesForC
  pub answered : EachForC SomeForC calls_for_c
  pub once : EachForC OnceForC calls_for_c
  -- "refused with the number in our list, given exactly when the list says": the first of its list that applies; 0 is given where none does, with the values
  pub numbers : EachForC OrderForC calls_for_c
  pub values : EachForC ZeroForC calls_for_c
  -- document 02, C-15: the place and the field bit of a refusal of reading are parts of the number
  pub places : EachForC PartsForC calls_for_c
  -- "A refusal changes no word of any buffer it was lent": nor any other lent place
  pub refusals : EachForC LeavesForC calls_for_c
