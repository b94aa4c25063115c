-- The parts of a packet as fifteen words: type, C, T, TSM, TSI, TSF, count, identifier, OUI, information class, packet class, seconds, fraction high, fraction
-- low, trailer word. So they come from C, and so the functions inside have them: the parts that `write` lays out as words are those that it was given
-- (`parts_again` of proofs/GivenLaws.antt).
use Rattle.std.specs.Prelude.{ℕ, ◌%◌, List, eqb, get_or}
use Rattle.words.specs.Word.{high_first}
use Rattle.packet.specs.declared.Parts.{Parts}

-- the parts that fifteen words give; C, T and TSM are the lowest bits of their words
unfoldable pub parts_in : List ℕ → Parts
parts_in q = record {
  kind = get_or q 0 0;
  classed = eqb (get_or q 1 0 % 2) 1;
  trailed = eqb (get_or q 2 0 % 2) 1;
  tsm = eqb (get_or q 3 0 % 2) 1;
  tsi = get_or q 4 0;
  tsf = get_or q 5 0;
  count = get_or q 6 0;
  identifier = get_or q 7 0;
  oui = get_or q 8 0;
  information = get_or q 9 0;
  code = get_or q 10 0;
  seconds = get_or q 11 0;
  fraction = high_first (get_or q 12 0) (get_or q 13 0);
  trailer = get_or q 14 0;
}
