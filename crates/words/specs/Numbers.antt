-- The numbers of document 01's table 'Numbers given back', under their names there, and those that document 02 adds. src/refusals.rt has them for
-- code, each with its sentence.
use Rattle.std.specs.Prelude.{ℕ}

abbrev pub EMPTY : ℕ
EMPTY = 1

abbrev pub TYPE : ℕ
TYPE = 2

abbrev pub BITS : ℕ
BITS = 3

abbrev pub SHORT : ℕ
SHORT = 4

abbrev pub CUT : ℕ
CUT = 5

abbrev pub CLASS : ℕ
CLASS = 6

abbrev pub TIME : ℕ
TIME = 7

abbrev pub INDICATOR : ℕ
INDICATOR = 8

abbrev pub LAYOUT : ℕ
LAYOUT = 9

abbrev pub FIELD : ℕ
FIELD = 10

abbrev pub STREAM : ℕ
STREAM = 11

abbrev pub LIST : ℕ
LIST = 12

abbrev pub ROOM : ℕ
ROOM = 13

abbrev pub VALUE : ℕ
VALUE = 14

abbrev pub SIZE : ℕ
SIZE = 15

abbrev pub FORMAT : ℕ
FORMAT = 16

abbrev pub COUNT : ℕ
COUNT = 17

abbrev pub TABLE : ℕ
TABLE = 18

abbrev pub PAGE : ℕ
PAGE = 19

abbrev pub PAD : ℕ
PAD = 20

abbrev pub PLACE : ℕ
PLACE = 21
