-- Document 01, 'The packet', field rules: "Format (15)". The parts of the format's first word have the names of 'Payload'.
use Rattle.std.specs.Prelude.{ℕ, ◌+◌, Bool, true, not, eqb, leb}
use Rattle.words.specs.Tests.{pick, both}
use Rattle.words.specs.Word.{bits}

-- ---- the parts of the first word

abbrev pub real_complex : ℕ → ℕ
real_complex w = bits 30 29 w

abbrev pub item_code : ℕ → ℕ
item_code w = bits 28 24 w

abbrev pub event_size : ℕ → ℕ
event_size w = bits 22 20 w

abbrev pub channel_size : ℕ → ℕ
channel_size w = bits 19 16 w

-- "packing field minus one 11-6"
abbrev pub packing_size : ℕ → ℕ
packing_size w = bits 11 6 w + 1

-- "item minus one 5-0"
abbrev pub item_size : ℕ → ℕ
item_size w = bits 5 0 w + 1

-- ---- the rule

-- "item code (28-24) one of 0-6, 14-22"
unfoldable pub code_known : ℕ → Bool
code_known code = pick (leb code 6) true (both (leb 14 code) (leb code 22))

-- "code 14 has 32-bit items, 15 has 64"
unfoldable pub code_fits : ℕ → ℕ → Bool
code_fits code item = pick (eqb code 14) (eqb item 32) (pick (eqb code 15) (eqb item 64) true)

-- "15-12 zero, real/complex (30-29) not 3, item code ..; item, event and channel sizes together do not exceed the packing field"
unfoldable pub format_ok : ℕ → Bool
format_ok w =
    both (eqb (bits 15 12 w) 0)
    (both (not (eqb (real_complex w) 3))
    (both (code_known (item_code w))
    (both (code_fits (item_code w) (item_size w))
    (leb (item_size w + event_size w + channel_size w) (packing_size w)))))
