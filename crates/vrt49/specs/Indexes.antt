-- The index beside a recording: the values of each answer, in the order of include/vrt49.h.
use Rattle.std.specs.Prelude.{ℕ, ◌^◌, ◌≤◌, ◌<◌, List, [], ◌∷◌}
use Rattle.words.specs.Numbers.{STREAM}
use Rattle.index_grow.specs.declared.Taken.{Taken}
use Rattle.index_grow.specs.declared.Taken.TheVariants.{Declared, Undeclared}
use Rattle.index_jump.specs.declared.Landed.{Landed}

-- as an entry of a run: 0, size, type, stream and missing; of a packet of no declared stream, STREAM, size, the word that says so, and zeros
abbrev pub taken_values : Taken → List ℕ
taken_values (Declared h) = 0 ∷ h.size ∷ h.kind ∷ h.stream ∷ h.missing ∷ []
taken_values (Undeclared s) = STREAM ∷ s.size ∷ s.place ∷ 0 ∷ 0 ∷ []

-- these are words: a packet has at most 65,535, there are 32 streams, and the word is the header or the next
abbrev pub SmallTaken : Taken → Type 0
SmallTaken (Declared h) = (h.size < 2 ^ 16) × (h.stream ≤ 31)
SmallTaken (Undeclared s) = (s.size < 2 ^ 16) × (s.place ≤ 1)

-- the layout's words, and the packet's word place
abbrev pub landed_values : Landed → ℕ × ℕ
landed_values l = (l.length, l.place)
