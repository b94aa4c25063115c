-- What a call answers, as document 01 has it: "A refusal returns its number alone and writes nothing".
use Rattle.std.specs.Prelude.{◌≡◌, ℕ}

-- an answer: refused, with what a refusal says, or accepted with its values
pub data Reply (R A : Type 0) : Type 0 where
  refused : R → Reply R A
  accepted : A → Reply R A

-- one that is refused with a number of the list
abbrev pub Outcome : Type 0 → Type 0
Outcome A = Reply ℕ A

-- some checks, and then the rest: the first refusal that applies is given
abbrev pub after : {A B : Type 0} → Outcome A → Outcome B → Outcome B
after (refused n) rest = refused n
after (accepted a) rest = rest

-- an answer, and then the rest over its values
abbrev pub onward : {R A B : Type 0} → Reply R A → (A → Reply R B) → Reply R B
onward (refused n) rest = refused n
onward (accepted a) rest = rest a

-- the number of a refusal, and 0 of an accepted answer
abbrev pub number_of : {A : Type 0} → Outcome A → ℕ
number_of (refused n) = n
number_of (accepted a) = 0

-- an accepted call that was lent a buffer: what it says, and what it leaves in the buffer
pub record Done (A L : Type 0) : Type 0 where
  pub says : A
  pub leaves : L

module _ {R A L : Type 0} where
  abbrev pub said_of : Reply R (Done A L) → Reply R A
  said_of (refused n) = refused n
  said_of (accepted d) = accepted d.says

  -- the buffer afterwards: a refusal leaves it as it was
  abbrev pub left_of : Reply R (Done A L) → L → L
  left_of (refused n) before = before
  left_of (accepted d) before = d.leaves

-- the answer r of a call that found the buffer as `before` and left it as `after` is what `want` says; `paper` gives what r says on paper
pub record Meets {R A B L : Type 0} (paper : A → Reply R B) (want : Reply R (Done B L)) (before : L) (r : A) (after : L) : Type 0 where
  pub answer : paper r ≡ said_of want
  pub buffer : after ≡ left_of want before
