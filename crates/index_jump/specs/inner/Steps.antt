-- What the functions inside promise: of packets that are walked over, and of a landing in words of its own.
use Rattle.std.specs.Prelude.{◌≡◌, ℕ, ◌+◌, ◌≤◌, true, not, List, [], ◌∷◌, take, Result}
use Rattle.words.specs.Numbers.{PAGE}
use Rattle.words.specs.declared.refusals.Refusal.{Refusal}
use Rattle.words.specs.Listed.{on_paper}
use Rattle.words.specs.Outcome.{Outcome, accepted}
use Rattle.words.specs.Refusals.{first_given}
use Rattle.page.specs.Good.{page_good}
use Rattle.index_jump.specs.declared.Landed.{Landed}
use Rattle.index_jump.specs.Onward.{Behind}
use Rattle.index_jump.specs.Jump.{page_before, landing_words, landing, entry_serves}

-- the place behind some packets, or PAGE
abbrev pub reached_place : Behind → Outcome ℕ
reached_place b = first_given ((PAGE, not b.all) ∷ []) (accepted b.place)

-- the answer r, and the table behind them where the recording has them all
pub record WalkedTo (b : Behind) (r : Result ℕ Refusal) (left : List ℕ) : Type 0 where
  pub answer : on_paper r ≡ reached_place b
  pub table : b.all ≡ true → left ≡ b.table

-- so many words have room for the table of the entry before packet n, if its page is well made
pub record Spacious (ix : List ℕ) (n room : ℕ) : Type 0 where
  pub fits : page_good (page_before ix n) ≡ true → landing_words ix n ≤ room

-- what is said of a landing at packet n, with PAGE for the entry
abbrev pub landed_of : List ℕ → ℕ → List ℕ → ℕ → Outcome Landed
landed_of ws first ix n =
    first_given ((PAGE, not (entry_serves ws first ix n)) ∷ [])
    (accepted (record { length = landing_words ix n; place = first + (landing ws first ix n).place }))

-- the answer r, and the front of the words where the entry serves
pub record LandedIn (ws : List ℕ) (first : ℕ) (ix : List ℕ) (n : ℕ) (r : Result Landed Refusal) (left : List ℕ) : Type 0 where
  pub answer : on_paper r ≡ landed_of ws first ix n
  pub table : entry_serves ws first ix n ≡ true → take (landing_words ix n) left ≡ (landing ws first ix n).table
