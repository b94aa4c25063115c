-- `entry_unread` meets its promise: the place is that of the number, and fits a word.
use Rattle.words.proofs.Kit.{◌≡◌, List, ℕ, ◌^◌, ◌<◌, rules}
use Rattle.words.specs.declared.Where.{Where}
use Rattle.words.specs.Told.{place_word, place_bit}
use Rattle.packet.specs.Told.{where_of}
use Rattle.packet.specs.inner.Steps.{Placeable}
use Rattle.play.specs.inner.Entered.{unread_entry}
use Rattle.play.proofs.entries.entry_unread.Goals as goal

module _ (number : ℕ) (ws : List ℕ) (place : Where) (e : place ≡ where_of ws number) (word : ℕ) (f : word ≡ place_word place) where
  word_fits : Placeable number ws → word < 2 ^ 32
  word_fits p = rw (f, e) p.small

  entry_made : (bit : ℕ) → bit ≡ place_bit place → record { number = number; size = 0; what = word; which = bit; missing = 0 } ≡ unread_entry number ws
  entry_made bit b = rw (f, b, e)

pub overflow_cast-result : goal.overflow_cast-result
overflow_cast-result c = search word_fits

pub returns : goal.returns
returns c = search entry_made
