-- `moved` meets its promise: a place is nowhere, a word or a field, and the word moves.
use Rattle.words.proofs.Kit.{◌≡◌, ℕ, ◌+◌, ◌^◌, ◌≤◌, ◌<◌, arith}
use Rattle.words.specs.declared.Where.{Where}
use Rattle.words.specs.declared.Where.TheVariants.{Word, Field}
use Rattle.words.specs.Told.{place_word, place_further}
use Rattle.packet.proofs.places.moved.Goals as goal

module _ (n at bit : ℕ) (place : Where) where
  moved_word : place ≡ Word at → Word (n + at) ≡ place_further n place
  moved_word e = rw e

  moved_field : place ≡ Field at bit → Field (n + at) bit ≡ place_further n place
  moved_field e = rw e

  module _ (h : n ≤ 7) (small : place_word place < 2 ^ 40) where
    word_fits : place ≡ Word at → n + at < 2 ^ 64
    word_fits e = let l : at < 2 ^ 40 = rw e at small in omega arith

    field_fits : place ≡ Field at bit → n + at < 2 ^ 64
    field_fits e = let l : at < 2 ^ 40 = rw e at small in omega arith

pub overflow_add-result : goal.overflow_add-result
overflow_add-result c = search word_fits

pub overflow_add-result-in-Field : goal.overflow_add-result-in-Field
overflow_add-result-in-Field c = search field_fits

pub returns-in-Word : goal.returns-in-Word
returns-in-Word c = search moved_word

pub returns-in-Field : goal.returns-in-Field
returns-in-Field c = search moved_field
