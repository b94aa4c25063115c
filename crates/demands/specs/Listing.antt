-- The list of a table's streams. Document 02, C-13: "The caller chooses plain 49.0 (word 0) or 49A (1) for each stream in the list"; "Demands 2 and 3 count it
-- as part of the list."
use Rattle.std.specs.Prelude.{◌≡◌, ℕ, Bool, true, List, eqb, ltb, length, get_or}
use Rattle.words.specs.Tests.{both}
use Rattle.words.specs.All.{first_of}
use Rattle.table.specs.Identifiers.{listed, list_good, choices_good}

-- identifiers and choices
pub record Listing : Type 0 where
  pub ids : List ℕ
  pub choices : List ℕ

-- how many streams it has
abbrev pub streams_in : Listing → ℕ
streams_in list = length list.ids

-- a valid list: 1 to 32 identifiers, none twice, and a choice for each, 0 or 1
abbrev pub Valid : Listing → Type 0
Valid list = (list_good (streams_in list) (listed list.ids) ≡ true) × (choices_good (streams_in list) list.choices ≡ true)

-- the choice of stream s
abbrev pub choice_in : Listing → ℕ → ℕ
choice_in list s = get_or list.choices s 0

-- "stream number (place in the list, from 0)", of an identifier; the list's length where it is not declared
unfoldable pub place_in : Listing → ℕ → ℕ
place_in list identifier = first_of (streams_in list) (λ s. eqb (listed list.ids s) identifier)

-- 49A is chosen for the stream of an identifier; "packets of no declared stream .. stay plain"
unfoldable pub chosen_in : Listing → ℕ → Bool
chosen_in list identifier =
    let s = place_in list identifier in
    both (ltb s (streams_in list)) (eqb (choice_in list s) 1)
