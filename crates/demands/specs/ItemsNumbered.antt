-- Document 02, C-12: "Add both orders (section 6.1.6.3 of source document 003) and the numbering from an item to time, channel, component and repeat and back,
-- proved one-to-one and onto once over vector size, repeat and component count. n becomes a multiple of the whole group. A group over 2,097,120 items is legal
-- only with n of 0."
use Rattle.std.specs.Prelude.{◌≡◌, ℕ, zero, suc, ◌+◌, ◌*◌, ◌<◌, Bool, false, List, [], ◌∷◌, ◌⊎◌}
use Rattle.words.specs.Outcome.{Outcome, refused, accepted}
use Rattle.payload_format.specs.Format.{repeat_size, component_count, format_bad}
use Rattle.payload_format.specs.Count.{group_of, count_bad}
use Rattle.payload_order.specs.declared.Coordinates.{Coordinates}
use Rattle.payload_order.specs.Order.{item_number, item_coordinates, Inside, instant}
use Rattle.payload_order.specs.Numbering.{coordinates_of, InBox}
use Rattle.demands.specs.Program.{Program}
use Rattle.demands.specs.Samples.{Sample, row}

-- ---- the numbering, over the order, the vector size v, the repeat r and the component count c, of a payload of so many groups

pub record OneToOneOnto (apart : Bool) (v r c groups : ℕ) : Type 0 where
  -- each item has coordinates in the box, and they lead back to it
  pub inside : (item : ℕ) → item < groups * (v * r * c) → Inside groups v r c (item_coordinates apart v r c item)
  pub item_back : (item : ℕ) → item_number apart v r c (item_coordinates apart v r c item) ≡ item
  -- all coordinates in the box have an item, and it leads back to them
  pub below : (at : Coordinates) → Inside groups v r c at → item_number apart v r c at < groups * (v * r * c)
  pub back : (at : Coordinates) → Inside groups v r c at → item_coordinates apart v r c (item_number apart v r c at) ≡ at
  -- groups follow each other: the first t have the first items, and no others
  pub first_groups : (at : Coordinates) → Inside groups v r c at → (t : ℕ)
      → (at.time < t → item_number apart v r c at < t * (v * r * c)) × (item_number apart v r c at < t * (v * r * c) → at.time < t)

-- ---- the two calls

-- a format and a number of items that packing and unpacking take
pub record LegalItems (first second n : ℕ) : Type 0 where
  pub format : format_bad first ≡ false
  pub count : count_bad first second n ≡ false

pub record ItemsNumbered (P : Program) : Type 0 where
  -- one proof over the sizes and both orders
  pub over_sizes : (apart : Bool) (v r c groups : ℕ) → 0 < v → 0 < r → 0 < c → OneToOneOnto apart v r c groups
  -- each of n items has coordinates in the box, and they lead back to it
  pub from_item : (first second n item : ℕ) → LegalItems first second n → item < n
      → (at : Coordinates) × (P.coordinates first second n item ≡ accepted at) × InBox first second n at × (P.item first second n at ≡ accepted item)
  -- and all coordinates in the box have an item, which leads back to them
  pub from_coordinates : (first second n : ℕ) (at : Coordinates) → LegalItems first second n → InBox first second n at
      → (item : ℕ) × (P.item first second n at ≡ accepted item) × (item < n) × (P.coordinates first second n item ≡ accepted at)
  -- R. 6.1.6.3-2: "Earlier .. Data Items shall always precede later Data Items": those of one channel and component
  pub rises : (first second n : ℕ) (a b : Coordinates) (i j : ℕ) → P.item first second n a ≡ accepted i → P.item first second n b ≡ accepted j
      → a.channel ≡ b.channel → a.component ≡ b.component → instant (repeat_size second) a < instant (repeat_size second) b → i < j
  -- where nothing is repeated, or data are real, bit 23 makes no difference
  pub same_orders : (first other second n : ℕ) (at : Coordinates) → format_bad first ≡ format_bad other → component_count first ≡ component_count other
      → (repeat_size second ≡ 1) ⊎ (component_count first ≡ 1) → P.item first second n at ≡ P.item other second n at
  -- "A group over 2,097,120 items is legal only with n of 0", and with that always
  pub large : (first second n : ℕ) → 2097120 < group_of first second → count_bad first second n ≡ false → n ≡ 0
  pub none : (first second : ℕ) → count_bad first second 0 ≡ false

-- ---- the order itself, which a numbering that is one-to-one and onto leaves open: the figures of source document 003

-- what a figure writes in the cell of an item: the component of the sample vector and the sample, both from 1, and 0 for "Real/Ampl", 1 for "Imag/Phase"
abbrev pub cell_of : ℕ → Outcome Coordinates → List ℕ
cell_of r (refused n) = []
cell_of r (accepted at) = (at.channel + 1) ∷ (instant r at + 1) ∷ at.component ∷ []

-- the cells of k items from an item on, of n
unfoldable pub cells : (first second n from k : ℕ) → List (List ℕ)
cells first second n from zero = []
cells first second n from (suc k) = cell_of (repeat_size second) (coordinates_of first second n from) ∷ cells first second n (suc from) k

-- a cell
abbrev pub cell : ℕ → ℕ → ℕ → List ℕ
cell component sample part = component ∷ sample ∷ part ∷ []

unfoldable pub figures : List {1} Sample
figures =
    -- Figure B.9-15, "Channel Repeating": formats 000001C7 00030003; "Data Item 1 (Component 1, Sample 1)", ..
    row (cells 0x000001C7 0x00030003 32 0 24)
    (cell 1 1 0 ∷ cell 1 2 0 ∷ cell 1 3 0 ∷ cell 1 4 0
    ∷ cell 2 1 0 ∷ cell 2 2 0 ∷ cell 2 3 0 ∷ cell 2 4 0
    ∷ cell 3 1 0 ∷ cell 3 2 0 ∷ cell 3 3 0 ∷ cell 3 4 0
    ∷ cell 4 1 0 ∷ cell 4 2 0 ∷ cell 4 3 0 ∷ cell 4 4 0
    ∷ cell 1 5 0 ∷ cell 1 6 0 ∷ cell 1 7 0 ∷ cell 1 8 0
    ∷ cell 2 5 0 ∷ cell 2 6 0 ∷ cell 2 7 0 ∷ cell 2 8 0 ∷ [])
    -- Figure B.9-16, "Sample Component Repeating for Complex Data Formats": 208001C7 00030000; "Data Item 1 (Sample 1 Real/Ampl)", ..
    ∷ row (cells 0x208001C7 0x00030000 16 0 16)
    (cell 1 1 0 ∷ cell 1 2 0 ∷ cell 1 3 0 ∷ cell 1 4 0
    ∷ cell 1 1 1 ∷ cell 1 2 1 ∷ cell 1 3 1 ∷ cell 1 4 1
    ∷ cell 1 5 0 ∷ cell 1 6 0 ∷ cell 1 7 0 ∷ cell 1 8 0
    ∷ cell 1 5 1 ∷ cell 1 6 1 ∷ cell 1 7 1 ∷ cell 1 8 1 ∷ [])
    ∷ []
