-- Whatever is wanted of a call whose refusals are of the list, a result says it. The idea: a number of the list is that of a refusal (`search named`), and a
-- call's number is one of its own list of refusals (`number_among`).
use Rattle.std.specs.Prelude.{Result, Ok, Err}
use Rattle.words.proofs.Kit.{◌≡◌, refl, ap, ℕ, rules}
use Rattle.words.specs.Numbers.{EMPTY, TYPE, BITS, SHORT, CUT, CLASS, TIME, INDICATOR, LAYOUT, FIELD, STREAM, LIST, ROOM, VALUE, SIZE, FORMAT, COUNT}
use Rattle.words.specs.Numbers.{TABLE, PAGE, PAD, PLACE}
use Rattle.words.specs.declared.refusals.Refusal.{Refusal}
use Rattle.words.specs.declared.refusals.Refusal.TheVariants as refusals
use Rattle.words.specs.Listed.{list_number, on_paper, on_paper_as}
use Rattle.words.specs.Outcome.{Outcome, refused, accepted, Done, said_of}
use Rattle.words.proofs.RefusalLaws.{Numbered}

-- a number of the list
abbrev pub OfTheList : ℕ → Type 0
OfTheList n = (r : Refusal) × (list_number r ≡ n)

pub no_empty : OfTheList EMPTY
no_empty = (refusals.Empty, refl)

pub no_kind : OfTheList TYPE
no_kind = (refusals.Kind, refl)

pub no_bits : OfTheList BITS
no_bits = (refusals.Bits, refl)

pub no_short : OfTheList SHORT
no_short = (refusals.Short, refl)

pub no_cut : OfTheList CUT
no_cut = (refusals.Cut, refl)

pub no_class : OfTheList CLASS
no_class = (refusals.Class, refl)

pub no_time : OfTheList TIME
no_time = (refusals.Time, refl)

pub no_indicator : OfTheList INDICATOR
no_indicator = (refusals.Indicator, refl)

pub no_layout : OfTheList LAYOUT
no_layout = (refusals.Layout, refl)

pub no_field : OfTheList FIELD
no_field = (refusals.Field, refl)

pub no_stream : OfTheList STREAM
no_stream = (refusals.Stream, refl)

pub no_list : OfTheList LIST
no_list = (refusals.List, refl)

pub no_room : OfTheList ROOM
no_room = (refusals.Room, refl)

pub no_value : OfTheList VALUE
no_value = (refusals.Value, refl)

pub no_size : OfTheList SIZE
no_size = (refusals.Size, refl)

pub no_format : OfTheList FORMAT
no_format = (refusals.Format, refl)

pub no_count : OfTheList COUNT
no_count = (refusals.Count, refl)

pub no_table : OfTheList TABLE
no_table = (refusals.Table, refl)

pub no_page : OfTheList PAGE
no_page = (refusals.Page, refl)

pub no_pad : OfTheList PAD
no_pad = (refusals.Pad, refl)

pub no_place : OfTheList PLACE
no_place = (refusals.Place, refl)

pub ruleset named = (
  rules,
  no_empty,
  no_kind,
  no_bits,
  no_short,
  no_cut,
  no_class,
  no_time,
  no_indicator,
  no_layout,
  no_field,
  no_stream,
  no_list,
  no_room,
  no_value,
  no_size,
  no_format,
  no_count,
  no_table,
  no_page,
  no_pad,
  no_place,
)

-- some result says an outcome whose number is of the list, and values that some answers stand for
module _ {A : Type 0} where
  pub says_result : (o : Outcome A) → Numbered OfTheList o → (r : Result A Refusal) × (on_paper r ≡ o)
  says_result (refused n) k = (Err k.0, ap refused k.1)
  says_result (accepted a) k = (Ok a, refl)

  pub says_as : {B : Type 0} (f : B → A) → ((a : A) → (b : B) × (f b ≡ a)) → (o : Outcome A) → Numbered OfTheList o
      → (r : Result B Refusal) × (on_paper_as f r ≡ o)
  says_as f says (refused n) k = (Err k.0, ap refused k.1)
  says_as f says (accepted a) k = let b = says a in (Ok b.0, ap accepted b.1)

-- what a call that is lent words says has the same number
pub said_numbered : {A L : Type 0} (o : Outcome (Done A L)) → Numbered OfTheList o → Numbered OfTheList (said_of o)
said_numbered (refused n) k = k
said_numbered (accepted d) k = tt
