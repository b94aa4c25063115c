-- `where_refused` meets its promise: each arm is a line of the definition.
use Rattle.words.proofs.Kit.{◌≡◌, ap, List, ℕ, get_or}
use mathlib.Core.Logic.{◌⊎◌, inl, inr}
use Rattle.words.specs.declared.refusals.Refusal.{Refusal}
use Rattle.words.specs.declared.refusals.Refusal.TheVariants as refusals
use Rattle.words.specs.declared.Where.{Where}
use Rattle.words.specs.declared.Where.TheVariants.{Nowhere, Word}
use Rattle.words.specs.Listed.{list_number}
use Rattle.words.specs.Told.{place_further}
use Rattle.fields.specs.Broken.{broken_of}
use Rattle.packet.specs.Parts.{body_at, body_of}
use Rattle.packet.specs.Told.{where_of}
use Rattle.packet.proofs.places.where_refused.Goals as goal

module _ (ws : List ℕ) (r : Refusal) where
  abbrev Is : Refusal → Type 0
  Is k = r ≡ k

  header : Is refusals.Empty ⊎ (Is refusals.Kind ⊎ (Is refusals.Bits ⊎ (Is refusals.Short ⊎ Is refusals.Cut))) → Word 0 ≡ where_of ws (list_number r)
  unfolding where_of
  header (inl e) = rw e
  header (inr (inl e)) = rw e
  header (inr (inr (inl e))) = rw e
  header (inr (inr (inr (inl e)))) = rw e
  header (inr (inr (inr (inr e)))) = rw e

  body : (at w : ℕ) → at ≡ body_at w → w ≡ get_or ws 0 0 → Is refusals.Indicator ⊎ Is refusals.Layout → Word at ≡ where_of ws (list_number r)
  unfolding where_of
  body at w a h (inl e) = rw (e, a, h)
  body at w a h (inr e) = rw (e, a, h)

  field : (place : Where) (w : ℕ) → place ≡ place_further (body_at w) (broken_of (body_of w ws)) → w ≡ get_or ws 0 0 → Is refusals.Field
      → place ≡ where_of ws (list_number r)
  unfolding where_of
  field place w p h e = rw (e, p, h)

  nowhere : Is refusals.List ⊎ (Is refusals.Room ⊎ (Is refusals.Value ⊎ (Is refusals.Size ⊎ (Is refusals.Format ⊎ (Is refusals.Count
      ⊎ (Is refusals.Table ⊎ (Is refusals.Page ⊎ Is refusals.Place))))))) → Nowhere ≡ where_of ws (list_number r)
  unfolding where_of
  nowhere (inl e) = rw e
  nowhere (inr (inl e)) = rw e
  nowhere (inr (inr (inl e))) = rw e
  nowhere (inr (inr (inr (inl e)))) = rw e
  nowhere (inr (inr (inr (inr (inl e))))) = rw e
  nowhere (inr (inr (inr (inr (inr (inl e)))))) = rw e
  nowhere (inr (inr (inr (inr (inr (inr (inl e))))))) = rw e
  nowhere (inr (inr (inr (inr (inr (inr (inr (inl e)))))))) = rw e
  nowhere (inr (inr (inr (inr (inr (inr (inr (inr e)))))))) = rw e

pub returns-in-Empty : goal.returns-in-Empty
returns-in-Empty c = header c.args.ws.now c.args.refusal c.in-Empty.is

pub returns-in-Class : goal.returns-in-Class
unfolding where_of
returns-in-Class c = rw (c.in-Class.is, c.class_at.ensures.0, c.word_at-w.ensures)

pub returns-in-Time : goal.returns-in-Time
unfolding where_of
returns-in-Time c = rw (c.in-Time.is, c.fraction_at.ensures.0, c.word_at-w.ensures)

pub returns-in-Indicator : goal.returns-in-Indicator
returns-in-Indicator c = body c.args.ws.now c.args.refusal _ _ c.body_at.ensures.0 c.word_at-w.ensures c.in-Indicator.is

pub broken_at-requires : goal.broken_at-requires
broken_at-requires c = rw c.word_at-w.ensures (c.requires (ap list_number c.in-Field.is))

pub returns-in-Field : goal.returns-in-Field
returns-in-Field c = field c.args.ws.now c.args.refusal _ _ c.broken_at.ensures c.word_at-w.ensures c.in-Field.is

pub returns-in-Pad : goal.returns-in-Pad
unfolding where_of
returns-in-Pad c = rw (c.in-Pad.is, c.when_so.ensures.0, c.has_class.ensures, c.class_at-in-Pad.ensures.0, c.word_at-w.ensures)

pub returns-in-Stream : goal.returns-in-Stream
unfolding where_of
returns-in-Stream c = rw (c.in-Stream.is, c.when_so-in-Stream.ensures.0, c.has_stream.ensures, c.word_at-w.ensures)

pub returns-in-List : goal.returns-in-List
returns-in-List c = nowhere c.args.ws.now c.args.refusal c.in-List.is
