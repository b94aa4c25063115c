-- Words past a table's layout. The idea: play looks at S, the list and the records, which are those of the layout alone, and replaces a record inside it; so
-- it says the same of the layout alone, and leaves what it leaves of that and then the words past it (`play_alone`). So does a walk, packet by packet
-- (`walk_alone`).
use Rattle.words.proofs.Kit.{◌≡◌, refl, sym, ap, ◌∙◌, Bool, true, false, ⊎_elim, List, ◌++◌, ℕ, zero, suc, ◌≤◌, ◌<◌, le-leb, lt-leb, length, drop}
use Rattle.words.specs.Tests.{pick}
use Rattle.words.specs.Outcome.{Outcome, refused, accepted, onward, Done, said_of, left_of}
use Rattle.words.specs.Told.{told}
use Rattle.words.proofs.Cases.{le_or_lt, true_or_false}
use Rattle.words.proofs.ToldLaws.{told_said, told_left}
use Rattle.packet.specs.declared.Packet.{Packet}
use Rattle.packet.specs.Read.{read_by}
use Rattle.packet.specs.Told.{where_of}
use Rattle.record.specs.Layout.{choice_of}
use Rattle.table.specs.Layout.{streams_of, base, layout_words}
use Rattle.table.specs.Well.{well_made}
use Rattle.table.proofs.StreamLaws.{surveyed_same}
use Rattle.table.proofs.AloneLaws.{streams_alone, declared_alone, record_alone, with_alone, well_alone, stream_alone}
use Rattle.play.specs.declared.Heard.{Heard}
use Rattle.play.specs.Play.{heard_of, table_after, heard_done, chosen, play_of, play_told}
use Rattle.play.specs.inner.Steps.{sought_of}
use Rattle.play.specs.Run.{goes_on, said_at, left_at, next_of, entry_at, Walk, ended, before, walk_of}
use Rattle.play.proofs.StreamLaws.{sought_below}
use Rattle.play.proofs.PlayLaws.{step_read, play_step, play_refuses}
use Rattle.play.proofs.KeepLaws.{kept_at}

-- ---- a packet; l has the words of a layout and no more, and x stands past it

module _ (l x : List ℕ) (e : length l ≡ layout_words (streams_of l)) where
  -- it is read by the same choice
  pub chosen_alone : (ws : List ℕ) → chosen (l ++ x) ws ≡ chosen l ws
  chosen_alone ws =
      surveyed_same _ (l ++ x) l (streams_alone l x e) (declared_alone l x e) (λ s h. ap choice_of (record_alone l x e s h))

  -- an answer of the longer table, and that of the layout alone
  abbrev pub Alike : Outcome (Done Heard (List ℕ)) → Outcome (Done Heard (List ℕ)) → Type 0
  Alike o p = (said_of o ≡ said_of p) × (left_of o (l ++ x) ≡ left_of p l ++ x)

  pub heard_alone : (p : Packet) (s : ℕ) (ws : List ℕ) → s < streams_of l → Alike (accepted (heard_done p s (l ++ x) ws)) (accepted (heard_done p s l ws))
  unfolding heard_of table_after
  heard_alone p s ws h = rw (record_alone l x e s h) (refl, with_alone l x e s _ h)

  pub sought_alone : (p : Packet) (ws : List ℕ) (o : Outcome ℕ) → sought_of p.parts.kind p.parts.identifier l ≡ o
      → Alike (onward o (λ s. accepted (heard_done p s (l ++ x) ws))) (onward o (λ s. accepted (heard_done p s l ws)))
  sought_alone p ws (refused n) f = (refl, refl)
  sought_alone p ws (accepted s) f = heard_alone p s ws (sought_below p.parts.kind p.parts.identifier l s f)

  pub read_alone : (ws : List ℕ) (o : Outcome Packet)
      → Alike (onward o (λ p. onward (sought_of p.parts.kind p.parts.identifier (l ++ x)) (λ s. accepted (heard_done p s (l ++ x) ws))))
      (onward o (λ p. onward (sought_of p.parts.kind p.parts.identifier l) (λ s. accepted (heard_done p s l ws))))
  unfolding sought_of
  read_alone ws (refused n) = (refl, refl)
  read_alone ws (accepted p) =
      let same : sought_of p.parts.kind p.parts.identifier (l ++ x) ≡ sought_of p.parts.kind p.parts.identifier l =
      rw (streams_alone l x e, stream_alone l x e p.parts.identifier) in
      rw same (sought_alone p ws (sought_of p.parts.kind p.parts.identifier l) refl)

  pub played_alone : (ws : List ℕ) → Alike (play_of (l ++ x) ws) (play_of l ws)
  played_alone ws =
      let same : well_made (l ++ x) ≡ well_made l = well_alone l x e in
      ⊎_elim
      (λ (w : well_made l ≡ true). rw (play_step (l ++ x) ws (same ∙ w), play_step l ws w, step_read (l ++ x), step_read l, chosen_alone ws)
      (read_alone ws (read_by (chosen l ws) ws)))
      (λ (w : well_made l ≡ false). rw (play_refuses (l ++ x) ws (same ∙ w), play_refuses l ws w) (refl, refl))
      (true_or_false (well_made l))

  pub play_alone : (ws : List ℕ)
      → (said_of (play_told (l ++ x) ws) ≡ said_of (play_told l ws)) × (left_of (play_told (l ++ x) ws) (l ++ x) ≡ left_of (play_told l ws) l ++ x)
  unfolding play_told
  play_alone ws =
      let k = played_alone ws in
      let f = where_of ws in (
        told_said f (play_of (l ++ x) ws) ∙ ap (told f) k.0 ∙ sym (told_said f (play_of l ws)),
        told_left f (play_of (l ++ x) ws) (l ++ x) ∙ k.1 ∙ ap (λ (u : List ℕ). u ++ x) (sym (told_left f (play_of l ws) l)),
      )

-- ---- a walk

-- a table that was played on has its layout's length
pub layout_left : (l ws : List ℕ) (at : ℕ) → length l ≡ layout_words (streams_of l)
    → length (left_at l ws at) ≡ layout_words (streams_of (left_at l ws at))
layout_left l ws at e = let k = kept_at l ws at in k.whole ∙ e ∙ ap base (sym k.streams)

module _ (l x ws : List ℕ) (at : ℕ) (e : length l ≡ layout_words (streams_of l)) where
  pub left_alone : left_at (l ++ x) ws at ≡ left_at l ws at ++ x
  unfolding left_at
  left_alone = (play_alone l x e (drop at ws)).1

  pub said_alone : said_at (l ++ x) ws at ≡ said_at l ws at
  unfolding said_at
  said_alone = (play_alone l x e (drop at ws)).0

  pub next_alone : next_of (l ++ x) ws at ≡ next_of l ws at
  unfolding next_of
  next_alone = rw said_alone

  pub entry_alone : entry_at (l ++ x) ws at ≡ entry_at l ws at
  unfolding entry_at
  entry_alone = rw said_alone

-- the walk of the longer table, and that of the layout alone
pub record WalkAlone (x : List ℕ) (w v : Walk) : Type 0 where
  pub packets : w.packets ≡ v.packets
  pub next : w.next ≡ v.next
  pub table : w.table ≡ v.table ++ x
  pub entries : w.entries ≡ v.entries

on_alone : (x entry : List ℕ) (next : ℕ) (left : List ℕ) (w v : Walk) (g : Bool) → WalkAlone x w v
    → WalkAlone x (before entry (pick g w (ended next (left ++ x)))) (before entry (pick g v (ended next left)))
on_alone x entry next left w v true k =
    record { packets = ap suc k.packets; next = k.next; table = k.table; entries = ap (λ (es : List ℕ). entry ++ es) k.entries }
on_alone x entry next left w v false k = record { packets = refl; next = refl; table = refl; entries = refl }

pub walk_alone : (x : List ℕ) (n : ℕ) (ws : List ℕ) (at : ℕ) (l : List ℕ) → length l ≡ layout_words (streams_of l)
    → WalkAlone x (walk_of n ws at (l ++ x)) (walk_of n ws at l)
unfolding walk_of
walk_alone x zero ws at l e = record { packets = refl; next = refl; table = refl; entries = refl }
walk_alone x (suc n) ws at l e =
    ⊎_elim (λ (h : length ws ≤ at). rw (le-leb (length ws) at h) (record { packets = refl; next = refl; table = refl; entries = refl }))
    (λ (h : at < length ws).
    rw (lt-leb (length ws) at h, said_alone l x ws at e, left_alone l x ws at e, next_alone l x ws at e, entry_alone l x ws at e)
    (on_alone x (entry_at l ws at) (next_of l ws at) (left_at l ws at) _ _ (goes_on (said_at l ws at))
    (walk_alone x n ws (next_of l ws at) (left_at l ws at) (layout_left l ws at e))))
    (le_or_lt (length ws) at)
