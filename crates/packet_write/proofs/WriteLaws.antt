-- The steps of writing as the code goes them. Each law says one way to return: a refusal found ends the chain there and leaves the buffer as it was; else the
-- packet is laid. They hold where 49A is chosen with a pad count, and where it is not.
use Rattle.std.specs.Prelude.{Result, Ok, Err}
use Rattle.words.proofs.Kit.{◌≡◌, refl, sym, ap, ◌∙◌, Bool, true, false, not, List, ◌++◌, ℕ, ◌+◌, ◌≤◌, ◌<◌}
use Rattle.words.proofs.Kit.{eq-eqb, ne_eqb, ltb-false, not-true, not-false, length, take, drop}
use lib.Dec.{lit<}
use Rattle.words.specs.declared.refusals.Refusal.{Refusal}
use Rattle.words.specs.declared.refusals.Refusal.TheVariants.{Value}
use Rattle.words.specs.Listed.{list_number, on_paper}
use Rattle.words.specs.Outcome.{refused, accepted, Meets}
use Rattle.words.proofs.RefusalLaws.{first_passed, first_fine}
use Rattle.words.proofs.MeetLaws.{meets_ok}
use Rattle.packet.specs.Header.{type_of}
use Rattle.packet.specs.declared.Parts.{Parts}
use Rattle.packet_write.specs.Write.{header_word, size_for, packet_words, parts_fit, pad_fits, write_list_by, write_by}
use Rattle.packet_write.specs.inner.Steps.{plain_checks, content_list, content_checks, pad_checks, room_checks, write_checks}
use Rattle.packet_write.specs.inner.Given.{Layable, Chosen}
use Rattle.packet_write.proofs.FitLaws.{parts_fit_lem, parts_kind, parts_fitting, write_groups, nothing_found, writable, layable}
use Rattle.packet_write.proofs.HeaderLaws.{type_is, body_most}

-- the parts that pass, whatever the pad count is
module _ (p : Parts) (fine : accepted tt ≡ plain_checks p) where
  pub kind_small : p.kind < 6
  kind_small = parts_kind p (sym fine)

  pub numbers_fit : parts_fit p ≡ true
  numbers_fit = parts_fitting p (sym fine)

  pub parts_typed : type_of (header_word p 0) ≡ p.kind
  parts_typed = type_is p 0 kind_small (parts_fit_lem p numbers_fit) (lit< tt)

-- a body that is not SIZE
pub body_small : (p : Parts) (body : List ℕ) → accepted tt ≡ content_checks p body → length body ≤ 65535
unfolding content_checks
body_small p body e =
    let passed = (first_passed (content_list p body) _ tt (sym e)).0 in
    body_most p (length body) (size_for p (length body)) 65535 refl (ltb-false 65535 (size_for p (length body)) passed.1.0)

-- the steps; `small` says that the pad count fits, and `paid` that the payload is not PAD
module _ (survey : Bool) (pad : ℕ) (p : Parts) where
  pub count_fits : (fits : Bool) → fits ≡ pad_fits survey pad p → not fits ≡ false → pad_fits survey pad p ≡ true
  count_fits fits e on = sym e ∙ not-false fits on

  pub parts_refused : (body out : List ℕ) (at : ℕ) (r : Refusal) → refused (list_number r) ≡ plain_checks p
      → Meets on_paper (write_by survey pad p body out at) out (Err r) out
  parts_refused body out at r e = rw (write_groups survey pad p body out at, ← e) (record { answer = refl; buffer = refl })

  module _ (fine : accepted tt ≡ plain_checks p) where
    pub count_refused : (body out : List ℕ) (at : ℕ) (fits : Bool) → fits ≡ pad_fits survey pad p → not fits ≡ true
        → Meets on_paper (write_by survey pad p body out at) out (Err Value) out
    count_refused body out at fits e off =
        rw (write_groups survey pad p body out at, ← fine, ← e, not-true fits off) (record { answer = refl; buffer = refl })

    module _ (small : pad_fits survey pad p ≡ true) (body : List ℕ) where
      pub content_refused : (out : List ℕ) (at : ℕ) (r : Refusal) → refused (list_number r) ≡ content_checks p body
          → Meets on_paper (write_by survey pad p body out at) out (Err r) out
      content_refused out at r e = rw (write_groups survey pad p body out at, ← fine, small, ← e) (record { answer = refl; buffer = refl })

      module _ (content : accepted tt ≡ content_checks p body) where
        pub payload_refused : (out : List ℕ) (at : ℕ) (r : Refusal) → refused (list_number r) ≡ pad_checks survey pad p body
            → Meets on_paper (write_by survey pad p body out at) out (Err r) out
        payload_refused out at r e =
            rw (write_groups survey pad p body out at, ← fine, small, ← content, ← e) (record { answer = refl; buffer = refl })

        module _ (paid : accepted tt ≡ pad_checks survey pad p body) (out : List ℕ) (at size : ℕ) (s : size ≡ size_for p (length body)) where
          pub room_refused : (r : Refusal) → refused (list_number r) ≡ room_checks (length out) at size
              → Meets on_paper (write_by survey pad p body out at) out (Err r) out
          room_refused r e =
              rw (write_groups survey pad p body out at, ← fine, small, ← content, ← paid, ← s, ← e) (record { answer = refl; buffer = refl })

          pub passes : accepted tt ≡ room_checks (length out) at size → write_checks survey pad p body (length out) at ≡ accepted tt
          passes room = nothing_found survey pad p body (length out) at size (sym fine) small (sym content) (sym paid) s (sym room)

-- a packet that nothing refuses may be laid with the pad count that is written, and is then written
module _ (governed : Bool) (pad : ℕ) (p : Parts) (k : Chosen governed pad p) (body : List ℕ) where
  pub may_lay : (room at : ℕ) → write_checks governed pad p body room at ≡ accepted tt → Layable pad p body room at
  may_lay room at e = rw k.count at (layable governed pad p body room at (writable governed pad p body room at e))

  pub laid : (out : List ℕ) (at : ℕ) → write_checks governed pad p body (length out) at ≡ accepted tt → (left : List ℕ) (size : ℕ)
      → size ≡ size_for p (length body) → left ≡ take at out ++ packet_words pad p body ++ drop (at + size) out
      → Meets on_paper (write_by governed pad p body out at) out (Ok size) left
  unfolding write_by write_checks
  laid out at e left size s l =
      rw s (meets_ok (first_fine (write_list_by governed pad p body (length out) at) tt tt _ e) (rw k.count (rw s at l)))

-- ---- the choice

pub chosen_plain : (p : Parts) → Chosen false 0 p
chosen_plain p = record { choice = refl; count = refl }

pub chosen_governed : (pad : ℕ) (p : Parts) → p.kind ≡ 1 → Chosen true pad p
chosen_governed pad p k = record { choice = eq-eqb p.kind 1 k; count = rw (eq-eqb p.kind 1 k) }

-- of another type the pad count is not looked at
pub written_plain : (pad : ℕ) (p : Parts) (body out left : List ℕ) (at : ℕ) (r : Result ℕ Refusal) → (p.kind ≡ 1 → ⊥)
    → Meets on_paper (write_by false 0 p body out at) out r left → Meets on_paper (write_by true pad p body out at) out r left
unfolding write_by pad_fits
written_plain pad p body out left at r d m = rw (ne_eqb p.kind 1 d) m
