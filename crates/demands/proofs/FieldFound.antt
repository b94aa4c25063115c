-- What `find` gives of an accepted Context packet. The idea: its body is whole (`context_fits`), so every carried field lies inside and is found
-- (`field_inside`, `field_found`); for another bit one of the tests of `found_of` fails.
use Rattle.words.proofs.Kit.{◌≡◌, true, false, ⊎_elim, List, [], ◌∷◌, ℕ, ◌+◌, ◌≤◌, ◌<◌, arith, le-ltb, lt-ltb, le-leb, leb, length}
use borrow.Author.Tests.{leb-true}
use Rattle.words.specs.Tests.{both}
use Rattle.words.specs.Word.{has}
use Rattle.words.specs.Part.{part}
use Rattle.words.specs.Outcome.{accepted}
use Rattle.words.proofs.Cases.{le_or_lt, both_left, both_right}
use Rattle.fields.specs.Sizes.{words_of}
use Rattle.fields.specs.Layout.{indicator_of, place_of, field_of, found_of}
use Rattle.fields.proofs.BodyLaws.{Sound, context_fits, from_field, field_inside, field_found, field_length}
use Rattle.packet.specs.declared.Packet.{Packet}
use Rattle.packet.specs.Told.{read_told}
use Rattle.packet.proofs.ReadLaws.{body_context}
use Rattle.packet.proofs.ToldLaws.{told_packet}
use Rattle.demands.specs.Program.{ours}
use Rattle.demands.specs.FieldFound.{carries_field, FieldFound}

-- a bit that the indicator has not, or that has no field
none_found : (b : ℕ) (body : List ℕ) → carries_field b body ≡ false → found_of b body ≡ []
unfolding found_of
none_found b body e =
    ⊎_elim
    (λ (low : 8 ≤ b).
    ⊎_elim
    (λ (high : b ≤ 30).
    let no : has (indicator_of body) b ≡ false = rw (le-leb 8 b low, le-leb b 30 high) at e in
    rw (le-ltb 30 b high, le-ltb b 8 low, no))
    (λ (high : 30 < b). rw (lt-ltb 30 b high)) (le_or_lt b 30))
    (λ (low : b < 8). rw (le-ltb 30 b (omega arith), lt-ltb b 8 low)) (le_or_lt 8 b)

module _ (b : ℕ) (body : List ℕ) (fine : Sound body) (c : carries_field b body ≡ true) where
  low : 8 ≤ b
  low = leb-true 8 b (both_left (leb 8 b) (leb b 30) (both_left (both (leb 8 b) (leb b 30)) (has (indicator_of body) b) c))

  high : b < 31
  high = let h = leb-true b 30 (both_right (leb 8 b) (leb b 30) (both_left (both (leb 8 b) (leb b 30)) (has (indicator_of body) b) c)) in omega (arith, h)

  set : has (indicator_of body) b ≡ true
  set = both_right (both (leb 8 b) (leb b 30)) (has (indicator_of body) b) c

  sized : length (field_of b body) ≡ words_of b (from_field b body)
  sized = field_length b body high set fine

  carried_found : found_of b body ≡ place_of b body ∷ length (field_of b body) ∷ []
  carried_found = rw sized (field_found b body high set fine low)

  carried_inside : place_of b body + length (field_of b body) ≤ length body
  carried_inside = rw sized (field_inside b body high set fine)

  carried_words : part (place_of b body) (length (field_of b body)) body ≡ field_of b body
  unfolding part field_of
  carried_words = rw sized

pub fields_found : (ws : List ℕ) (p : Packet) → read_told ws ≡ accepted p → p.parts.kind ≡ 4 → (b : ℕ) → FieldFound ours b (part p.place p.length ws)
fields_found ws p e k b =
    let body : List ℕ = part p.place p.length ws in
    let fine : Sound body = context_fits body (body_context false ws p (told_packet ws p e) k) in
    record {
      carried = carried_found b body fine;
      inside = carried_inside b body fine;
      words = carried_words b body fine;
      absent = none_found b body;
    }
