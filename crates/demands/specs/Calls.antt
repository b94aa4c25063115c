-- Every public call, with its promise. No call has a `requires`: it may be handed any words. The promise of a call that is lent nothing is `paper r ≡ want h`,
-- and that of a call that is lent words is `Meets paper (want h) (lent h) r after`, of what it is handed, h, its answer r, and the lent words afterwards; these
-- are the `ensures` of the calls, word for word.
use Rattle.std.specs.Prelude.{◌≡◌, ℕ, List, [], ◌∷◌}
use Rattle.words.specs.Listed.{on_paper}
use Rattle.words.specs.Outcome.{Reply, refused, Done, Meets}
use Rattle.words.specs.Told.{told_paper}
use Rattle.fields.specs.Answers.{found_paper}
use Rattle.fields.specs.Layout.{field_count, found_of, context_of}
use Rattle.packet.specs.declared.Parts.{Parts}
use Rattle.packet_trailer.specs.Trailer.{trailer_of, trailer_word_of}
use Rattle.packet.specs.Told.{read_told, survey_told}
use Rattle.packet_write.specs.Write.{write_of, write_survey_of}
use Rattle.payload_format.specs.Count.{needed_of}
use Rattle.payload_order.specs.declared.Coordinates.{Coordinates}
use Rattle.payload_order.specs.Numbering.{coordinates_of, item_of}
use Rattle.payload_pack.specs.Pack.{pack_of}
use Rattle.payload_format.specs.Signs.{signed_of}
use Rattle.payload_unpack.specs.Unpack.{Buffers, unpack_of}
use Rattle.table.specs.Start.{start_of}
use Rattle.table.specs.Well.{well_made}
use Rattle.play.specs.Play.{play_told}
use Rattle.play.specs.Run.{run_of}
use Rattle.page.specs.PutBack.{put_back_of}
use Rattle.page.specs.Save.{length_of, save_of}
use Rattle.index.specs.Start.{start_index_of}
use Rattle.index_grow.specs.Grow.{grow_told}
use Rattle.index_jump.specs.Jump.{jump_of}
use Rattle.panel.specs.AllReadings.{readings_of, readings_paper}
use Rattle.panel.specs.HeldWords.{held_words_of}
use Rattle.panel.specs.Readings.{reading_of, reading_paper}
use Rattle.panel_streams.specs.Identity.{identity_of, identity_paper}
use Rattle.panel_streams.specs.TypeCounts.{type_counts_of, type_counts_paper}
use Rattle.panel_streams.specs.OwnTable.{own_table_of}
use Rattle.panel_streams.specs.Changed.{changed_of}
use Rattle.vrt49.specs.Answers.{plain}

-- a call that answers alone, and one that is lent words: how its answers read on paper, what is wanted by what it is handed, and which words are lent
pub data Call : Type 1 where
  answers : {H A B : Type 0} → (A → B) → (H → B) → Call
  lends : {H R A B L : Type 0} → (A → Reply R B) → (H → Reply R (Done B L)) → (H → L) → Call

-- "gets an answer": whatever is handed in, some answer, with lent words afterwards, meets the promise
abbrev pub SomeOutcome : Call → Type 0
SomeOutcome (answers {H} {A} paper want) = (h : H) → (r : A) × (paper r ≡ want h)
SomeOutcome (lends {H} {R} {A} {B} {L} paper want lent) = (h : H) → (r : A) × (after : L) × Meets paper (want h) (lent h) r after

-- "Prove that two outcomes meeting it are equal": the answers, and the lent words afterwards
abbrev pub OneOutcome : Call → Type 0
OneOutcome (answers {H} {A} paper want) = (h : H) (r s : A) → paper r ≡ want h → paper s ≡ want h → r ≡ s
OneOutcome (lends {H} {R} {A} {B} {L} paper want lent) =
    (h : H) (r s : A) (after after' : L) → Meets paper (want h) (lent h) r after → Meets paper (want h) (lent h) s after' → (r ≡ s) × (after ≡ after')

-- "A refusal changes no word of any buffer it was lent"
abbrev pub RefusalLeaves : Call → Type 0
RefusalLeaves (answers paper want) = Unit
RefusalLeaves (lends {H} {R} {A} {B} {L} paper want lent) =
    (h : H) (r : A) (after : L) (n : R) → Meets paper (want h) (lent h) r after → paper r ≡ refused n → after ≡ lent h

-- something of each call of a list
abbrev pub Each : (Call → Type 0) → List {1} Call → Type 0
Each P [] = Unit
Each P (c ∷ cs) = P c × Each P cs

-- ---- the calls

-- fields::field_count, check_body, find
abbrev pub field_count_call : Call
field_count_call = answers plain field_count

abbrev pub check_body_call : Call
check_body_call = answers on_paper context_of

abbrev pub find_call : Call
find_call = answers found_paper (λ (h : ℕ × List ℕ). found_of h.0 h.1)

-- packet::read, read_survey, packet_write::write, write_survey, packet_trailer::trailer_parts, trailer_word
abbrev pub read_call : Call
read_call = answers told_paper read_told

abbrev pub read_survey_call : Call
read_survey_call = answers told_paper survey_told

abbrev pub write_call : Call
write_call = lends on_paper (λ (h : Parts × List ℕ × List ℕ × ℕ). write_of h.0 h.1 h.2 h.3) (λ h. h.2)

abbrev pub write_survey_call : Call
write_survey_call =
    lends on_paper (λ (h : Parts × ℕ × List ℕ × List ℕ × ℕ). write_survey_of h.1 h.0 h.2 h.3 h.4) (λ h. h.3)

abbrev pub trailer_parts_call : Call
trailer_parts_call = answers plain trailer_of

abbrev pub trailer_word_call : Call
trailer_word_call = answers on_paper (λ (h : ℕ × ℕ × ℕ × ℕ). trailer_word_of h.0 h.1 h.2 h.3)

-- payload_format::words_needed, payload_unpack::unpack, payload_pack::pack, payload_format::signed
abbrev pub words_needed_call : Call
words_needed_call = answers on_paper (λ (h : ℕ × ℕ × ℕ). needed_of h.0 h.1 h.2)

abbrev pub unpack_call : Call
unpack_call = lends on_paper (λ (h : ℕ × ℕ × ℕ × List ℕ × Buffers). unpack_of h.0 h.1 h.2 h.3 h.4) (λ h. h.4)

abbrev pub pack_call : Call
pack_call = lends on_paper (λ (h : ℕ × ℕ × List ℕ × List ℕ × List ℕ × List ℕ). pack_of h.0 h.1 h.2 h.3 h.4 h.5) (λ h. h.5)

-- payload_order::coordinates_of, item_at
abbrev pub coordinates_of_call : Call
coordinates_of_call = answers on_paper (λ (h : ℕ × ℕ × ℕ × ℕ). coordinates_of h.0 h.1 h.2 h.3)

abbrev pub item_at_call : Call
item_at_call = answers on_paper (λ (h : ℕ × ℕ × ℕ × Coordinates). item_of h.0 h.1 h.2 h.3)

abbrev pub signed_call : Call
signed_call = answers on_paper (λ (h : ℕ × ℕ). signed_of h.0 h.1)

-- table::start, well_made
abbrev pub start_call : Call
start_call = lends on_paper (λ (h : List ℕ × List ℕ × List ℕ). start_of h.0 h.1 h.2) (λ h. h.2)

abbrev pub well_made_call : Call
well_made_call = answers plain well_made

-- play::play, play_run
abbrev pub play_call : Call
play_call = lends told_paper (λ (h : List ℕ × List ℕ). play_told h.0 h.1) (λ h. h.0)

abbrev pub play_run_call : Call
play_run_call = lends on_paper (λ (h : List ℕ × List ℕ × ℕ × List ℕ). run_of h.0 h.1 h.2 h.3) (λ h. (h.0, h.3))

-- page::page_length, save, put_back
abbrev pub page_length_call : Call
page_length_call = answers on_paper length_of

abbrev pub save_call : Call
save_call = lends on_paper (λ (h : List ℕ × List ℕ). save_of h.0 h.1) (λ h. h.1)

abbrev pub put_back_call : Call
put_back_call = lends on_paper (λ (h : List ℕ × List ℕ). put_back_of h.0 h.1) (λ h. h.1)

-- index::start_index, index_grow::grow, index_jump::jump
abbrev pub start_index_call : Call
start_index_call = lends on_paper (λ (h : List ℕ × List ℕ). start_index_of h.0 h.1) (λ h. h.1)

abbrev pub grow_call : Call
grow_call = lends told_paper (λ (h : List ℕ × List ℕ × List ℕ). grow_told h.0 h.1 h.2) (λ h. (h.0, h.2))

abbrev pub jump_call : Call
jump_call = lends on_paper (λ (h : List ℕ × ℕ × List ℕ × ℕ × List ℕ). jump_of h.0 h.1 h.2 h.3 h.4) (λ h. h.4)

-- panel::reading, readings, held_words
abbrev pub reading_call : Call
reading_call = answers reading_paper (λ (h : List ℕ × ℕ × ℕ). reading_of h.0 h.1 h.2)

abbrev pub readings_call : Call
readings_call = answers readings_paper (λ (h : List ℕ × ℕ). readings_of h.0 h.1)

abbrev pub held_words_call : Call
held_words_call = lends on_paper (λ (h : List ℕ × ℕ × ℕ × List ℕ). held_words_of h.0 h.1 h.2 h.3) (λ h. h.3)

-- panel_streams::identity, counts, own_table, changed
abbrev pub identity_call : Call
identity_call = answers identity_paper (λ (h : List ℕ × ℕ). identity_of h.0 h.1)

abbrev pub counts_call : Call
counts_call = answers type_counts_paper (λ (h : List ℕ × ℕ × ℕ). type_counts_of h.0 h.1 h.2)

abbrev pub own_table_call : Call
own_table_call = lends on_paper (λ (h : List ℕ × ℕ × List ℕ). own_table_of h.0 h.1 h.2) (λ h. h.2)

abbrev pub changed_call : Call
changed_call = answers on_paper (λ (h : List ℕ × ℕ × List ℕ × ℕ). changed_of h.0 h.1 h.2 h.3)

unfoldable pub calls : List {1} Call
calls =
    field_count_call ∷ check_body_call ∷ find_call
    ∷ read_call ∷ read_survey_call ∷ write_call ∷ write_survey_call ∷ trailer_parts_call ∷ trailer_word_call
    ∷ words_needed_call ∷ unpack_call ∷ pack_call ∷ coordinates_of_call ∷ item_at_call ∷ signed_call
    ∷ start_call ∷ well_made_call ∷ play_call ∷ play_run_call
    ∷ page_length_call ∷ save_call ∷ put_back_call ∷ start_index_call ∷ grow_call ∷ jump_call ∷ reading_call ∷ readings_call ∷ held_words_call
    ∷ identity_call ∷ counts_call ∷ own_table_call ∷ changed_call ∷ []
