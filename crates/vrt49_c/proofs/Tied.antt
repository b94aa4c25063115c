-- Each export asks of a caller what the function of its name in `vrt49` asks, which is nothing, and a caller learns from it what that function tells: the
-- statements that the prover has of the two from their clauses are the same. So what crate `demands` says of the calls for C holds of the exports.
use Rattle.std.proofs.Common.{◌≡◌, ℕ, List, refl}
use borrow.Fn.Kinds.{ParamKind, ResultKind, In, Out}
use Rattle.vrt49.proofs.vrt49_read.Kinds as read_kinds
use Rattle.vrt49.proofs.vrt49_read.Reads as read
use Rattle.vrt49_c.proofs.packets.vrt49_read.Reads as read_export
use Rattle.vrt49.proofs.vrt49_read_survey.Kinds as read_survey_kinds
use Rattle.vrt49.proofs.vrt49_read_survey.Reads as read_survey
use Rattle.vrt49_c.proofs.packets.vrt49_read_survey.Reads as read_survey_export
use Rattle.vrt49.proofs.vrt49_write.Kinds as write_kinds
use Rattle.vrt49.proofs.vrt49_write.Reads as write
use Rattle.vrt49_c.proofs.packets.vrt49_write.Reads as write_export
use Rattle.vrt49.proofs.vrt49_write_survey.Kinds as write_survey_kinds
use Rattle.vrt49.proofs.vrt49_write_survey.Reads as write_survey
use Rattle.vrt49_c.proofs.packets.vrt49_write_survey.Reads as write_survey_export
use Rattle.vrt49.proofs.vrt49_trailer_parts.Kinds as trailer_parts_kinds
use Rattle.vrt49.proofs.vrt49_trailer_parts.Reads as trailer_parts
use Rattle.vrt49_c.proofs.packets.vrt49_trailer_parts.Reads as trailer_parts_export
use Rattle.vrt49.proofs.vrt49_trailer_word.Kinds as trailer_word_kinds
use Rattle.vrt49.proofs.vrt49_trailer_word.Reads as trailer_word
use Rattle.vrt49_c.proofs.packets.vrt49_trailer_word.Reads as trailer_word_export
use Rattle.vrt49.proofs.vrt49_field_count.Kinds as field_count_kinds
use Rattle.vrt49.proofs.vrt49_field_count.Reads as field_count
use Rattle.vrt49_c.proofs.packets.vrt49_field_count.Reads as field_count_export
use Rattle.vrt49.proofs.vrt49_check_body.Kinds as check_body_kinds
use Rattle.vrt49.proofs.vrt49_check_body.Reads as check_body
use Rattle.vrt49_c.proofs.packets.vrt49_check_body.Reads as check_body_export
use Rattle.vrt49.proofs.vrt49_find.Kinds as find_kinds
use Rattle.vrt49.proofs.vrt49_find.Reads as find
use Rattle.vrt49_c.proofs.packets.vrt49_find.Reads as find_export
use Rattle.vrt49.proofs.vrt49_unpack.Kinds as unpack_kinds
use Rattle.vrt49.proofs.vrt49_unpack.Reads as unpack
use Rattle.vrt49_c.proofs.payloads.vrt49_unpack.Reads as unpack_export
use Rattle.vrt49.proofs.vrt49_pack.Kinds as pack_kinds
use Rattle.vrt49.proofs.vrt49_pack.Reads as pack
use Rattle.vrt49_c.proofs.payloads.vrt49_pack.Reads as pack_export
use Rattle.vrt49.proofs.vrt49_words_needed.Kinds as words_needed_kinds
use Rattle.vrt49.proofs.vrt49_words_needed.Reads as words_needed
use Rattle.vrt49_c.proofs.payloads.vrt49_words_needed.Reads as words_needed_export
use Rattle.vrt49.proofs.vrt49_coordinates_of.Kinds as coordinates_of_kinds
use Rattle.vrt49.proofs.vrt49_coordinates_of.Reads as coordinates_of
use Rattle.vrt49_c.proofs.payloads.vrt49_coordinates_of.Reads as coordinates_of_export
use Rattle.vrt49.proofs.vrt49_item_at.Kinds as item_at_kinds
use Rattle.vrt49.proofs.vrt49_item_at.Reads as item_at
use Rattle.vrt49_c.proofs.payloads.vrt49_item_at.Reads as item_at_export
use Rattle.vrt49.proofs.vrt49_signed.Kinds as signed_kinds
use Rattle.vrt49.proofs.vrt49_signed.Reads as signed
use Rattle.vrt49_c.proofs.payloads.vrt49_signed.Reads as signed_export
use Rattle.vrt49.proofs.vrt49_start.Kinds as start_kinds
use Rattle.vrt49.proofs.vrt49_start.Reads as start
use Rattle.vrt49_c.proofs.tables.vrt49_start.Reads as start_export
use Rattle.vrt49.proofs.vrt49_well_made.Kinds as well_made_kinds
use Rattle.vrt49.proofs.vrt49_well_made.Reads as well_made
use Rattle.vrt49_c.proofs.tables.vrt49_well_made.Reads as well_made_export
use Rattle.vrt49.proofs.vrt49_play.Kinds as play_kinds
use Rattle.vrt49.proofs.vrt49_play.Reads as play
use Rattle.vrt49_c.proofs.tables.vrt49_play.Reads as play_export
use Rattle.vrt49.proofs.vrt49_play_run.Kinds as play_run_kinds
use Rattle.vrt49.proofs.vrt49_play_run.Reads as play_run
use Rattle.vrt49_c.proofs.tables.vrt49_play_run.Reads as play_run_export
use Rattle.vrt49.proofs.vrt49_page_length.Kinds as page_length_kinds
use Rattle.vrt49.proofs.vrt49_page_length.Reads as page_length
use Rattle.vrt49_c.proofs.pages.vrt49_page_length.Reads as page_length_export
use Rattle.vrt49.proofs.vrt49_save.Kinds as save_kinds
use Rattle.vrt49.proofs.vrt49_save.Reads as save
use Rattle.vrt49_c.proofs.pages.vrt49_save.Reads as save_export
use Rattle.vrt49.proofs.vrt49_put_back.Kinds as put_back_kinds
use Rattle.vrt49.proofs.vrt49_put_back.Reads as put_back
use Rattle.vrt49_c.proofs.pages.vrt49_put_back.Reads as put_back_export
use Rattle.vrt49.proofs.vrt49_start_index.Kinds as start_index_kinds
use Rattle.vrt49.proofs.vrt49_start_index.Reads as start_index
use Rattle.vrt49_c.proofs.indexes.vrt49_start_index.Reads as start_index_export
use Rattle.vrt49.proofs.vrt49_grow.Kinds as grow_kinds
use Rattle.vrt49.proofs.vrt49_grow.Reads as grow
use Rattle.vrt49_c.proofs.indexes.vrt49_grow.Reads as grow_export
use Rattle.vrt49.proofs.vrt49_jump.Kinds as jump_kinds
use Rattle.vrt49.proofs.vrt49_jump.Reads as jump
use Rattle.vrt49_c.proofs.indexes.vrt49_jump.Reads as jump_export
use Rattle.vrt49.proofs.vrt49_reading.Kinds as reading_kinds
use Rattle.vrt49.proofs.vrt49_reading.Reads as reading
use Rattle.vrt49_c.proofs.readings.vrt49_reading.Reads as reading_export
use Rattle.vrt49.proofs.vrt49_readings.Kinds as readings_kinds
use Rattle.vrt49.proofs.vrt49_readings.Reads as readings
use Rattle.vrt49_c.proofs.readings.vrt49_readings.Reads as readings_export
use Rattle.vrt49.proofs.vrt49_held_words.Kinds as held_words_kinds
use Rattle.vrt49.proofs.vrt49_held_words.Reads as held_words
use Rattle.vrt49_c.proofs.readings.vrt49_held_words.Reads as held_words_export
use Rattle.vrt49.proofs.vrt49_identity.Kinds as identity_kinds
use Rattle.vrt49.proofs.vrt49_identity.Reads as identity
use Rattle.vrt49_c.proofs.streams.vrt49_identity.Reads as identity_export
use Rattle.vrt49.proofs.vrt49_counts.Kinds as counts_kinds
use Rattle.vrt49.proofs.vrt49_counts.Reads as counts
use Rattle.vrt49_c.proofs.streams.vrt49_counts.Reads as counts_export
use Rattle.vrt49.proofs.vrt49_own_table.Kinds as own_table_kinds
use Rattle.vrt49.proofs.vrt49_own_table.Reads as own_table
use Rattle.vrt49_c.proofs.streams.vrt49_own_table.Reads as own_table_export
use Rattle.vrt49.proofs.vrt49_changed.Kinds as changed_kinds
use Rattle.vrt49.proofs.vrt49_changed.Reads as changed
use Rattle.vrt49_c.proofs.streams.vrt49_changed.Reads as changed_export

-- two functions of these parameters and this result ask the same, and tell the same
abbrev Same : {n : ℕ} (ps : List (ParamKind n)) (r : ResultKind n) → In n ps → In n ps → Out n ps r → Out n ps r → Type 1
Same ps r asked other learnt told = (asked ≡ other) × (learnt ≡ told)

pub read_tied : Same read_kinds.ps read_kinds.r read_export.Asked read.Asked read_export.Learnt read.Learnt
read_tied = (refl, refl)

pub read_survey_tied : Same read_survey_kinds.ps read_survey_kinds.r read_survey_export.Asked read_survey.Asked read_survey_export.Learnt read_survey.Learnt
read_survey_tied = (refl, refl)

pub write_tied : Same write_kinds.ps write_kinds.r write_export.Asked write.Asked write_export.Learnt write.Learnt
write_tied = (refl, refl)

pub write_survey_tied : Same write_survey_kinds.ps write_survey_kinds.r write_survey_export.Asked write_survey.Asked
    write_survey_export.Learnt write_survey.Learnt
write_survey_tied = (refl, refl)

pub trailer_parts_tied : Same trailer_parts_kinds.ps trailer_parts_kinds.r trailer_parts_export.Asked trailer_parts.Asked
    trailer_parts_export.Learnt trailer_parts.Learnt
trailer_parts_tied = (refl, refl)

pub trailer_word_tied : Same trailer_word_kinds.ps trailer_word_kinds.r trailer_word_export.Asked trailer_word.Asked
    trailer_word_export.Learnt trailer_word.Learnt
trailer_word_tied = (refl, refl)

pub field_count_tied : Same field_count_kinds.ps field_count_kinds.r field_count_export.Asked field_count.Asked field_count_export.Learnt field_count.Learnt
field_count_tied = (refl, refl)

pub check_body_tied : Same check_body_kinds.ps check_body_kinds.r check_body_export.Asked check_body.Asked check_body_export.Learnt check_body.Learnt
check_body_tied = (refl, refl)

pub find_tied : Same find_kinds.ps find_kinds.r find_export.Asked find.Asked find_export.Learnt find.Learnt
find_tied = (refl, refl)

pub unpack_tied : Same unpack_kinds.ps unpack_kinds.r unpack_export.Asked unpack.Asked unpack_export.Learnt unpack.Learnt
unpack_tied = (refl, refl)

pub pack_tied : Same pack_kinds.ps pack_kinds.r pack_export.Asked pack.Asked pack_export.Learnt pack.Learnt
pack_tied = (refl, refl)

pub words_needed_tied : Same words_needed_kinds.ps words_needed_kinds.r words_needed_export.Asked words_needed.Asked
    words_needed_export.Learnt words_needed.Learnt
words_needed_tied = (refl, refl)

pub coordinates_of_tied : Same coordinates_of_kinds.ps coordinates_of_kinds.r coordinates_of_export.Asked coordinates_of.Asked
    coordinates_of_export.Learnt coordinates_of.Learnt
coordinates_of_tied = (refl, refl)

pub item_at_tied : Same item_at_kinds.ps item_at_kinds.r item_at_export.Asked item_at.Asked item_at_export.Learnt item_at.Learnt
item_at_tied = (refl, refl)

pub signed_tied : Same signed_kinds.ps signed_kinds.r signed_export.Asked signed.Asked signed_export.Learnt signed.Learnt
signed_tied = (refl, refl)

pub start_tied : Same start_kinds.ps start_kinds.r start_export.Asked start.Asked start_export.Learnt start.Learnt
start_tied = (refl, refl)

pub well_made_tied : Same well_made_kinds.ps well_made_kinds.r well_made_export.Asked well_made.Asked well_made_export.Learnt well_made.Learnt
well_made_tied = (refl, refl)

pub play_tied : Same play_kinds.ps play_kinds.r play_export.Asked play.Asked play_export.Learnt play.Learnt
play_tied = (refl, refl)

pub play_run_tied : Same play_run_kinds.ps play_run_kinds.r play_run_export.Asked play_run.Asked play_run_export.Learnt play_run.Learnt
play_run_tied = (refl, refl)

pub page_length_tied : Same page_length_kinds.ps page_length_kinds.r page_length_export.Asked page_length.Asked page_length_export.Learnt page_length.Learnt
page_length_tied = (refl, refl)

pub save_tied : Same save_kinds.ps save_kinds.r save_export.Asked save.Asked save_export.Learnt save.Learnt
save_tied = (refl, refl)

pub put_back_tied : Same put_back_kinds.ps put_back_kinds.r put_back_export.Asked put_back.Asked put_back_export.Learnt put_back.Learnt
put_back_tied = (refl, refl)

pub start_index_tied : Same start_index_kinds.ps start_index_kinds.r start_index_export.Asked start_index.Asked start_index_export.Learnt start_index.Learnt
start_index_tied = (refl, refl)

pub grow_tied : Same grow_kinds.ps grow_kinds.r grow_export.Asked grow.Asked grow_export.Learnt grow.Learnt
grow_tied = (refl, refl)

pub jump_tied : Same jump_kinds.ps jump_kinds.r jump_export.Asked jump.Asked jump_export.Learnt jump.Learnt
jump_tied = (refl, refl)

pub reading_tied : Same reading_kinds.ps reading_kinds.r reading_export.Asked reading.Asked reading_export.Learnt reading.Learnt
reading_tied = (refl, refl)

pub readings_tied : Same readings_kinds.ps readings_kinds.r readings_export.Asked readings.Asked readings_export.Learnt readings.Learnt
readings_tied = (refl, refl)

pub held_words_tied : Same held_words_kinds.ps held_words_kinds.r held_words_export.Asked held_words.Asked held_words_export.Learnt held_words.Learnt
held_words_tied = (refl, refl)

pub identity_tied : Same identity_kinds.ps identity_kinds.r identity_export.Asked identity.Asked identity_export.Learnt identity.Learnt
identity_tied = (refl, refl)

pub counts_tied : Same counts_kinds.ps counts_kinds.r counts_export.Asked counts.Asked counts_export.Learnt counts.Learnt
counts_tied = (refl, refl)

pub own_table_tied : Same own_table_kinds.ps own_table_kinds.r own_table_export.Asked own_table.Asked own_table_export.Learnt own_table.Learnt
own_table_tied = (refl, refl)

pub changed_tied : Same changed_kinds.ps changed_kinds.r changed_export.Asked changed.Asked changed_export.Learnt changed.Learnt
changed_tied = (refl, refl)
