-- The list of calls for C is tied to its sources, as that of the calls inside: no function asks anything, and each promise is its own. That the code
-- returns and keeps it say the theorems `..-kept`.
use Rattle.words.proofs.Kit.{refl}
use Rattle.vrt49.proofs.vrt49_read.Statement as read
use Rattle.vrt49.proofs.vrt49_read.Met as read_met
use Rattle.vrt49.proofs.vrt49_read_survey.Statement as read_survey
use Rattle.vrt49.proofs.vrt49_read_survey.Met as read_survey_met
use Rattle.vrt49.proofs.vrt49_write.Statement as write
use Rattle.vrt49.proofs.vrt49_write.Met as write_met
use Rattle.vrt49.proofs.vrt49_write_survey.Statement as write_survey
use Rattle.vrt49.proofs.vrt49_write_survey.Met as write_survey_met
use Rattle.vrt49.proofs.vrt49_trailer_parts.Statement as trailer_parts
use Rattle.vrt49.proofs.vrt49_trailer_parts.Met as trailer_parts_met
use Rattle.vrt49.proofs.vrt49_trailer_word.Statement as trailer_word
use Rattle.vrt49.proofs.vrt49_trailer_word.Met as trailer_word_met
use Rattle.vrt49.proofs.vrt49_field_count.Statement as field_count
use Rattle.vrt49.proofs.vrt49_field_count.Met as field_count_met
use Rattle.vrt49.proofs.vrt49_check_body.Statement as check_body
use Rattle.vrt49.proofs.vrt49_check_body.Met as check_body_met
use Rattle.vrt49.proofs.vrt49_find.Statement as find
use Rattle.vrt49.proofs.vrt49_find.Met as find_met
use Rattle.vrt49.proofs.vrt49_unpack.Statement as unpack
use Rattle.vrt49.proofs.vrt49_unpack.Met as unpack_met
use Rattle.vrt49.proofs.vrt49_pack.Statement as pack
use Rattle.vrt49.proofs.vrt49_pack.Met as pack_met
use Rattle.vrt49.proofs.vrt49_words_needed.Statement as words_needed
use Rattle.vrt49.proofs.vrt49_words_needed.Met as words_needed_met
use Rattle.vrt49.proofs.vrt49_coordinates_of.Statement as coordinates_of
use Rattle.vrt49.proofs.vrt49_coordinates_of.Met as coordinates_of_met
use Rattle.vrt49.proofs.vrt49_item_at.Statement as item_at
use Rattle.vrt49.proofs.vrt49_item_at.Met as item_at_met
use Rattle.vrt49.proofs.vrt49_signed.Statement as signed
use Rattle.vrt49.proofs.vrt49_signed.Met as signed_met
use Rattle.vrt49.proofs.vrt49_start.Statement as start
use Rattle.vrt49.proofs.vrt49_start.Met as start_met
use Rattle.vrt49.proofs.vrt49_well_made.Statement as well_made
use Rattle.vrt49.proofs.vrt49_well_made.Met as well_made_met
use Rattle.vrt49.proofs.vrt49_play.Statement as play
use Rattle.vrt49.proofs.vrt49_play.Met as play_met
use Rattle.vrt49.proofs.vrt49_play_run.Statement as play_run
use Rattle.vrt49.proofs.vrt49_play_run.Met as play_run_met
use Rattle.vrt49.proofs.vrt49_page_length.Statement as page_length
use Rattle.vrt49.proofs.vrt49_page_length.Met as page_length_met
use Rattle.vrt49.proofs.vrt49_save.Statement as save
use Rattle.vrt49.proofs.vrt49_save.Met as save_met
use Rattle.vrt49.proofs.vrt49_put_back.Statement as put_back
use Rattle.vrt49.proofs.vrt49_put_back.Met as put_back_met
use Rattle.vrt49.proofs.vrt49_start_index.Statement as start_index
use Rattle.vrt49.proofs.vrt49_start_index.Met as start_index_met
use Rattle.vrt49.proofs.vrt49_grow.Statement as grow
use Rattle.vrt49.proofs.vrt49_grow.Met as grow_met
use Rattle.vrt49.proofs.vrt49_jump.Statement as jump
use Rattle.vrt49.proofs.vrt49_jump.Met as jump_met
use Rattle.vrt49.proofs.vrt49_reading.Statement as reading
use Rattle.vrt49.proofs.vrt49_reading.Met as reading_met
use Rattle.vrt49.proofs.vrt49_readings.Statement as readings
use Rattle.vrt49.proofs.vrt49_readings.Met as readings_met
use Rattle.vrt49.proofs.vrt49_held_words.Statement as held_words
use Rattle.vrt49.proofs.vrt49_held_words.Met as held_words_met
use Rattle.vrt49.proofs.vrt49_identity.Statement as identity
use Rattle.vrt49.proofs.vrt49_identity.Met as identity_met
use Rattle.vrt49.proofs.vrt49_counts.Statement as counts
use Rattle.vrt49.proofs.vrt49_counts.Met as counts_met
use Rattle.vrt49.proofs.vrt49_own_table.Statement as own_table
use Rattle.vrt49.proofs.vrt49_own_table.Met as own_table_met
use Rattle.vrt49.proofs.vrt49_changed.Statement as changed
use Rattle.vrt49.proofs.vrt49_changed.Met as changed_met
use Rattle.demands.specs.SourcesForC.{SourcesForC}

pub sources_for_c : SourcesForC
sources_for_c = record {
  read = (λ κs a. tt, λ κs a z ws. refl);
  read_survey = (λ κs a. tt, λ κs a z ws. refl);
  write = (λ κs a. tt, λ κs a z ws. refl);
  write_survey = (λ κs a. tt, λ κs a z ws. refl);
  trailer_parts = (λ κs a. tt, λ κs a z ws. refl);
  trailer_word = (λ κs a. tt, λ κs a z ws. refl);
  field_count = (λ κs a. tt, λ κs a z ws. refl);
  check_body = (λ κs a. tt, λ κs a z ws. refl);
  find = (λ κs a. tt, λ κs a z ws. refl);
  unpack = (λ κs a. tt, λ κs a z ws. refl);
  pack = (λ κs a. tt, λ κs a z ws. refl);
  words_needed = (λ κs a. tt, λ κs a z ws. refl);
  coordinates_of = (λ κs a. tt, λ κs a z ws. refl);
  item_at = (λ κs a. tt, λ κs a z ws. refl);
  signed = (λ κs a. tt, λ κs a z ws. refl);
  start = (λ κs a. tt, λ κs a z ws. refl);
  well_made = (λ κs a. tt, λ κs a z ws. refl);
  play = (λ κs a. tt, λ κs a z ws. refl);
  play_run = (λ κs a. tt, λ κs a z ws. refl);
  page_length = (λ κs a. tt, λ κs a z ws. refl);
  save = (λ κs a. tt, λ κs a z ws. refl);
  put_back = (λ κs a. tt, λ κs a z ws. refl);
  start_index = (λ κs a. tt, λ κs a z ws. refl);
  grow = (λ κs a. tt, λ κs a z ws. refl);
  jump = (λ κs a. tt, λ κs a z ws. refl);
  reading = (λ κs a. tt, λ κs a z ws. refl);
  readings = (λ κs a. tt, λ κs a z ws. refl);
  held_words = (λ κs a. tt, λ κs a z ws. refl);
  identity = (λ κs a. tt, λ κs a z ws. refl);
  counts = (λ κs a. tt, λ κs a z ws. refl);
  own_table = (λ κs a. tt, λ κs a z ws. refl);
  changed = (λ κs a. tt, λ κs a z ws. refl);
}

-- ---- the code keeps its promises

pub for_c_read_kept : {M : Type 1} → read.statement M
for_c_read_kept = read_met.met

pub for_c_read_survey_kept : {M : Type 1} → read_survey.statement M
for_c_read_survey_kept = read_survey_met.met

pub for_c_write_kept : {M : Type 1} → write.statement M
for_c_write_kept = write_met.met

pub for_c_write_survey_kept : {M : Type 1} → write_survey.statement M
for_c_write_survey_kept = write_survey_met.met

pub for_c_trailer_parts_kept : {M : Type 1} → trailer_parts.statement M
for_c_trailer_parts_kept = trailer_parts_met.met

pub for_c_trailer_word_kept : {M : Type 1} → trailer_word.statement M
for_c_trailer_word_kept = trailer_word_met.met

pub for_c_field_count_kept : {M : Type 1} → field_count.statement M
for_c_field_count_kept = field_count_met.met

pub for_c_check_body_kept : {M : Type 1} → check_body.statement M
for_c_check_body_kept = check_body_met.met

pub for_c_find_kept : {M : Type 1} → find.statement M
for_c_find_kept = find_met.met

pub for_c_unpack_kept : {M : Type 1} → unpack.statement M
for_c_unpack_kept = unpack_met.met

pub for_c_pack_kept : {M : Type 1} → pack.statement M
for_c_pack_kept = pack_met.met

pub for_c_words_needed_kept : {M : Type 1} → words_needed.statement M
for_c_words_needed_kept = words_needed_met.met

pub for_c_coordinates_of_kept : {M : Type 1} → coordinates_of.statement M
for_c_coordinates_of_kept = coordinates_of_met.met

pub for_c_item_at_kept : {M : Type 1} → item_at.statement M
for_c_item_at_kept = item_at_met.met

pub for_c_signed_kept : {M : Type 1} → signed.statement M
for_c_signed_kept = signed_met.met

pub for_c_start_kept : {M : Type 1} → start.statement M
for_c_start_kept = start_met.met

pub for_c_well_made_kept : {M : Type 1} → well_made.statement M
for_c_well_made_kept = well_made_met.met

pub for_c_play_kept : {M : Type 1} → play.statement M
for_c_play_kept = play_met.met

pub for_c_play_run_kept : {M : Type 1} → play_run.statement M
for_c_play_run_kept = play_run_met.met

pub for_c_page_length_kept : {M : Type 1} → page_length.statement M
for_c_page_length_kept = page_length_met.met

pub for_c_save_kept : {M : Type 1} → save.statement M
for_c_save_kept = save_met.met

pub for_c_put_back_kept : {M : Type 1} → put_back.statement M
for_c_put_back_kept = put_back_met.met

pub for_c_start_index_kept : {M : Type 1} → start_index.statement M
for_c_start_index_kept = start_index_met.met

pub for_c_grow_kept : {M : Type 1} → grow.statement M
for_c_grow_kept = grow_met.met

pub for_c_jump_kept : {M : Type 1} → jump.statement M
for_c_jump_kept = jump_met.met

pub for_c_reading_kept : {M : Type 1} → reading.statement M
for_c_reading_kept = reading_met.met

pub for_c_readings_kept : {M : Type 1} → readings.statement M
for_c_readings_kept = readings_met.met

pub for_c_held_words_kept : {M : Type 1} → held_words.statement M
for_c_held_words_kept = held_words_met.met

pub for_c_identity_kept : {M : Type 1} → identity.statement M
for_c_identity_kept = identity_met.met

pub for_c_counts_kept : {M : Type 1} → counts.statement M
for_c_counts_kept = counts_met.met

pub for_c_own_table_kept : {M : Type 1} → own_table.statement M
for_c_own_table_kept = own_table_met.met

pub for_c_changed_kept : {M : Type 1} → changed.statement M
for_c_changed_kept = changed_met.met
