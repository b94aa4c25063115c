-- The list of calls is tied to its sources: each promise is the function's own, word for word, and no function asks anything (`sources`); and the code of each
-- meets its contract, so it returns, and what it answers and leaves is as promised (`..-kept`).
use Rattle.words.proofs.Kit.{refl}
use Rattle.fields.proofs.field_count.Statement as field_count
use Rattle.fields.proofs.field_count.Met as field_count_met
use Rattle.fields.proofs.check_body.Statement as check_body
use Rattle.fields.proofs.check_body.Met as check_body_met
use Rattle.fields.proofs.find.Statement as find
use Rattle.fields.proofs.find.Met as find_met
use Rattle.packet.proofs.read.Statement as read
use Rattle.packet.proofs.read.Met as read_met
use Rattle.packet.proofs.read_survey.Statement as read_survey
use Rattle.packet.proofs.read_survey.Met as read_survey_met
use Rattle.packet_write.proofs.write.Statement as write
use Rattle.packet_write.proofs.write.Met as write_met
use Rattle.packet_write.proofs.write_survey.Statement as write_survey
use Rattle.packet_write.proofs.write_survey.Met as write_survey_met
use Rattle.packet_trailer.proofs.trailer_parts.Statement as trailer_parts
use Rattle.packet_trailer.proofs.trailer_parts.Met as trailer_parts_met
use Rattle.packet_trailer.proofs.trailer_word.Statement as trailer_word
use Rattle.packet_trailer.proofs.trailer_word.Met as trailer_word_met
use Rattle.payload_format.proofs.words_needed.Statement as words_needed
use Rattle.payload_format.proofs.words_needed.Met as words_needed_met
use Rattle.payload_unpack.proofs.unpack.Statement as unpack
use Rattle.payload_unpack.proofs.unpack.Met as unpack_met
use Rattle.payload_pack.proofs.pack.Statement as pack
use Rattle.payload_pack.proofs.pack.Met as pack_met
use Rattle.payload_order.proofs.coordinates_of.Statement as coordinates_of
use Rattle.payload_order.proofs.coordinates_of.Met as coordinates_of_met
use Rattle.payload_order.proofs.item_at.Statement as item_at
use Rattle.payload_order.proofs.item_at.Met as item_at_met
use Rattle.payload_format.proofs.signed.Statement as signed
use Rattle.payload_format.proofs.signed.Met as signed_met
use Rattle.table.proofs.start.Statement as start
use Rattle.table.proofs.start.Met as start_met
use Rattle.table.proofs.well_made.Statement as well_made
use Rattle.table.proofs.well_made.Met as well_made_met
use Rattle.play.proofs.play.Statement as play
use Rattle.play.proofs.play.Met as play_met
use Rattle.play.proofs.play_run.Statement as play_run
use Rattle.play.proofs.play_run.Met as play_run_met
use Rattle.page.proofs.page_length.Statement as page_length
use Rattle.page.proofs.page_length.Met as page_length_met
use Rattle.page.proofs.save.Statement as save
use Rattle.page.proofs.save.Met as save_met
use Rattle.page.proofs.put_back.Statement as put_back
use Rattle.page.proofs.put_back.Met as put_back_met
use Rattle.index.proofs.start_index.Statement as start_index
use Rattle.index.proofs.start_index.Met as start_index_met
use Rattle.index_grow.proofs.grow.Statement as grow
use Rattle.index_grow.proofs.grow.Met as grow_met
use Rattle.index_jump.proofs.jump.Statement as jump
use Rattle.index_jump.proofs.jump.Met as jump_met
use Rattle.panel.proofs.reading.Statement as reading
use Rattle.panel.proofs.reading.Met as reading_met
use Rattle.panel.proofs.readings.Statement as readings
use Rattle.panel.proofs.readings.Met as readings_met
use Rattle.panel.proofs.held_words.Statement as held_words
use Rattle.panel.proofs.held_words.Met as held_words_met
use Rattle.panel_streams.proofs.identity.Statement as identity
use Rattle.panel_streams.proofs.identity.Met as identity_met
use Rattle.panel_streams.proofs.counts.Statement as counts
use Rattle.panel_streams.proofs.counts.Met as counts_met
use Rattle.panel_streams.proofs.own_table.Statement as own_table
use Rattle.panel_streams.proofs.own_table.Met as own_table_met
use Rattle.panel_streams.proofs.changed.Statement as changed
use Rattle.panel_streams.proofs.changed.Met as changed_met
use Rattle.demands.specs.Sources.{Sources}

pub sources : Sources
sources = record {
  field_count = (λ κs a. tt, λ κs a z ws. refl);
  check_body = (λ κs a. tt, λ κs a z ws. refl);
  find = (λ κs a. tt, λ κs a z ws. refl);
  read = (λ κs a. tt, λ κs a z ws. refl);
  read_survey = (λ κs a. tt, λ κs a z ws. refl);
  write = (λ κs a. tt, λ κs a z ws. refl);
  write_survey = (λ κs a. tt, λ κs a z ws. refl);
  trailer_parts = (λ κs a. tt, λ κs a z ws. refl);
  trailer_word = (λ κs a. tt, λ κs a z ws. refl);
  words_needed = (λ κs a. tt, λ κs a z ws. refl);
  unpack = (λ κs a. tt, λ κs a z ws. refl);
  pack = (λ κs a. tt, λ κs a z ws. refl);
  coordinates_of = (λ κs a. tt, λ κs a z ws. refl);
  item_at = (λ κs a. tt, λ κs a z ws. refl);
  signed = (λ κs a. tt, λ κs a z ws. refl);
  start = (λ κs a. tt, λ κs a z ws. refl);
  well_made = (λ κs a. tt, λ κs a z ws. refl);
  play = (λ κs a. tt, λ κs a z ws. refl);
  play_run = (λ κs a. tt, λ κs a z ws. refl);
  page_length = (λ κs a. tt, λ κs a z ws. refl);
  save = (λ κs a. tt, λ κs a z ws. refl);
  put_back = (λ κs a. tt, λ κs a z ws. refl);
  start_index = (λ κs a. tt, λ κs a z ws. refl);
  grow = (λ κs a. tt, λ κs a z ws. refl);
  jump = (λ κs a. tt, λ κs a z ws. refl);
  reading = (λ κs a. tt, λ κs a z ws. refl);
  readings = (λ κs a. tt, λ κs a z ws. refl);
  held_words = (λ κs a. tt, λ κs a z ws. refl);
  identity = (λ κs a. tt, λ κs a z ws. refl);
  counts = (λ κs a. tt, λ κs a z ws. refl);
  own_table = (λ κs a. tt, λ κs a z ws. refl);
  changed = (λ κs a. tt, λ κs a z ws. refl);
}

-- ---- the code keeps its promises

pub field_count_kept : {M : Type 1} → field_count.statement M
field_count_kept = field_count_met.met

pub check_body_kept : {M : Type 1} → check_body.statement M
check_body_kept = check_body_met.met

pub find_kept : {M : Type 1} → find.statement M
find_kept = find_met.met

pub read_kept : {M : Type 1} → read.statement M
read_kept = read_met.met

pub read_survey_kept : {M : Type 1} → read_survey.statement M
read_survey_kept = read_survey_met.met

pub write_kept : {M : Type 1} → write.statement M
write_kept = write_met.met

pub write_survey_kept : {M : Type 1} → write_survey.statement M
write_survey_kept = write_survey_met.met

pub trailer_parts_kept : {M : Type 1} → trailer_parts.statement M
trailer_parts_kept = trailer_parts_met.met

pub trailer_word_kept : {M : Type 1} → trailer_word.statement M
trailer_word_kept = trailer_word_met.met

pub words_needed_kept : {M : Type 1} → words_needed.statement M
words_needed_kept = words_needed_met.met

pub unpack_kept : {M : Type 1} → unpack.statement M
unpack_kept = unpack_met.met

pub pack_kept : {M : Type 1} → pack.statement M
pack_kept = pack_met.met

pub coordinates_of_kept : {M : Type 1} → coordinates_of.statement M
coordinates_of_kept = coordinates_of_met.met

pub item_at_kept : {M : Type 1} → item_at.statement M
item_at_kept = item_at_met.met

pub signed_kept : {M : Type 1} → signed.statement M
signed_kept = signed_met.met

pub start_kept : {M : Type 1} → start.statement M
start_kept = start_met.met

pub well_made_kept : {M : Type 1} → well_made.statement M
well_made_kept = well_made_met.met

pub play_kept : {M : Type 1} → play.statement M
play_kept = play_met.met

pub play_run_kept : {M : Type 1} → play_run.statement M
play_run_kept = play_run_met.met

pub page_length_kept : {M : Type 1} → page_length.statement M
page_length_kept = page_length_met.met

pub save_kept : {M : Type 1} → save.statement M
save_kept = save_met.met

pub put_back_kept : {M : Type 1} → put_back.statement M
put_back_kept = put_back_met.met

pub start_index_kept : {M : Type 1} → start_index.statement M
start_index_kept = start_index_met.met

pub grow_kept : {M : Type 1} → grow.statement M
grow_kept = grow_met.met

pub jump_kept : {M : Type 1} → jump.statement M
jump_kept = jump_met.met

pub reading_kept : {M : Type 1} → reading.statement M
reading_kept = reading_met.met

pub readings_kept : {M : Type 1} → readings.statement M
readings_kept = readings_met.met

pub held_words_kept : {M : Type 1} → held_words.statement M
held_words_kept = held_words_met.met

pub identity_kept : {M : Type 1} → identity.statement M
identity_kept = identity_met.met

pub counts_kept : {M : Type 1} → counts.statement M
counts_kept = counts_met.met

pub own_table_kept : {M : Type 1} → own_table.statement M
own_table_kept = own_table_met.met

pub changed_kept : {M : Type 1} → changed.statement M
changed_kept = changed_met.met
