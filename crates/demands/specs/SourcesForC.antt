-- Each call for C of the list `calls_for_c` (vrt49/specs/Calls.antt), tied to the function that it is, as Sources.antt does for the calls inside.
use Rattle.std.specs.Prelude.{◌≡◌, ℕ, List}
use contract.Lifetimes.{Lfts}
use borrow.Fn.Kinds.{ParamKind, ResultKind, Dens, In, Out, res_t, ended_of}
use denote.Triple.Clauses.{Lasts, at_exit}
use Rattle.payload_unpack.specs.Unpack.{buffers}
use Rattle.vrt49.specs.Answers.{Tells, in_number}
use Rattle.vrt49.specs.Calls.{CallForC, answers, tells, tells_where}
use Rattle.vrt49.specs.Calls.{for_read, for_read_survey, for_write, for_write_survey, for_trailer_parts, for_trailer_word, for_field_count, for_check_body}
use Rattle.vrt49.specs.Calls.{for_find}
use Rattle.vrt49.specs.Calls.{for_unpack, for_pack, for_words_needed, for_coordinates_of, for_item_at, for_signed, for_start, for_well_made, for_play}
use Rattle.vrt49.specs.Calls.{for_play_run, for_page_length, for_save, for_put_back, for_start_index, for_grow, for_jump, for_reading, for_readings}
use Rattle.vrt49.specs.Calls.{for_held_words}
use Rattle.vrt49.specs.Calls.{for_identity, for_counts, for_own_table, for_changed}
use Rattle.vrt49.proofs.vrt49_read.Kinds as read_kinds
use Rattle.vrt49.proofs.vrt49_read.Reads as read
use Rattle.vrt49.proofs.vrt49_read_survey.Kinds as read_survey_kinds
use Rattle.vrt49.proofs.vrt49_read_survey.Reads as read_survey
use Rattle.vrt49.proofs.vrt49_write.Kinds as write_kinds
use Rattle.vrt49.proofs.vrt49_write.Reads as write
use Rattle.vrt49.proofs.vrt49_write_survey.Kinds as write_survey_kinds
use Rattle.vrt49.proofs.vrt49_write_survey.Reads as write_survey
use Rattle.vrt49.proofs.vrt49_trailer_parts.Kinds as trailer_parts_kinds
use Rattle.vrt49.proofs.vrt49_trailer_parts.Reads as trailer_parts
use Rattle.vrt49.proofs.vrt49_trailer_word.Kinds as trailer_word_kinds
use Rattle.vrt49.proofs.vrt49_trailer_word.Reads as trailer_word
use Rattle.vrt49.proofs.vrt49_field_count.Kinds as field_count_kinds
use Rattle.vrt49.proofs.vrt49_field_count.Reads as field_count
use Rattle.vrt49.proofs.vrt49_check_body.Kinds as check_body_kinds
use Rattle.vrt49.proofs.vrt49_check_body.Reads as check_body
use Rattle.vrt49.proofs.vrt49_find.Kinds as find_kinds
use Rattle.vrt49.proofs.vrt49_find.Reads as find
use Rattle.vrt49.proofs.vrt49_unpack.Kinds as unpack_kinds
use Rattle.vrt49.proofs.vrt49_unpack.Reads as unpack
use Rattle.vrt49.proofs.vrt49_pack.Kinds as pack_kinds
use Rattle.vrt49.proofs.vrt49_pack.Reads as pack
use Rattle.vrt49.proofs.vrt49_words_needed.Kinds as words_needed_kinds
use Rattle.vrt49.proofs.vrt49_words_needed.Reads as words_needed
use Rattle.vrt49.proofs.vrt49_coordinates_of.Kinds as coordinates_of_kinds
use Rattle.vrt49.proofs.vrt49_coordinates_of.Reads as coordinates_of
use Rattle.vrt49.proofs.vrt49_item_at.Kinds as item_at_kinds
use Rattle.vrt49.proofs.vrt49_item_at.Reads as item_at
use Rattle.vrt49.proofs.vrt49_signed.Kinds as signed_kinds
use Rattle.vrt49.proofs.vrt49_signed.Reads as signed
use Rattle.vrt49.proofs.vrt49_start.Kinds as start_kinds
use Rattle.vrt49.proofs.vrt49_start.Reads as start
use Rattle.vrt49.proofs.vrt49_well_made.Kinds as well_made_kinds
use Rattle.vrt49.proofs.vrt49_well_made.Reads as well_made
use Rattle.vrt49.proofs.vrt49_play.Kinds as play_kinds
use Rattle.vrt49.proofs.vrt49_play.Reads as play
use Rattle.vrt49.proofs.vrt49_play_run.Kinds as play_run_kinds
use Rattle.vrt49.proofs.vrt49_play_run.Reads as play_run
use Rattle.vrt49.proofs.vrt49_page_length.Kinds as page_length_kinds
use Rattle.vrt49.proofs.vrt49_page_length.Reads as page_length
use Rattle.vrt49.proofs.vrt49_save.Kinds as save_kinds
use Rattle.vrt49.proofs.vrt49_save.Reads as save
use Rattle.vrt49.proofs.vrt49_put_back.Kinds as put_back_kinds
use Rattle.vrt49.proofs.vrt49_put_back.Reads as put_back
use Rattle.vrt49.proofs.vrt49_start_index.Kinds as start_index_kinds
use Rattle.vrt49.proofs.vrt49_start_index.Reads as start_index
use Rattle.vrt49.proofs.vrt49_grow.Kinds as grow_kinds
use Rattle.vrt49.proofs.vrt49_grow.Reads as grow
use Rattle.vrt49.proofs.vrt49_jump.Kinds as jump_kinds
use Rattle.vrt49.proofs.vrt49_jump.Reads as jump
use Rattle.vrt49.proofs.vrt49_reading.Kinds as reading_kinds
use Rattle.vrt49.proofs.vrt49_reading.Reads as reading
use Rattle.vrt49.proofs.vrt49_readings.Kinds as readings_kinds
use Rattle.vrt49.proofs.vrt49_readings.Reads as readings
use Rattle.vrt49.proofs.vrt49_held_words.Kinds as held_words_kinds
use Rattle.vrt49.proofs.vrt49_held_words.Reads as held_words
use Rattle.vrt49.proofs.vrt49_identity.Kinds as identity_kinds
use Rattle.vrt49.proofs.vrt49_identity.Reads as identity
use Rattle.vrt49.proofs.vrt49_counts.Kinds as counts_kinds
use Rattle.vrt49.proofs.vrt49_counts.Reads as counts
use Rattle.vrt49.proofs.vrt49_own_table.Kinds as own_table_kinds
use Rattle.vrt49.proofs.vrt49_own_table.Reads as own_table
use Rattle.vrt49.proofs.vrt49_changed.Kinds as changed_kinds
use Rattle.vrt49.proofs.vrt49_changed.Reads as changed
use Rattle.demands.specs.Sources.{AsksNothing}

-- what a call is handed, and the lent places
abbrev pub HandedForC : CallForC → Type 0
HandedForC (answers {H} want) = H
HandedForC (tells {H} want values lent list numbers) = H
HandedForC (tells_where {H} want values lent list given) = H

abbrev pub LentForC : CallForC → Type 0
LentForC (answers want) = Unit
LentForC (tells {H} {A} {L} want values lent list numbers) = L
LentForC (tells_where {H} {A} {L} want values lent list given) = L

-- the promise of a call, of what it was handed, the number that it answers and the lent places afterwards
abbrev pub PromiseForC : (c : CallForC) → HandedForC c → ℕ → LentForC c → Type 0
PromiseForC (answers want) h r after = r ≡ want h
PromiseForC (tells want values lent list numbers) h r after = Tells values (want h) (lent h) r after
PromiseForC (tells_where want values lent list given) h r after = Tells values (in_number (want h)) (lent h) r after

-- a function asks nothing of what it is handed, and what its caller learns is the promise of the call c
abbrev pub SourceForC : (c : CallForC) {n : ℕ} (ps : List (ParamKind n)) (r : ResultKind n) → In n ps → Out n ps r → ((κs : Lfts n) → Dens κs ps → HandedForC c)
    → ((κs : Lfts n) → (res_t r κs).Denot → ℕ) → ((κs : Lfts n) (a : Dens κs ps) → Lasts (ended_of n ps r) κs a → LentForC c) → Type 1
SourceForC c {n} ps r P Q handed answer left =
    AsksNothing ps P
    × ((κs : Lfts n) (a : Dens κs ps) (z : (res_t r κs).Denot) (ws : Lasts (ended_of n ps r) κs a)
    → Q κs a z (at_exit (ended_of n ps r) κs a ws) ≡ PromiseForC c (handed κs a) (answer κs z) (left κs a ws))

pub record SourcesForC : Type 1 where
  pub read : SourceForC for_read read_kinds.ps read_kinds.r read.Asked read.Learnt
      (λ κs a. (a.0.now, a.1.0.now)) (λ κs z. z) (λ κs a ws. ws.1.0)
  pub read_survey : SourceForC for_read_survey read_survey_kinds.ps read_survey_kinds.r read_survey.Asked read_survey.Learnt
      (λ κs a. (a.0.now, a.1.0.now)) (λ κs z. z) (λ κs a ws. ws.1.0)
  pub write : SourceForC for_write write_kinds.ps write_kinds.r write.Asked write.Learnt
      (λ κs a. (a.0.now, a.1.0.now, a.1.1.0.now, a.1.1.1.0, a.1.1.1.1.0.now))
      (λ κs z. z) (λ κs a ws. (ws.1.1.0, ws.1.1.1.1.0))
  pub write_survey : SourceForC for_write_survey write_survey_kinds.ps write_survey_kinds.r write_survey.Asked write_survey.Learnt
      (λ κs a. (a.0.now, a.1.0.now, a.1.1.0.now, a.1.1.1.0, a.1.1.1.1.0.now))
      (λ κs z. z) (λ κs a ws. (ws.1.1.0, ws.1.1.1.1.0))
  pub trailer_parts : SourceForC for_trailer_parts trailer_parts_kinds.ps trailer_parts_kinds.r trailer_parts.Asked trailer_parts.Learnt
      (λ κs a. (a.0, a.1.0.now)) (λ κs z. z) (λ κs a ws. ws.1.0)
  pub trailer_word : SourceForC for_trailer_word trailer_word_kinds.ps trailer_word_kinds.r trailer_word.Asked trailer_word.Learnt
      (λ κs a. (a.0, a.1.0, a.1.1.0, a.1.1.1.0, a.1.1.1.1.0.now)) (λ κs z. z) (λ κs a ws. ws.1.1.1.1.0)
  pub field_count : SourceForC for_field_count field_count_kinds.ps field_count_kinds.r field_count.Asked field_count.Learnt
      (λ κs a. a.0) (λ κs z. z) (λ κs a ws. tt)
  pub check_body : SourceForC for_check_body check_body_kinds.ps check_body_kinds.r check_body.Asked check_body.Learnt
      (λ κs a. a.0.now) (λ κs z. z) (λ κs a ws. tt)
  pub find : SourceForC for_find find_kinds.ps find_kinds.r find.Asked find.Learnt
      (λ κs a. (a.0.now, a.1.0, a.1.1.0.now)) (λ κs z. z) (λ κs a ws. ws.1.1.0)
  pub unpack : SourceForC for_unpack unpack_kinds.ps unpack_kinds.r unpack.Asked unpack.Learnt
      (λ κs a. (a.0, a.1.0, a.1.1.0, a.1.1.1.0.now, buffers a.1.1.1.1.0.now a.1.1.1.1.1.0.now a.1.1.1.1.1.1.0.now))
      (λ κs z. z) (λ κs a ws. buffers ws.1.1.1.1.0 ws.1.1.1.1.1.0 ws.1.1.1.1.1.1.0)
  pub pack : SourceForC for_pack pack_kinds.ps pack_kinds.r pack.Asked pack.Learnt
      (λ κs a. (a.0, a.1.0, a.1.1.0.now, a.1.1.1.0.now, a.1.1.1.1.0.now, a.1.1.1.1.1.0.now, a.1.1.1.1.1.1.0.now))
      (λ κs z. z) (λ κs a ws. (ws.1.1.1.1.1.0, ws.1.1.1.1.1.1.0))
  pub words_needed : SourceForC for_words_needed words_needed_kinds.ps words_needed_kinds.r words_needed.Asked words_needed.Learnt
      (λ κs a. (a.0, a.1.0, a.1.1.0, a.1.1.1.0.now)) (λ κs z. z) (λ κs a ws. ws.1.1.1.0)
  pub coordinates_of : SourceForC for_coordinates_of coordinates_of_kinds.ps coordinates_of_kinds.r coordinates_of.Asked coordinates_of.Learnt
      (λ κs a. (a.0, a.1.0, a.1.1.0, a.1.1.1.0, a.1.1.1.1.0.now)) (λ κs z. z) (λ κs a ws. ws.1.1.1.1.0)
  pub item_at : SourceForC for_item_at item_at_kinds.ps item_at_kinds.r item_at.Asked item_at.Learnt
      (λ κs a. (a.0, a.1.0, a.1.1.0, a.1.1.1.0.now, a.1.1.1.1.0.now)) (λ κs z. z) (λ κs a ws. ws.1.1.1.1.0)
  pub signed : SourceForC for_signed signed_kinds.ps signed_kinds.r signed.Asked signed.Learnt
      (λ κs a. (a.0, a.1.0, a.1.1.0.now)) (λ κs z. z) (λ κs a ws. ws.1.1.0)
  pub start : SourceForC for_start start_kinds.ps start_kinds.r start.Asked start.Learnt
      (λ κs a. (a.0.now, a.1.0.now, a.1.1.0.now, a.1.1.1.0.now)) (λ κs z. z) (λ κs a ws. (ws.1.1.0, ws.1.1.1.0))
  pub well_made : SourceForC for_well_made well_made_kinds.ps well_made_kinds.r well_made.Asked well_made.Learnt
      (λ κs a. a.0.now) (λ κs z. z) (λ κs a ws. tt)
  pub play : SourceForC for_play play_kinds.ps play_kinds.r play.Asked play.Learnt
      (λ κs a. (a.0.now, a.1.0.now, a.1.1.0.now)) (λ κs z. z) (λ κs a ws. (ws.0, ws.1.1.0))
  pub play_run : SourceForC for_play_run play_run_kinds.ps play_run_kinds.r play_run.Asked play_run.Learnt
      (λ κs a. (a.0.now, a.1.0.now, a.1.1.0, a.1.1.1.0.now, a.1.1.1.1.0.now, a.1.1.1.1.1.0.now))
      (λ κs z. z) (λ κs a ws. ((ws.0, ws.1.1.1.0), (ws.1.1.1.1.0, ws.1.1.1.1.1.0)))
  pub page_length : SourceForC for_page_length page_length_kinds.ps page_length_kinds.r page_length.Asked page_length.Learnt
      (λ κs a. (a.0.now, a.1.0.now)) (λ κs z. z) (λ κs a ws. ws.1.0)
  pub save : SourceForC for_save save_kinds.ps save_kinds.r save.Asked save.Learnt
      (λ κs a. (a.0.now, a.1.0.now, a.1.1.0.now)) (λ κs z. z) (λ κs a ws. (ws.1.0, ws.1.1.0))
  pub put_back : SourceForC for_put_back put_back_kinds.ps put_back_kinds.r put_back.Asked put_back.Learnt
      (λ κs a. (a.0.now, a.1.0.now, a.1.1.0.now)) (λ κs z. z) (λ κs a ws. (ws.1.0, ws.1.1.0))
  pub start_index : SourceForC for_start_index start_index_kinds.ps start_index_kinds.r start_index.Asked start_index.Learnt
      (λ κs a. (a.0.now, a.1.0.now, a.1.1.0.now)) (λ κs z. z) (λ κs a ws. (ws.1.0, ws.1.1.0))
  pub grow : SourceForC for_grow grow_kinds.ps grow_kinds.r grow.Asked grow.Learnt
      (λ κs a. (a.0.now, a.1.0.now, a.1.1.0.now, a.1.1.1.0.now)) (λ κs z. z) (λ κs a ws. ((ws.0, ws.1.1.0), ws.1.1.1.0))
  pub jump : SourceForC for_jump jump_kinds.ps jump_kinds.r jump.Asked jump.Learnt
      (λ κs a. (a.0.now, a.1.0, a.1.1.0.now, a.1.1.1.0, a.1.1.1.1.0.now, a.1.1.1.1.1.0.now, a.1.1.1.1.1.1.0.now))
      (λ κs z. z) (λ κs a ws. (ws.1.1.1.1.0, (ws.1.1.1.1.1.0, ws.1.1.1.1.1.1.0)))
  pub reading : SourceForC for_reading reading_kinds.ps reading_kinds.r reading.Asked reading.Learnt
      (λ κs a. (a.0.now, a.1.0, a.1.1.0, a.1.1.1.0.now, a.1.1.1.1.0.now, a.1.1.1.1.1.0.now, a.1.1.1.1.1.1.0.now))
      (λ κs z. z) (λ κs a ws. (ws.1.1.1.0, ws.1.1.1.1.0, ws.1.1.1.1.1.0, ws.1.1.1.1.1.1.0))
  pub readings : SourceForC for_readings readings_kinds.ps readings_kinds.r readings.Asked readings.Learnt
      (λ κs a. (a.0.now, a.1.0, a.1.1.0.now, a.1.1.1.0.now, a.1.1.1.1.0.now, a.1.1.1.1.1.0.now, a.1.1.1.1.1.1.0.now))
      (λ κs z. z) (λ κs a ws. (ws.1.1.0, ws.1.1.1.0, ws.1.1.1.1.0, ws.1.1.1.1.1.0, ws.1.1.1.1.1.1.0))
  pub held_words : SourceForC for_held_words held_words_kinds.ps held_words_kinds.r held_words.Asked held_words.Learnt
      (λ κs a. (a.0.now, a.1.0, a.1.1.0, a.1.1.1.0.now, a.1.1.1.1.0.now))
      (λ κs z. z) (λ κs a ws. (ws.1.1.1.0, ws.1.1.1.1.0))
  pub identity : SourceForC for_identity identity_kinds.ps identity_kinds.r identity.Asked identity.Learnt
      (λ κs a. (a.0.now, a.1.0, a.1.1.0.now, a.1.1.1.0.now, a.1.1.1.1.0.now))
      (λ κs z. z) (λ κs a ws. (ws.1.1.0, ws.1.1.1.0, ws.1.1.1.1.0))
  pub counts : SourceForC for_counts counts_kinds.ps counts_kinds.r counts.Asked counts.Learnt
      (λ κs a. (a.0.now, a.1.0, a.1.1.0, a.1.1.1.0.now)) (λ κs z. z) (λ κs a ws. ws.1.1.1.0)
  pub own_table : SourceForC for_own_table own_table_kinds.ps own_table_kinds.r own_table.Asked own_table.Learnt
      (λ κs a. (a.0.now, a.1.0, a.1.1.0.now, a.1.1.1.0.now)) (λ κs z. z) (λ κs a ws. (ws.1.1.0, ws.1.1.1.0))
  pub changed : SourceForC for_changed changed_kinds.ps changed_kinds.r changed.Asked changed.Learnt
      (λ κs a. (a.0.now, a.1.0, a.1.1.0.now, a.1.1.1.0, a.1.1.1.1.0.now)) (λ κs z. z) (λ κs a ws. ws.1.1.1.1.0)
