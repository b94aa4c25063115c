-- Each call of the list `calls`, tied to the function that it is: what the function asks of a caller (`Asked`) and what a caller learns from it (`Learnt`), as
-- the prover has them from its `requires` and `ensures`. A promise that is weakened in its crate, or a `requires` that is added there, breaks `Sources`. Each
-- line ends with three functions: from the parameters a, in their order, to what the call is handed; from the result z to its answer; and from ws, what is left
-- behind each parameter, to the lent words.
use Rattle.std.specs.Prelude.{◌≡◌, ℕ, List}
use contract.Lifetimes.{Lfts}
use borrow.Fn.Kinds.{ParamKind, ResultKind, Dens, In, Out, res_t, ended_of}
use denote.Triple.Clauses.{Lasts, at_exit}
use Rattle.words.specs.Outcome.{Meets}
use Rattle.payload_unpack.specs.Unpack.{buffers}
use Rattle.fields.proofs.field_count.Kinds as field_count_kinds
use Rattle.fields.proofs.field_count.Reads as field_count
use Rattle.fields.proofs.check_body.Kinds as check_body_kinds
use Rattle.fields.proofs.check_body.Reads as check_body
use Rattle.fields.proofs.find.Kinds as find_kinds
use Rattle.fields.proofs.find.Reads as find
use Rattle.packet.proofs.read.Kinds as read_kinds
use Rattle.packet.proofs.read.Reads as read
use Rattle.packet.proofs.read_survey.Kinds as read_survey_kinds
use Rattle.packet.proofs.read_survey.Reads as read_survey
use Rattle.packet_write.proofs.write.Kinds as write_kinds
use Rattle.packet_write.proofs.write.Reads as write
use Rattle.packet_write.proofs.write_survey.Kinds as write_survey_kinds
use Rattle.packet_write.proofs.write_survey.Reads as write_survey
use Rattle.packet_trailer.proofs.trailer_parts.Kinds as trailer_parts_kinds
use Rattle.packet_trailer.proofs.trailer_parts.Reads as trailer_parts
use Rattle.packet_trailer.proofs.trailer_word.Kinds as trailer_word_kinds
use Rattle.packet_trailer.proofs.trailer_word.Reads as trailer_word
use Rattle.payload_format.proofs.words_needed.Kinds as words_needed_kinds
use Rattle.payload_format.proofs.words_needed.Reads as words_needed
use Rattle.payload_unpack.proofs.unpack.Kinds as unpack_kinds
use Rattle.payload_unpack.proofs.unpack.Reads as unpack
use Rattle.payload_pack.proofs.pack.Kinds as pack_kinds
use Rattle.payload_pack.proofs.pack.Reads as pack
use Rattle.payload_order.proofs.coordinates_of.Kinds as coordinates_of_kinds
use Rattle.payload_order.proofs.coordinates_of.Reads as coordinates_of
use Rattle.payload_order.proofs.item_at.Kinds as item_at_kinds
use Rattle.payload_order.proofs.item_at.Reads as item_at
use Rattle.payload_format.proofs.signed.Kinds as signed_kinds
use Rattle.payload_format.proofs.signed.Reads as signed
use Rattle.table.proofs.start.Kinds as start_kinds
use Rattle.table.proofs.start.Reads as start
use Rattle.table.proofs.well_made.Kinds as well_made_kinds
use Rattle.table.proofs.well_made.Reads as well_made
use Rattle.play.proofs.play.Kinds as play_kinds
use Rattle.play.proofs.play.Reads as play
use Rattle.play.proofs.play_run.Kinds as play_run_kinds
use Rattle.play.proofs.play_run.Reads as play_run
use Rattle.page.proofs.page_length.Kinds as page_length_kinds
use Rattle.page.proofs.page_length.Reads as page_length
use Rattle.page.proofs.save.Kinds as save_kinds
use Rattle.page.proofs.save.Reads as save
use Rattle.page.proofs.put_back.Kinds as put_back_kinds
use Rattle.page.proofs.put_back.Reads as put_back
use Rattle.index.proofs.start_index.Kinds as start_index_kinds
use Rattle.index.proofs.start_index.Reads as start_index
use Rattle.index_grow.proofs.grow.Kinds as grow_kinds
use Rattle.index_grow.proofs.grow.Reads as grow
use Rattle.index_jump.proofs.jump.Kinds as jump_kinds
use Rattle.index_jump.proofs.jump.Reads as jump
use Rattle.panel.proofs.reading.Kinds as reading_kinds
use Rattle.panel.proofs.reading.Reads as reading
use Rattle.panel.proofs.readings.Kinds as readings_kinds
use Rattle.panel.proofs.readings.Reads as readings
use Rattle.panel.proofs.held_words.Kinds as held_words_kinds
use Rattle.panel.proofs.held_words.Reads as held_words
use Rattle.panel_streams.proofs.identity.Kinds as identity_kinds
use Rattle.panel_streams.proofs.identity.Reads as identity
use Rattle.panel_streams.proofs.counts.Kinds as counts_kinds
use Rattle.panel_streams.proofs.counts.Reads as counts
use Rattle.panel_streams.proofs.own_table.Kinds as own_table_kinds
use Rattle.panel_streams.proofs.own_table.Reads as own_table
use Rattle.panel_streams.proofs.changed.Kinds as changed_kinds
use Rattle.panel_streams.proofs.changed.Reads as changed
use Rattle.demands.specs.Calls.{Call, answers, lends}
use Rattle.demands.specs.Calls.{field_count_call, check_body_call, find_call, read_call, read_survey_call, write_call, write_survey_call}
use Rattle.demands.specs.Calls.{trailer_parts_call, trailer_word_call}
use Rattle.demands.specs.Calls.{words_needed_call, unpack_call, pack_call, coordinates_of_call, item_at_call, signed_call, start_call, well_made_call}
use Rattle.demands.specs.Calls.{play_call}
use Rattle.demands.specs.Calls.{play_run_call, page_length_call, save_call, put_back_call, start_index_call, grow_call, jump_call}
use Rattle.demands.specs.Calls.{reading_call, readings_call, held_words_call}
use Rattle.demands.specs.Calls.{identity_call, counts_call, own_table_call, changed_call}

-- what a call is handed, what it answers, and the lent words
abbrev pub Handed : Call → Type 0
Handed (answers {H} paper want) = H
Handed (lends {H} paper want lent) = H

abbrev pub Answer : Call → Type 0
Answer (answers {H} {A} paper want) = A
Answer (lends {H} {R} {A} paper want lent) = A

abbrev pub Lent : Call → Type 0
Lent (answers paper want) = Unit
Lent (lends {H} {R} {A} {B} {L} paper want lent) = L

-- the promise of a call, of what it was handed, its answer and the lent words afterwards
abbrev pub Promise : (c : Call) → Handed c → Answer c → Lent c → Type 0
Promise (answers paper want) h r after = paper r ≡ want h
Promise (lends paper want lent) h r after = Meets paper (want h) (lent h) r after

-- "No public call has a `requires`": a function with parameters of the kinds ps asks nothing of what it is handed
abbrev pub AsksNothing : {n : ℕ} (ps : List (ParamKind n)) → In n ps → Type 0
AsksNothing {n} ps P = (κs : Lfts n) (a : Dens κs ps) → P κs a

-- and what its caller learns, of what it was handed, a, its answer z and the lent words afterwards, ws, is the promise of the call c
abbrev pub Learns : (c : Call) {n : ℕ} (ps : List (ParamKind n)) (r : ResultKind n) → Out n ps r → ((κs : Lfts n) → Dens κs ps → Handed c)
    → ((κs : Lfts n) → (res_t r κs).Denot → Answer c) → ((κs : Lfts n) (a : Dens κs ps) → Lasts (ended_of n ps r) κs a → Lent c) → Type 1
Learns c {n} ps r Q handed answer left =
    (κs : Lfts n) (a : Dens κs ps) (z : (res_t r κs).Denot) (ws : Lasts (ended_of n ps r) κs a)
    → Q κs a z (at_exit (ended_of n ps r) κs a ws) ≡ Promise c (handed κs a) (answer κs z) (left κs a ws)

abbrev pub Source : (c : Call) {n : ℕ} (ps : List (ParamKind n)) (r : ResultKind n) → In n ps → Out n ps r → ((κs : Lfts n) → Dens κs ps → Handed c)
    → ((κs : Lfts n) → (res_t r κs).Denot → Answer c) → ((κs : Lfts n) (a : Dens κs ps) → Lasts (ended_of n ps r) κs a → Lent c) → Type 1
Source c ps r P Q handed answer left = AsksNothing ps P × Learns c ps r Q handed answer left

pub record Sources : Type 1 where
  -- fields::field_count
  pub field_count : Source field_count_call field_count_kinds.ps field_count_kinds.r field_count.Asked field_count.Learnt
      (λ κs a. a.0) (λ κs z. z) (λ κs a ws. tt)
  -- fields::check_body
  pub check_body : Source check_body_call check_body_kinds.ps check_body_kinds.r check_body.Asked check_body.Learnt
      (λ κs a. a.0.now) (λ κs z. z) (λ κs a ws. tt)
  -- fields::find
  pub find : Source find_call find_kinds.ps find_kinds.r find.Asked find.Learnt
      (λ κs a. (a.1.0, a.0.now)) (λ κs z. z) (λ κs a ws. tt)
  -- packet::read
  pub read : Source read_call read_kinds.ps read_kinds.r read.Asked read.Learnt
      (λ κs a. a.0.now) (λ κs z. z) (λ κs a ws. tt)
  -- packet::read_survey
  pub read_survey : Source read_survey_call read_survey_kinds.ps read_survey_kinds.r read_survey.Asked read_survey.Learnt
      (λ κs a. a.0.now) (λ κs z. z) (λ κs a ws. tt)
  -- packet_write::write
  pub write : Source write_call write_kinds.ps write_kinds.r write.Asked write.Learnt
      (λ κs a. (a.0, a.1.0.now, a.1.1.0.now, a.1.1.1.0)) (λ κs z. z) (λ κs a ws. ws.1.1.0)
  -- packet_write::write_survey
  pub write_survey : Source write_survey_call write_survey_kinds.ps write_survey_kinds.r write_survey.Asked write_survey.Learnt
      (λ κs a. (a.0, a.1.0, a.1.1.0.now, a.1.1.1.0.now, a.1.1.1.1.0)) (λ κs z. z) (λ κs a ws. ws.1.1.1.0)
  -- packet_trailer::trailer_parts
  pub trailer_parts : Source trailer_parts_call trailer_parts_kinds.ps trailer_parts_kinds.r trailer_parts.Asked trailer_parts.Learnt
      (λ κs a. a.0) (λ κs z. z) (λ κs a ws. tt)
  -- packet_trailer::trailer_word
  pub trailer_word : Source trailer_word_call trailer_word_kinds.ps trailer_word_kinds.r trailer_word.Asked trailer_word.Learnt
      (λ κs a. (a.0, a.1.0, a.1.1.0, a.1.1.1.0)) (λ κs z. z) (λ κs a ws. tt)
  -- payload_format::words_needed
  pub words_needed : Source words_needed_call words_needed_kinds.ps words_needed_kinds.r words_needed.Asked words_needed.Learnt
      (λ κs a. (a.0, a.1.0, a.1.1.0)) (λ κs z. z) (λ κs a ws. tt)
  -- payload_unpack::unpack
  pub unpack : Source unpack_call unpack_kinds.ps unpack_kinds.r unpack.Asked unpack.Learnt
      (λ κs a. (a.0, a.1.0, a.1.1.0, a.1.1.1.0.now, buffers a.1.1.1.1.0.now a.1.1.1.1.1.0.now a.1.1.1.1.1.1.0.now))
      (λ κs z. z) (λ κs a ws. buffers ws.1.1.1.1.0 ws.1.1.1.1.1.0 ws.1.1.1.1.1.1.0)
  -- payload_pack::pack
  pub pack : Source pack_call pack_kinds.ps pack_kinds.r pack.Asked pack.Learnt
      (λ κs a. (a.0, a.1.0, a.1.1.0.now, a.1.1.1.0.now, a.1.1.1.1.0.now, a.1.1.1.1.1.0.now))
      (λ κs z. z) (λ κs a ws. ws.1.1.1.1.1.0)
  -- payload_order::coordinates_of
  pub coordinates_of : Source coordinates_of_call coordinates_of_kinds.ps coordinates_of_kinds.r coordinates_of.Asked coordinates_of.Learnt
      (λ κs a. (a.0, a.1.0, a.1.1.0, a.1.1.1.0)) (λ κs z. z) (λ κs a ws. tt)
  -- payload_order::item_at
  pub item_at : Source item_at_call item_at_kinds.ps item_at_kinds.r item_at.Asked item_at.Learnt
      (λ κs a. (a.0, a.1.0, a.1.1.0, a.1.1.1.0)) (λ κs z. z) (λ κs a ws. tt)
  -- payload_format::signed
  pub signed : Source signed_call signed_kinds.ps signed_kinds.r signed.Asked signed.Learnt
      (λ κs a. (a.0, a.1.0)) (λ κs z. z) (λ κs a ws. tt)
  -- table::start
  pub start : Source start_call start_kinds.ps start_kinds.r start.Asked start.Learnt
      (λ κs a. (a.0.now, a.1.0.now, a.1.1.0.now)) (λ κs z. z) (λ κs a ws. ws.1.1.0)
  -- table::well_made
  pub well_made : Source well_made_call well_made_kinds.ps well_made_kinds.r well_made.Asked well_made.Learnt
      (λ κs a. a.0.now) (λ κs z. z) (λ κs a ws. tt)
  -- play::play
  pub play : Source play_call play_kinds.ps play_kinds.r play.Asked play.Learnt
      (λ κs a. (a.0.now, a.1.0.now)) (λ κs z. z) (λ κs a ws. ws.0)
  -- play::play_run
  pub play_run : Source play_run_call play_run_kinds.ps play_run_kinds.r play_run.Asked play_run.Learnt
      (λ κs a. (a.0.now, a.1.0.now, a.1.1.0, a.1.1.1.0.now)) (λ κs z. z) (λ κs a ws. (ws.0, ws.1.1.1.0))
  -- page::page_length
  pub page_length : Source page_length_call page_length_kinds.ps page_length_kinds.r page_length.Asked page_length.Learnt
      (λ κs a. a.0.now) (λ κs z. z) (λ κs a ws. tt)
  -- page::save
  pub save : Source save_call save_kinds.ps save_kinds.r save.Asked save.Learnt
      (λ κs a. (a.0.now, a.1.0.now)) (λ κs z. z) (λ κs a ws. ws.1.0)
  -- page::put_back
  pub put_back : Source put_back_call put_back_kinds.ps put_back_kinds.r put_back.Asked put_back.Learnt
      (λ κs a. (a.0.now, a.1.0.now)) (λ κs z. z) (λ κs a ws. ws.1.0)
  -- index::start_index
  pub start_index : Source start_index_call start_index_kinds.ps start_index_kinds.r start_index.Asked start_index.Learnt
      (λ κs a. (a.0.now, a.1.0.now)) (λ κs z. z) (λ κs a ws. ws.1.0)
  -- index_grow::grow
  pub grow : Source grow_call grow_kinds.ps grow_kinds.r grow.Asked grow.Learnt
      (λ κs a. (a.0.now, a.1.0.now, a.1.1.0.now)) (λ κs z. z) (λ κs a ws. (ws.0, ws.1.1.0))
  -- index_jump::jump
  pub jump : Source jump_call jump_kinds.ps jump_kinds.r jump.Asked jump.Learnt
      (λ κs a. (a.0.now, a.1.0, a.1.1.0.now, a.1.1.1.0, a.1.1.1.1.0.now)) (λ κs z. z) (λ κs a ws. ws.1.1.1.1.0)
  -- panel::reading
  pub reading : Source reading_call reading_kinds.ps reading_kinds.r reading.Asked reading.Learnt
      (λ κs a. (a.0.now, a.1.0, a.1.1.0)) (λ κs z. z) (λ κs a ws. tt)
  -- panel::readings
  pub readings : Source readings_call readings_kinds.ps readings_kinds.r readings.Asked readings.Learnt
      (λ κs a. (a.0.now, a.1.0)) (λ κs z. z) (λ κs a ws. tt)
  -- panel::held_words
  pub held_words : Source held_words_call held_words_kinds.ps held_words_kinds.r held_words.Asked held_words.Learnt
      (λ κs a. (a.0.now, a.1.0, a.1.1.0, a.1.1.1.0.now)) (λ κs z. z) (λ κs a ws. ws.1.1.1.0)
  -- panel_streams::identity
  pub identity : Source identity_call identity_kinds.ps identity_kinds.r identity.Asked identity.Learnt
      (λ κs a. (a.0.now, a.1.0)) (λ κs z. z) (λ κs a ws. tt)
  -- panel_streams::counts
  pub counts : Source counts_call counts_kinds.ps counts_kinds.r counts.Asked counts.Learnt
      (λ κs a. (a.0.now, a.1.0, a.1.1.0)) (λ κs z. z) (λ κs a ws. tt)
  -- panel_streams::own_table
  pub own_table : Source own_table_call own_table_kinds.ps own_table_kinds.r own_table.Asked own_table.Learnt
      (λ κs a. (a.0.now, a.1.0, a.1.1.0.now)) (λ κs z. z) (λ κs a ws. ws.1.1.0)
  -- panel_streams::changed
  pub changed : Source changed_call changed_kinds.ps changed_kinds.r changed.Asked changed.Learnt
      (λ κs a. (a.0.now, a.1.0, a.1.1.0.now, a.1.1.1.0)) (λ κs z. z) (λ κs a ws. tt)
