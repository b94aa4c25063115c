-- Each call gives the first refusal of its list that applies, by its definition; where its refusals are told where, so are those of the list (`told_first`).
-- The numbers of the list are the document's, since they are numbers, and the places are the lines of `where_of`.
use Rattle.words.proofs.Kit.{refl, true, get_or}
use Rattle.words.proofs.ToldLaws.{told_first}
use Rattle.fields.specs.Layout.{context_of}
use Rattle.packet.specs.Read.{read_by, read_list, list_by}
use Rattle.packet.specs.Survey.{read_survey_of}
use Rattle.packet.specs.Told.{where_of, read_told, survey_told}
use Rattle.packet_trailer.specs.Trailer.{trailer_word_of}
use Rattle.packet_write.specs.Write.{pad_fits, write_by}
use Rattle.payload_format.specs.Count.{needed_of}
use Rattle.payload_order.specs.Numbering.{coordinates_of, item_of}
use Rattle.payload_pack.specs.Pack.{pack_of}
use Rattle.payload_format.specs.Signs.{signed_of}
use Rattle.payload_unpack.specs.Unpack.{unpack_of}
use Rattle.table.specs.Start.{start_of}
use Rattle.play.specs.Play.{play_list, play_of, play_told}
use Rattle.play.specs.Run.{run_of}
use Rattle.page.specs.Save.{length_of, save_of}
use Rattle.page.specs.PutBack.{put_back_of}
use Rattle.index.specs.Start.{start_index_of}
use Rattle.index_grow.specs.Grow.{grow_list, grow_of, grow_told}
use Rattle.index_jump.specs.Jump.{jump_of}
use Rattle.panel.specs.AllReadings.{readings_of}
use Rattle.panel.specs.HeldWords.{held_words_of}
use Rattle.panel.specs.Readings.{reading_of}
use Rattle.panel_streams.specs.Identity.{identity_of}
use Rattle.panel_streams.specs.TypeCounts.{type_counts_of}
use Rattle.panel_streams.specs.OwnTable.{own_table_of}
use Rattle.panel_streams.specs.Changed.{changed_of}
use Rattle.demands.specs.Refusals.{InOrder}

pub in_order_lem : InOrder
unfolding read_by read_survey_of read_told survey_told play_told where_of pad_fits write_by start_of play_of save_of put_back_of start_index_of grow_of
    grow_told jump_of reading_of pack_of unpack_of signed_of coordinates_of item_of context_of needed_of trailer_word_of run_of length_of readings_of
    held_words_of identity_of type_counts_of own_table_of changed_of
in_order_lem = record {
  listed = refl;
  read = λ ws. record { order = refl; first = told_first (where_of ws) (read_list (get_or ws 0 0) ws) _ };
  write = λ p body out at. record { order = refl; first = refl };
  read_survey = λ ws. record { order = refl; first = told_first (where_of ws) (list_by true (get_or ws 0 0) ws) _ };
  write_survey = λ pad p body out at. record { order = refl; first = refl };
  start = λ ids choices t. record { order = refl; first = refl };
  play = λ t ws. record { order = refl; first = told_first (where_of ws) (play_list t ws) _ };
  save = λ t page. record { order = refl; first = refl };
  put_back = λ p t. record { order = refl; first = refl };
  start_index = λ t ix. record { order = refl; first = refl };
  grow = λ t ws ix. record { order = refl; first = told_first (where_of ws) (grow_list t ws ix) _ };
  jump = λ ws first ix n t. record { order = refl; first = refl };
  reading = λ t stream bit. record { order = refl; first = refl };
  pack = λ first second items events channels out. record { order = refl; first = refl };
  unpack = λ first second n ws b. record { order = refl; first = refl };
  signed = λ w x. record { order = refl; first = refl };
  coordinates_of = λ first second n item. record { order = refl; first = refl };
  item_at = λ first second n at. record { order = refl; first = refl };
  check_body = λ body. record { order = refl; first = refl };
  words_needed = λ first second n. record { order = refl; first = refl };
  trailer_word = λ enables indicators e associated. record { order = refl; first = refl };
  play_run = λ t ws from out. record { order = refl; first = refl };
  page_length_of = λ t. record { order = refl; first = refl };
  readings = λ t stream. record { order = refl; first = refl };
  held_words = λ t stream bit out. record { order = refl; first = refl };
  identity = λ t stream. record { order = refl; first = refl };
  counts = λ t stream kind. record { order = refl; first = refl };
  own_table = λ t stream out. record { order = refl; first = refl };
  changed = λ t s u v. record { order = refl; first = refl };
}
