-- The demands are met. Each line cites the theorem that proves it.
use Rattle.words.proofs.Kit.{refl, ◌∙◌, []}
use Rattle.packet_trailer.proofs.TrailerLaws.{trailer_again, trailer_back_lem}
use Rattle.table.proofs.StartLaws.{start_well_made}
use Rattle.vrt49.proofs.CallLaws.{every_once, every_some, every_leaves, every_order, every_zero, every_parts}
use Rattle.demands.specs.Calls.{calls}
use Rattle.demands.specs.Program.{ours}
use Rattle.demands.specs.Demands.{Demand1, Demand2, Demand3}
use Rattle.demands.proofs.Sources.{sources}
use Rattle.demands.proofs.SourcesForC.{sources_for_c}
use Rattle.demands.proofs.Answered.{some_outcome}
use Rattle.demands.proofs.Once.{one_outcome, each_refusal}
use Rattle.demands.proofs.InOrder.{in_order_lem}
use Rattle.demands.proofs.WellMade.{judged}
use Rattle.demands.proofs.PlacesTold.{places_told}
use Rattle.demands.proofs.FieldFound.{fields_found}
use Rattle.demands.proofs.Again.{written_again}
use Rattle.demands.proofs.Back.{written_back}
use Rattle.demands.proofs.Survey.{one_n, others_plain, unlisted_plain, survey_samples_lem}
use Rattle.demands.proofs.RoundTrip.{pack_then_unpack, unpack_then_pack}
use Rattle.demands.proofs.Packings.{packed_as, unpacked_as}
use Rattle.demands.proofs.ItemsNumbered.{numbered, as_figures}
use Rattle.demands.proofs.ShownAs.{shown_as}
use Rattle.demands.proofs.RightLaws.{start_accepts, right_start, right_on, answers_on, past_on}
use Rattle.demands.proofs.Resumed.{saves, resumes, no_room, days}
use Rattle.demands.proofs.Jumped.{starts_index, starts_where, grows, grows_where, grows_full, as_run, hands, jumps, jumps_right, place_exact, page_exact}
use Rattle.demands.proofs.Lights.{lights_out}
use Rattle.demands.proofs.PanelShows.{shows, changes}
use Rattle.demands.proofs.OwnRight.{own_right}
use Rattle.demands.proofs.RunLaws.{runs}
use Rattle.demands.proofs.PastUnread.{past_unread}
use Rattle.demands.proofs.Separate.{apart, refused_apart}

pub demand_1 : Demand1
demand_1 = record {
  sources = sources;
  answered = some_outcome;
  once = one_outcome;
  numbers = in_order_lem;
  well_made_lem = judged;
  refusals = each_refusal calls;
  for_c = record {
    sources = sources_for_c;
    answered = every_some;
    once = every_once;
    numbers = every_order;
    values = every_zero;
    places = every_parts;
    refusals = every_leaves;
  };
}

pub demand_2 : Demand2 ours
demand_2 = record {
  reads = λ ws. refl;
  reads_survey = λ ws. refl;
  places = places_told;
  finds = λ b body. refl;
  writes = λ p body out at. refl;
  writes_survey = λ pad p body out at. refl;
  trailers = λ w. refl;
  trailer_words_lem = λ enables indicators e associated. refl;
  packs = λ first second items events channels out. refl;
  words_needed_lem = λ first second n. refl;
  unpacks = λ first second n ws b. refl;
  fields = fields_found;
  again = written_again;
  back = written_back;
  one_n = one_n;
  others_plain = others_plain;
  survey_samples_lem = survey_samples_lem;
  trailer_again = trailer_again;
  trailer_back_lem = trailer_back_lem;
  unpacked = pack_then_unpack;
  packed = unpack_then_pack;
  packs_as = packed_as;
  unpacks_as = unpacked_as;
  coordinates = λ first second n item. refl;
  items = λ first second n at. refl;
  numbered = numbered;
  as_figures = as_figures;
  readings = λ table stream bit. refl;
  shown_as = shown_as;
}

pub demand_3 : Demand3 ours
demand_3 = record {
  starts = start_accepts;
  right = λ list t d e packets. right_on list [] packets d.leaves (right_start list t d e);
  answers = λ list t d e packets. answers_on list [] packets d.leaves (right_start list t d e);
  past = λ list t d e packets. past_on list packets d.leaves (right_start list t d e).streams ∙ (start_well_made list.ids list.choices t d e).past;
  unlisted_plain = unlisted_plain;
  lights_out = lights_out;
  shows = shows;
  changes = changes;
  own = own_right;
  runs = runs;
  unread = past_unread;
  saves = saves;
  resumes = λ list first rest t r buffer saved s lent room. resumes list first t r buffer saved s lent rest room;
  no_room = no_room;
  days = λ list first packets t last answers stops r d. days list first t r packets last answers stops d;
  starts_index = starts_index;
  starts_where = starts_where;
  grows = grows;
  grows_where = grows_where;
  grows_full = grows_full;
  as_run = as_run;
  hands = hands;
  jumps = jumps;
  jumps_right = jumps_right;
  place_exact = place_exact;
  page_exact = page_exact;
  apart = λ list t u d e x y s h ps qs a. apart list d.leaves e.leaves (right_start list t d x) (right_start list u e y) s h ps qs a;
  refused_apart = refused_apart;
}
