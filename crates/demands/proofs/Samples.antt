-- The bench's samples hold, and those of places: each row is computed.
use mathlib.Core.Path.{refl}
use lib.Count.{count_trailing_zeros}
use Rattle.words.specs.Part.{part}
use Rattle.words.specs.SetBits.{bits_of, above}
use Rattle.words.specs.All.{all}
use Rattle.fields.specs.Sizes.{field_size, ascii_words, list_words, words_of}
use Rattle.fields.specs.Format.{code_known, code_fits, format_ok}
use Rattle.fields.specs.Rules.{not_negative, upper_half_zero, device_rule, state_rule, format_rule, ascii_rule, lists_rule, rule_of}
use Rattle.fields.specs.Layout.{span_of, obeyed, body_words, place_of, low_bits_set, other_length, rule_broken}
use Rattle.fields.specs.Broken.{breaks, first_broken, broken_of}
use Rattle.packet.specs.Header.{trailed, tsm_of, reserved_of}
use Rattle.packet.specs.Parts.{streamed, has_seconds, has_fraction, class_at, seconds_at, fraction_at, body_at, required_of, body_length, word_if, class_high}
use Rattle.packet.specs.Parts.{class_low}
use Rattle.packet.specs.Parts.{fraction_of, parts_of, body_of, packet_of}
use Rattle.packet.specs.Read.{time_over, class_bad, read_by}
use Rattle.packet.specs.Told.{where_of, read_told}
use Rattle.bitstream.specs.Stream.{bit, span}
use Rattle.bitstream.specs.Carried.{stream_bits, packing_field, word_of, needed}
use Rattle.bitstream.specs.Filled.{list_of, filled}
use Rattle.payload_format.specs.Format.{component_count, wide_processing, format_bad, carried_bits, packing_of}
use Rattle.payload_format.specs.Count.{group_of, count_bad, words_for}
use Rattle.payload_pack.specs.Pack.{fitting, value_bad, pack_of}
use Rattle.payload_unpack.specs.Unpack.{unpack_of}
use Rattle.words.specs.Signed.{twos_complement}
use Rattle.payload_format.specs.Signs.{signed_of}
use Rattle.record.specs.Counts.{missed_of}
use Rattle.panel.specs.Values.{units_of, share, over, lower_half}
use Rattle.panel.specs.Readings.{is_frequency, shown_of}
use Rattle.demands.specs.Samples.{Hold, bench}
use Rattle.demands.specs.PlacesTold.{refused_at}
use Rattle.vrt49.proofs.CallLaws.{◌and◌}

pub samples : Hold bench
unfolding bench read_told where_of class_bad part bits_of above all field_size ascii_words list_words words_of code_known code_fits format_ok not_negative
    upper_half_zero device_rule state_rule format_rule ascii_rule lists_rule rule_of span_of obeyed body_words low_bits_set other_length rule_broken trailed
    tsm_of reserved_of streamed has_seconds has_fraction class_at seconds_at fraction_at body_at required_of body_length word_if class_high class_low
    fraction_of parts_of body_of packet_of time_over read_by bit span stream_bits packing_field word_of needed list_of filled component_count wide_processing
    format_bad carried_bits packing_of group_of count_bad words_for fitting value_bad pack_of unpack_of twos_complement signed_of missed_of units_of
    lower_half share over is_frequency shown_of count_trailing_zeros
samples =
    refl and refl and refl and refl and refl and refl and refl and refl and refl and refl and refl and refl and refl and refl and refl and refl and refl and
    refl and refl and refl and refl and tt

-- where some packets are refused
pub refused_at_lem : Hold refused_at
unfolding refused_at read_told where_of broken_of first_broken breaks place_of class_bad part bits_of above field_size ascii_words list_words words_of
    code_known code_fits format_ok not_negative upper_half_zero device_rule state_rule format_rule ascii_rule lists_rule rule_of span_of obeyed body_words
    low_bits_set other_length rule_broken trailed tsm_of reserved_of streamed has_seconds has_fraction class_at seconds_at fraction_at body_at required_of
    body_length word_if class_high class_low fraction_of parts_of body_of packet_of time_over read_by
refused_at_lem =
    refl and refl and refl and refl and refl and refl and refl and refl and refl and refl and refl and refl and refl and refl and refl and tt
