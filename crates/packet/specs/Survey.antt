-- What a reading gives that follows 49A (document 02, C-13): the packet; and of type 1, which 49A governs, the pad count, the two words of the payload's
-- format, and n, the items of the payload. Of other types these four are zero.
use Rattle.std.specs.Prelude.{ℕ, true, List, eqb, get_or}
use Rattle.words.specs.Tests.{when}
use Rattle.words.specs.Outcome.{Outcome, accepted}
use Rattle.words.specs.Refusals.{first_given}
use Rattle.packet_survey.specs.Class.{pad_of}
use Rattle.packet_survey.specs.Payload.{items_in, format_first, format_second}
use Rattle.packet.specs.Header.{type_of}
use Rattle.packet.specs.Parts.{body_length, class_high, class_low, packet_of}
use Rattle.packet.specs.Read.{list_by}
use Rattle.packet.specs.declared.Survey.{Survey}

unfoldable pub survey_of : ℕ → List ℕ → Survey
survey_of w ws =
    let governs = eqb (type_of w) 1 in
    record {
      packet = packet_of w ws;
      pad = when governs (pad_of (class_high w ws));
      first = when governs (format_first (class_low w ws));
      second = when governs (format_second (class_low w ws));
      items = when governs (items_in (class_high w ws) (class_low w ws) (body_length w));
    }

unfoldable pub read_survey_of : List ℕ → Outcome Survey
read_survey_of ws = first_given (list_by true (get_or ws 0 0) ws) (accepted (survey_of (get_or ws 0 0) ws))
