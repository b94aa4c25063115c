-- What a reading as 49A tells. The idea: its packet is one that reading by that choice accepts, so its numbers fit words; and its values are those of the
-- packet, copied, and four more behind them.
use Rattle.words.proofs.Kit.{◌≡◌, true, List, ℕ, set}
use lib.ListN.{replicate}
use Rattle.words.specs.Part.{part, put}
use Rattle.words.specs.Outcome.{accepted}
use Rattle.packet.specs.declared.Survey.{Survey}
use Rattle.packet.specs.Read.{read_by}
use Rattle.packet.specs.Told.{survey_told}
use Rattle.packet.proofs.FrontLaws.{survey_read}
use Rattle.packet.proofs.ToldLaws.{told_given}
use Rattle.vrt49.specs.Packets.{packet_values, survey_values}

pub survey_packet : (ws : List ℕ) (s : Survey) → survey_told ws ≡ accepted s → read_by true ws ≡ accepted s.packet
survey_packet ws s e = rw (survey_read ws, told_given ws s e)

pub survey_laid : (s : Survey) (p values : List ℕ) → p ≡ packet_values s.packet → values ≡ put 0 18 (part 0 18 p) (replicate 22 0)
    → set (set (set (set values 18 s.pad) 19 s.first) 20 s.second) 21 s.items ≡ survey_values s
unfolding part put
survey_laid s p values e f = rw (f, e)
