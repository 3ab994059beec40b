-- Ports that the system picked, and what tells them.
use Rattle.std.specs.Prelude.{ℕ, ◌==◌, List, [], ◌++◌, if◌then◌else◌, codes}
use Rattle.std.specs.Fmt.{decimal}
use Rattle.rtcp_command.specs.Endpoints.{Endpoint}

-- the line of an endpoint whose port was left to the system by a 0, by the option's name
abbrev pub picked_text : (name : List ℕ) → (asked bound : Endpoint) → List ℕ
picked_text name asked bound =
    if asked.port == 0 then codes "bound " ++ name ++ codes " port=" ++ decimal bound.port ++ codes "\n" else []

abbrev pub picks_text : (rtp_asked rtp_bound rtcp_asked rtcp_bound : Endpoint) → List ℕ
picks_text rtp_asked rtp_bound rtcp_asked rtcp_bound =
    picked_text (codes "rtp") rtp_asked rtp_bound ++ picked_text (codes "rtcp") rtcp_asked rtcp_bound
