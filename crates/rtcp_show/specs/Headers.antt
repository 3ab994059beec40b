-- The line before those of a session, as `rtcp listen --show` writes it.
use Rattle.std.specs.Prelude.{ℕ, List, [], ◌∷◌, ◌++◌, codes}
use Rattle.rtcp_text.specs.Text.{hex_word}
use Rattle.rtcp_plain.specs.Numbers.{quoted_text}
use Rattle.rtcp_show.specs.Numbers.{peer_text}

-- who the participant is
abbrev pub name_text : (ssrc : ℕ) → (cname : List ℕ) → List ℕ
name_text ssrc cname = codes "session ssrc=" ++ hex_word ssrc ++ codes " cname=" ++ quoted_text cname

-- and where RTP comes in, where RTCP comes in, and where it goes, by the numbers of peers
abbrev pub header_text : (ssrc : ℕ) → (cname : List ℕ) → (rtp rtcp to : ℕ) → List ℕ
header_text ssrc cname rtp rtcp to =
    name_text ssrc cname ++ codes " rtp=" ++ peer_text rtp ++ codes " rtcp=" ++ peer_text rtcp
    ++ codes " peer=" ++ peer_text to ++ 10 ∷ []
