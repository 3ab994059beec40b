-- Compounds that are about one source, as those are that a participant sends of itself alone: a report, its CNAME, and
-- perhaps more of the same (RFC 3550, 6.1 and 6.4 to 6.7).
use Rattle.std.specs.Prelude.{◌≡◌, ℕ, ◌==◌, Bool, true, false, List, [], ◌∷◌, ◌++◌, Option, Some, None}
use Rattle.std.specs.List.{list_all, list_any}
use Rattle.rtcp_wire.specs.declared.fact.Fact.{Fact}
use Rattle.rtcp_wire.specs.declared.fact.Fact.TheVariants.{Heard, Told, Named, Gone, Media}
use Rattle.rtcp_wire.specs.declared.sole.SoleSource.{SoleSource}

-- whether a fact says of this source that it was heard, or gave its CNAME
abbrev pub is_presence_of : (ssrc : ℕ) → Fact → Bool
is_presence_of ssrc (Heard own) = own == ssrc
is_presence_of ssrc (Told own ntp rtp) = false
is_presence_of ssrc (Named own) = own == ssrc
is_presence_of ssrc (Gone own) = false
is_presence_of ssrc (Media own seq timestamp octets rate) = false

-- whether it says that a source gave its CNAME
abbrev pub is_name : Fact → Bool
is_name (Heard own) = false
is_name (Told own ntp rtp) = false
is_name (Named own) = true
is_name (Gone own) = false
is_name (Media own seq timestamp octets rate) = false

-- what a source told of its clock, if it did
abbrev pub clock_told : (ssrc : ℕ) → Option (ℕ × ℕ) → List Fact
clock_told ssrc None = []
clock_told ssrc (Some (ntp, rtp)) = Told ssrc ntp rtp ∷ []

-- what the report says that begins the compound
abbrev pub report_facts : SoleSource → List Fact
report_facts source = Heard source.ssrc ∷ clock_told source.ssrc source.timestamps

-- These facts are of one source: those of its report, and then only that it was heard, or gave its CNAME.
pub record IsSole (source : SoleSource) (facts : List Fact) : Type 0 where
  pub others : List Fact
  pub parts : facts ≡ report_facts source ++ others
  pub alone : list_all (is_presence_of source.ssrc) others ≡ true
  pub named : list_any is_name others ≡ source.is_named

-- What such a source says: what it told of its clock and that it gave its CNAME, or else that it was heard. Both say
-- that it was heard.
abbrev pub said_of : (ssrc : ℕ) → Option (ℕ × ℕ) → (is_named : Bool) → List Fact
said_of ssrc None false = Heard ssrc ∷ []
said_of ssrc None true = Named ssrc ∷ []
said_of ssrc (Some (ntp, rtp)) false = Told ssrc ntp rtp ∷ []
said_of ssrc (Some (ntp, rtp)) true = Told ssrc ntp rtp ∷ Named ssrc ∷ []

abbrev pub facts_of_sole : SoleSource → List Fact
facts_of_sole source = said_of source.ssrc source.timestamps source.is_named
