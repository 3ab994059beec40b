-- The values of JSON that the sources of a session are shown as.
--
--   {"moment":4000000,"members":2,"senders":1,"sources":[{"ssrc":"00000007","member":true,"sender":true,"left":null,
--   "packets":2,"lost":1,"jitter":1,"rate":8000}]}
use Rattle.std.specs.Prelude.{◌≡◌, ℕ, List, [], ◌∷◌, Option, Some, None, map, codes}
use Rattle.json.specs.Json.{Json, null, boolean}
use Rattle.rtcp_source.specs.Receptions.{ReceptionValue}
use Rattle.rtcp_members.specs.Listings.{StateValue}
use Rattle.rtcp_engine.specs.answers.Histories.{History, life_at, setup_at}
use Rattle.rtcp_engine.specs.answers.Lives.{WalksInLife, members_in_life, senders_in_life}
use Rattle.rtcp_engine.specs.state.States.{ParticipantValue, StandsAt}
use Rattle.rtcp_json.specs.JsonValues.{array_of, number_json, object_of, optional_json, signed_json, word_json}

-- ---- Who is there

-- how many members and senders there are, with the participant, and what is told of each source
pub record Listing : Type 0 where
  pub members : ℕ
  pub senders : ℕ
  pub sources : List StateValue

-- It is that after a history.
pub record IsListing (history : History) (listing : Listing) : Type 0 where
  pub members : listing.members ≡ members_in_life (setup_at history) (life_at history)
  pub senders : listing.senders ≡ senders_in_life (setup_at history) (life_at history)
  pub walk : WalksInLife (setup_at history) (life_at history) listing.sources

-- It is that of a participant.
abbrev pub Lists : ParticipantValue → Listing → Type 0
Lists participant listing = (history : History) → StandsAt participant history → IsListing history listing

-- ---- Values

-- how packets come, where one was counted
abbrev pub reception_fields : Option ReceptionValue → List (List ℕ × Json)
reception_fields None =
    (codes "packets", null) ∷ (codes "lost", null) ∷ (codes "jitter", null) ∷ (codes "rate", null) ∷ []
reception_fields (Some reception) =
    (codes "packets", number_json reception.received)
    ∷ (codes "lost", signed_json reception.lost)
    ∷ (codes "jitter", number_json reception.jitter)
    ∷ (codes "rate", number_json reception.rate)
    ∷ []

abbrev pub source_json : StateValue → Json
source_json state = object_of (
    (codes "ssrc", word_json state.ssrc)
    ∷ (codes "member", boolean state.member)
    ∷ (codes "sender", boolean state.sender)
    ∷ (codes "left", optional_json number_json state.left)
    ∷ reception_fields state.reception
    )

abbrev pub listing_fields : Listing → List (List ℕ × Json)
listing_fields listing =
    (codes "members", number_json listing.members)
    ∷ (codes "senders", number_json listing.senders)
    ∷ (codes "sources", array_of (map source_json listing.sources))
    ∷ []

abbrev pub listing_json : Listing → Json
listing_json listing = object_of (listing_fields listing)

-- the same with the moment of an event, in microseconds
abbrev pub dated_json : (moment : ℕ) → Listing → Json
dated_json moment listing = object_of ((codes "moment", number_json moment) ∷ listing_fields listing)
