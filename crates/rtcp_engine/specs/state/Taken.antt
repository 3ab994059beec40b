-- Histories that a participant can have.
use Rattle.std.specs.Prelude.{◌≡◌, ℕ, ◌<◌, ◌^◌, List, [], ◌∷◌, length, None}
use Rattle.rtcp_engine.specs.answers.Setups.{Setup, IsUsable}
use Rattle.rtcp_engine.specs.answers.Acts.{Datagram, Act, arrived, rtp_sent, ticked, left, configured, forgotten}
use Rattle.rtcp_engine.specs.answers.Changes.{named_by}
use Rattle.rtcp_engine.specs.answers.Histories.{History}
use Rattle.rtcp_engine.specs.answers.Answers.{refusal_after}

-- A datagram names few identifiers: one of 65,535 octets has room for some 16,000.
abbrev pub NamesFew : Datagram → Type 0
NamesFew datagram = length (named_by datagram) < 2 ^ 31

-- The words of an act, and an SSRC that the host tells, have 32 bits.
abbrev pub HasWords : Act → Type 0
HasWords (arrived moment peer word datagram) = word < 2 ^ 32
HasWords (rtp_sent moment timestamp octets) = (timestamp < 2 ^ 32) × (octets < 2 ^ 32)
HasWords (ticked moment first_word second_word) = (first_word < 2 ^ 32) × (second_word < 2 ^ 32)
HasWords (left moment word) = word < 2 ^ 32
HasWords (configured moment settings) = Unit {0}
HasWords (forgotten moment ssrc) = ssrc < 2 ^ 32

-- An act gives no clocks of payload types, and no other rate.
abbrev pub GivesNoClocks : (rate : ℕ) → Act → Type 0
GivesNoClocks rate (configured moment settings) = (settings.clocks ≡ []) × (settings.rate ≡ rate)
GivesNoClocks rate act = Unit {0}

-- Each act was taken when it came.
abbrev pub AllTaken : Setup → (word : ℕ) → List Act → Type 0
AllTaken setup word [] = Unit {0}
AllTaken setup word (act ∷ earlier) =
    (refusal_after (record { setup = setup; word = word; acts = earlier }) act ≡ None)
    × HasWords act × AllTaken setup word earlier

-- a session that begins
abbrev pub begun : Setup → (word : ℕ) → History
begun setup word = record { setup = setup; word = word; acts = [] }

-- The participant was set up as it may be, and each act was taken.
pub record IsHistory (history : History) : Type 0 where
  pub usable : IsUsable history.setup
  pub word : history.word < 2 ^ 32
  pub taken : AllTaken history.setup history.word history.acts
