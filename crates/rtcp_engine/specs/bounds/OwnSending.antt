-- Whether the participant counts as a sender, in other words (RFC 3550, 6.3.8).
use Rattle.std.specs.Prelude.{◌≡◌, ℕ, ◌≤◌, List, [], ◌∷◌, ◌++◌}
use Rattle.rtcp_engine.specs.answers.OwnStreams.{OwnStep, packet_sent, check_passed, report_sent, counts_anew}

-- No packet, and no check with a horizon after this moment.
abbrev pub OutlastsChecks : (moment : ℕ) → List OwnStep → Type 0
OutlastsChecks moment [] = Unit {0}
OutlastsChecks moment (packet_sent at timestamp octets ∷ earlier) = ⊥
OutlastsChecks moment (check_passed idle ∷ earlier) = (idle ≤ moment) × OutlastsChecks moment earlier
OutlastsChecks moment (report_sent ∷ earlier) = OutlastsChecks moment earlier
OutlastsChecks moment (counts_anew ∷ earlier) = OutlastsChecks moment earlier

-- The newest packet was sent at this moment, and no check since then has a later horizon.
pub record IsSendingSince (own : List OwnStep) (moment : ℕ) : Type 0 where
  pub since : List OwnStep
  pub timestamp : ℕ
  pub octets : ℕ
  pub before : List OwnStep
  pub parts : own ≡ since ++ packet_sent moment timestamp octets ∷ before
  pub recent : OutlastsChecks moment since
