-- Codes, by which a proof tells guarded participants apart.
use Rattle.std.specs.Prelude.{ℕ, List, Option, refl}
use Rattle.std.specs.Coded.{Coded, code_by, coded×, coded_ℕ, coded_list, coded_option}
use Rattle.rtcp_engine.specs.state.Codes.{participant_code}
use Rattle.rtcp_engine.specs.state.States.{ParticipantValue}
use Rattle.rtcp_guard.specs.Claims.{Claim}
use Rattle.rtcp_guard.specs.Guarding.{GuardValue}
use Rattle.rtcp_guard.specs.declared.settings.Settings.{Settings}
use Rattle.rtcp_guard.specs.declared.verdict.HeldBack.{HeldBack}
use Rattle.rtcp_guarded.specs.Views.{GuardedValue}

abbrev pub settings_code : Coded Settings
settings_code =
    code_by (ℕ × (ℕ × (ℕ × ℕ))) (coded× coded_ℕ (coded× coded_ℕ (coded× coded_ℕ coded_ℕ)))
    (λ s. (s.sources, (s.names, (s.trusted_names, s.hold))))
    (λ p. record { sources = p.0; names = p.1.0; trusted_names = p.1.1.0; hold = p.1.1.1 }) (λ _. refl)

abbrev pub claim_code : Coded Claim
claim_code =
    code_by (ℕ × (ℕ × (ℕ × ℕ))) (coded× coded_ℕ (coded× coded_ℕ (coded× coded_ℕ coded_ℕ)))
    (λ c. (c.ssrc, (c.origin, (c.last, c.goodbyes))))
    (λ p. record { ssrc = p.0; origin = p.1.0; last = p.1.1.0; goodbyes = p.1.1.1 }) (λ _. refl)

abbrev pub held_back_code : Coded HeldBack
held_back_code =
    code_by (ℕ × (ℕ × (Option ℕ × Option ℕ)))
    (coded× coded_ℕ (coded× coded_ℕ (coded× (coded_option coded_ℕ) (coded_option coded_ℕ))))
    (λ h. (h.strangers, (h.crowds, (h.last_stranger, h.last_crowd))))
    (λ p. record { strangers = p.0; crowds = p.1.0; last_stranger = p.1.1.0; last_crowd = p.1.1.1 }) (λ _. refl)

abbrev pub guard_code : Coded GuardValue
guard_code =
    code_by (Settings × (List Claim × (List ℕ × HeldBack)))
    (coded× settings_code (coded× (coded_list claim_code) (coded× (coded_list coded_ℕ) held_back_code)))
    (λ g. (g.settings, (g.claims, (g.trusted, g.held_back))))
    (λ p. record { settings = p.0; claims = p.1.0; trusted = p.1.1.0; held_back = p.1.1.1 }) (λ _. refl)

abbrev pub guarded_code : Coded GuardedValue
guarded_code =
    code_by (ParticipantValue × GuardValue) (coded× participant_code guard_code) (λ g. (g.participant, g.guard))
    (λ p. record { participant = p.0; guard = p.1 }) (λ _. refl)
