-- Codes, by which a proof tells participants apart.
use Rattle.std.specs.Prelude.{◌≡◌, ℕ, Bool, List, Option, Some, None, refl}
use Rattle.std.specs.Coded.{Coded, code_by, coded×, coded_ℕ, coded_bool, coded_list, coded_option}
use Rattle.rtcp_members.specs.Tables.{TableValue}
use Rattle.rtcp_members.specs.Codes.{table_code}
use Rattle.rtcp_timer.specs.Schedules.{Timing}
use Rattle.rtcp_wire.specs.Values.{ItemValue}
use Rattle.rtcp_engine.specs.declared.changes.IdentifierChange.{IdentifierChange}
use Rattle.rtcp_engine.specs.declared.pace.Pace.{Pace}
use Rattle.rtcp_engine.specs.answers.Setups.{Setup, SettingsValue, ClockValue}
use Rattle.rtcp_engine.specs.answers.OwnStreams.{PacketValue, OwnValue}
use Rattle.rtcp_engine.specs.state.States.{State, PhaseValue, taking_part, leaving, over, ParticipantValue}

abbrev pub item_code : Coded ItemValue
item_code =
    code_by (ℕ × List ℕ) (coded× coded_ℕ (coded_list coded_ℕ)) (λ i. (i.kind, i.text))
    (λ p. record { kind = p.0; text = p.1 }) (λ _. refl)

abbrev pub clock_code : Coded ClockValue
clock_code =
    code_by (ℕ × ℕ) (coded× coded_ℕ coded_ℕ) (λ c. (c.payload_type, c.rate))
    (λ p. record { payload_type = p.0; rate = p.1 }) (λ _. refl)

abbrev pub settings_code : Coded SettingsValue
settings_code =
    code_by (ℕ × (ℕ × (ℕ × (ℕ × (List ClockValue × List ItemValue)))))
    (coded× coded_ℕ (coded× coded_ℕ (coded× coded_ℕ (coded× coded_ℕ
    (coded× (coded_list clock_code) (coded_list item_code))))))
    (λ s. (s.sender_bw, (s.receiver_bw, (s.rate, (s.ntp_base, (s.clocks, s.extras))))))
    (λ p. record {
      sender_bw = p.0;
      receiver_bw = p.1.0;
      rate = p.1.1.0;
      ntp_base = p.1.1.1.0;
      clocks = p.1.1.1.1.0;
      extras = p.1.1.1.1.1;
    })
    (λ _. refl)

abbrev pub setup_code : Coded Setup
setup_code =
    code_by (ℕ × (List ℕ × (ℕ × (ℕ × SettingsValue))))
    (coded× coded_ℕ (coded× (coded_list coded_ℕ) (coded× coded_ℕ (coded× coded_ℕ settings_code))))
    (λ s. (s.ssrc, (s.cname, (s.capacity, (s.limit, s.settings)))))
    (λ p. record {
      ssrc = p.0;
      cname = p.1.0;
      capacity = p.1.1.0;
      limit = p.1.1.1.0;
      settings = p.1.1.1.1;
    })
    (λ _. refl)

abbrev pub timing_code : Coded Timing
timing_code =
    code_by (ℕ × (ℕ × ℕ)) (coded× coded_ℕ (coded× coded_ℕ coded_ℕ)) (λ t. (t.last, (t.next, t.known)))
    (λ p. record { last = p.0; next = p.1.0; known = p.1.1 }) (λ _. refl)

abbrev pub packet_code : Coded PacketValue
packet_code =
    code_by (ℕ × ℕ) (coded× coded_ℕ coded_ℕ) (λ p. (p.moment, p.timestamp))
    (λ p. record { moment = p.0; timestamp = p.1 }) (λ _. refl)

abbrev pub own_code : Coded OwnValue
own_code =
    code_by (Option ℕ × (Option PacketValue × (ℕ × (ℕ × Bool))))
    (coded× (coded_option coded_ℕ) (coded× (coded_option packet_code) (coded× coded_ℕ (coded× coded_ℕ coded_bool))))
    (λ o. (o.sending, (o.newest, (o.packets, (o.octets, o.heard)))))
    (λ p. record { sending = p.0; newest = p.1.0; packets = p.1.1.0; octets = p.1.1.1.0; heard = p.1.1.1.1 })
    (λ _. refl)

abbrev pub pace_code : Coded Pace
pace_code =
    code_by (ℕ × (ℕ × ℕ)) (coded× coded_ℕ (coded× coded_ℕ coded_ℕ)) (λ p. (p.sender_bw, (p.receiver_bw, p.until)))
    (λ p. record { sender_bw = p.0; receiver_bw = p.1.0; until = p.1.1 }) (λ _. refl)

abbrev pub state_code : Coded State
state_code =
    code_by (Setup × (TableValue × (Timing × (ℕ × (OwnValue × (Option ℕ × (Option Pace × (ℕ × (ℕ × ℕ)))))))))
    (coded× setup_code (coded× table_code
    (coded× timing_code (coded× coded_ℕ
    (coded× own_code (coded× (coded_option coded_ℕ)
    (coded× (coded_option pace_code) (coded× coded_ℕ (coded× coded_ℕ coded_ℕ)))))))))
    (λ s. (
      s.setup,
      (s.table, (s.timing, (s.average, (s.own, (s.cursor, (s.pace, (s.reports, (s.latest, s.calls)))))))),
    ))
    (λ p. record {
      setup = p.0;
      table = p.1.0;
      timing = p.1.1.0;
      average = p.1.1.1.0;
      own = p.1.1.1.1.0;
      cursor = p.1.1.1.1.1.0;
      pace = p.1.1.1.1.1.1.0;
      reports = p.1.1.1.1.1.1.1.0;
      latest = p.1.1.1.1.1.1.1.1.0;
      calls = p.1.1.1.1.1.1.1.1.1;
    })
    (λ _. refl)

-- ---- The whole participant

abbrev phase_number : PhaseValue → Option (Option ℕ)
phase_number taking_part = None
phase_number (leaving members) = Some (Some members)
phase_number over = Some None

abbrev phase_numbered : Option (Option ℕ) → PhaseValue
phase_numbered None = taking_part
phase_numbered (Some (Some members)) = leaving members
phase_numbered (Some None) = over

abbrev phase_again : (phase : PhaseValue) → phase_numbered (phase_number phase) ≡ phase
phase_again taking_part = refl
phase_again (leaving members) = refl
phase_again over = refl

abbrev pub phase_code : Coded PhaseValue
phase_code = code_by (Option (Option ℕ)) (coded_option (coded_option coded_ℕ)) phase_number phase_numbered phase_again

abbrev pub change_code : Coded IdentifierChange
change_code =
    code_by (ℕ × ℕ) (coded× coded_ℕ coded_ℕ) (λ c. (c.peer, c.former)) (λ p. record { peer = p.0; former = p.1 })
    (λ _. refl)

abbrev pub participant_code : Coded ParticipantValue
participant_code =
    code_by (State × (PhaseValue × List IdentifierChange))
    (coded× state_code (coded× phase_code (coded_list change_code)))
    (λ p. (p.presence, (p.phase, p.changes))) (λ p. record { presence = p.0; phase = p.1.0; changes = p.1.1 })
    (λ _. refl)
