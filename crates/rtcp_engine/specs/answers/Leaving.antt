-- Leaving a session (RFC 3550, 6.3.7): silently, with a BYE at once, or with a BYE after a backoff in which
-- nothing counts but the BYE packets of others. Lists are newest first.
use Rattle.std.specs.Prelude.{ℕ, ◌+◌, ◌==◌, ◌&&◌, not, Bool, true, false, nat_le, min, List, [], ◌∷◌, length, map, filter, sum_by, if◌then◌else◌, Option, Some, None, Result, Ok, Err}
use Rattle.rtcp_clock.specs.Intervals.{drawn_interval}
use Rattle.rtcp_wire.specs.declared.fault.WireFault.{WireFault}
use Rattle.rtcp_wire.specs.Values.{RtcpPacket, bye}
use Rattle.rtcp_timer.specs.declared.load.Load.{Load}
use Rattle.rtcp_timer.specs.Loads.{interval_of, average_of}
use Rattle.rtcp_timer.specs.Schedules.{Happening, transmitted, tried, Timing, schedule_at}
use Rattle.rtcp_engine.specs.answers.Setups.{Setup}
use Rattle.rtcp_engine.specs.answers.OwnStreams.{has_sent, counts_anew}
use Rattle.rtcp_engine.specs.answers.Reporting.{bye_octets}
use Rattle.rtcp_engine.specs.answers.Outcomes.{Outcome, member_count}

-- ---- Backing off

abbrev pub is_bye : RtcpPacket → Bool
is_bye (bye ids reason) = true
is_bye _ = false

-- a compound with BYE packets: how many, and its size
pub record ByeCompound : Type 0 where
  pub byes : ℕ
  pub size : ℕ

-- What came since the participant began to back off.
pub record Backoff : Type 0 where
  -- the moment of its leave
  pub since : ℕ
  -- the compounds with BYE packets that were accepted since
  pub bye_compounds : List ByeCompound
  -- what happened to the schedule, from the start of the session on
  pub happenings : List Happening

-- The members that are leaving: the participant, and one for each BYE packet, as far as 16 bits go.
abbrev pub leaving_count : Backoff → ℕ
leaving_count backoff = min 65535 (1 + sum_by (λ bye_compound. bye_compound.byes) backoff.bye_compounds)

-- The participant counts as one that joins, and does not send. The average begins anew with its own BYE, and those of
-- others move it.
abbrev pub leaving_load : Setup → (members : ℕ) → List ByeCompound → Load
leaving_load setup members bye_compounds = record {
  members = members;
  senders = 0;
  we_sent = false;
  initial = true;
  avg = average_of (length (bye_octets setup)) (map (λ bye_compound. bye_compound.size) bye_compounds);
  sender_bw = setup.settings.sender_bw;
  receiver_bw = setup.settings.receiver_bw;
}

abbrev pub leaving_interval : Setup → Backoff → ℕ
leaving_interval setup backoff = interval_of (leaving_load setup (leaving_count backoff) backoff.bye_compounds)

abbrev pub leaving_timing : Backoff → Timing
leaving_timing backoff = schedule_at backoff.happenings

abbrev pub with_byes_of : (byes size : ℕ) → Backoff → Backoff
with_byes_of byes size backoff =
    record backoff { bye_compounds = record { byes = byes; size = size } ∷ backoff.bye_compounds }

-- A compound counts if it has a BYE packet.
abbrev pub with_byes : (size : ℕ) → Result (List RtcpPacket) WireFault → Backoff → Backoff
with_byes size (Ok packets) backoff =
    let byes = length (filter is_bye packets) in if byes == 0 then backoff else with_byes_of byes size backoff
with_byes size (Err fault) backoff = backoff

-- Where a participant is in its session.
pub data Life : Type 0 where
  -- it takes part
  present : Outcome → Life
  -- it left, and has yet to say so
  backing_off : Outcome → Backoff → Life
  -- it left for good
  finished : Outcome → Life

-- ---- What functions do one after the other: each unfolds to a part of an act (Lives)

abbrev pub bye_count : List RtcpPacket → ℕ
bye_count packets = length (filter is_bye packets)

abbrev pub leaving_average : Setup → List ByeCompound → ℕ
leaving_average setup bye_compounds =
    average_of (length (bye_octets setup)) (map (λ bye_compound. bye_compound.size) bye_compounds)

abbrev pub counted_anew : Outcome → Outcome
counted_anew outcome = record outcome { own = counts_anew ∷ outcome.own }

abbrev pub is_bye_due : Setup → (t word : ℕ) → Backoff → Bool
is_bye_due setup t word backoff =
    nat_le (leaving_timing backoff).next t
    && nat_le ((leaving_timing backoff).last + drawn_interval (leaving_interval setup backoff) word) t

-- a tick that sends no BYE: its moment has not come, or it is put off
abbrev pub after_wait : Setup → (t word : ℕ) → Backoff → Backoff
after_wait setup t word backoff =
    if nat_le (leaving_timing backoff).next t
    then record backoff {
      happenings =
          tried t (drawn_interval (leaving_interval setup backoff) word) (leaving_count backoff)
          ∷ backoff.happenings;
    }
    else backoff

-- nothing was sent under the present identifier, no report and no RTP packet
abbrev pub sent_nothing : Outcome → Bool
sent_nothing outcome = not (has_sent outcome.own)

-- The most members with which a BYE goes out at once.
abbrev pub few_members : ℕ
few_members = 50

-- A backoff begins as if the participant, alone, had just sent a compound.
abbrev pub backoff_from : Setup → (t word : ℕ) → Outcome → Backoff
backoff_from setup t word outcome = record {
  since = t;
  bye_compounds = [];
  happenings =
      transmitted t (drawn_interval (interval_of (leaving_load setup 1 [])) word) 1 ∷ outcome.happenings;
}

-- What a leave makes of a session, without a check before it.
abbrev pub left_at : Setup → (t word : ℕ) → Outcome → Life
left_at setup t word outcome =
    if sent_nothing outcome then finished outcome
    else (if nat_le (member_count setup outcome) few_members then finished outcome
    else backing_off outcome (backoff_from setup t word outcome))

-- the BYE that goes out at once, if one does
abbrev pub bye_at_once : Setup → Outcome → Option (List ℕ)
bye_at_once setup outcome =
    if sent_nothing outcome then None
    else (if nat_le (member_count setup outcome) few_members then Some (bye_octets setup) else None)

-- what a tick makes of a backoff
abbrev pub after_waiting_tick : Setup → (t word : ℕ) → Outcome → Backoff → Life
after_waiting_tick setup t word outcome backoff =
    if is_bye_due setup t word backoff then finished outcome
    else backing_off outcome (after_wait setup t word backoff)

-- The old identifier's BYE moves the average, if something was sent under that one, and adds no member.
abbrev pub after_own_bye : Setup → Outcome → Backoff → Backoff
after_own_bye setup outcome backoff =
    if has_sent outcome.own then with_byes_of 0 (length (bye_octets setup)) backoff else backoff
