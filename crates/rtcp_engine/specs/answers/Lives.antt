-- What the acts of a session make of it, its leave included: the participant takes part, backs off, or has finished.
use Rattle.std.specs.Prelude.{ℕ, ◌≡◌, ◌+◌, ◌-◌, ◌==◌, ◌&&◌, nat_le, not, Bool, false, List, [], ◌∷◌, length, if◌then◌else◌, Option, Some, None, option_map, Ok, filter, map}
use Rattle.rtcp_wire.specs.Values.{RtcpPacket, RtpValue}
use Rattle.rtcp_members.specs.Present.{names, source_forgotten, with_facts}
use Rattle.rtcp_members.specs.Present.{present_among, stay_of}
use Rattle.rtcp_members.specs.Entries.{EntryValue, entry_at}
use Rattle.rtcp_members.specs.Members.{members_at, moved_within, counted_at}
use Rattle.rtcp_members.specs.Listings.{StateValue, ListsAbove, IsWalk}
use Rattle.rtcp_engine.specs.declared.step.Standing.{Standing}
use Rattle.rtcp_engine.specs.declared.step.OutKind.TheVariants.{Report, Bye}
use Rattle.rtcp_engine.specs.answers.Setups.{Setup, SettingsValue, rate_among}
use Rattle.rtcp_clock.specs.Intervals.{drawn_interval}
use Rattle.rtcp_timer.specs.Loads.{interval_of}
use Rattle.rtcp_timer.specs.Schedules.{transmitted, tried}
use Rattle.rtcp_engine.specs.answers.Acts.{Act, rtcp, arrived, rtp_sent, ticked, left, configured, forgotten, OutValue, StepValue, Datagram, rtp}
use Rattle.rtcp_engine.specs.answers.OwnStreams.{has_sent, counts_anew, packet_sent}
use Rattle.rtcp_engine.specs.answers.Reporting.{bye_octets, report_octets}
use Rattle.rtcp_engine.specs.answers.Outcomes.{Outcome, check_interval, interval_at, member_count, sender_count, timing_of, with_pace}
use Rattle.rtcp_engine.specs.answers.Ticks.{checked, horizons_of, with_draw, with_recount, with_report}
use Rattle.rtcp_engine.specs.answers.Leaving.{Backoff, Life, present, backing_off, finished, leaving_count, leaving_interval, leaving_load, leaving_timing, with_byes, with_byes_of}
use Rattle.rtcp_wire.specs.declared.fact.Fact.{Fact}
use Rattle.rtcp_wire.specs.declared.fact.Fact.TheVariants.{Heard, Media}
use Rattle.rtcp_wire.specs.Facts.{facts_of}

-- A compound that came (RFC 3550, 6.3.3, 6.3.7): its facts are noted, it moves the average, and members may have
-- departed.
abbrev pub with_compound : Setup → (t size : ℕ) → List RtcpPacket → Outcome → Outcome
with_compound setup t size packets outcome =
    with_recount setup t (record outcome {
      trace = with_facts (facts_of packets) t outcome.trace;
      sizes = size ∷ outcome.sizes;
    })

-- An RTP packet that came (6.3.3): the fact of the packet, whose timestamp counts in the clock of its payload type, and
-- if it is counted, facts of its contributing sources too, but for the participant itself.
abbrev pub with_media : Setup → (t : ℕ) → RtpValue → Outcome → Outcome
with_media setup t head outcome =
    let rate = rate_among setup.settings.clocks setup.settings.rate head.payload_type in
    let fact : Fact = Media head.ssrc head.sequence head.timestamp (length head.payload) rate in
    let csrcs = map Heard (filter (λ ssrc. not (ssrc == setup.ssrc)) head.csrcs) in
    record outcome {
      trace =
          with_facts (fact ∷ (if counted_at setup.capacity outcome.trace fact then csrcs else [])) t outcome.trace;
    }

-- What a datagram with a fault would change is nothing, and so no history holds one.
abbrev pub with_datagram : Setup → (t : ℕ) → Datagram → Outcome → Outcome
with_datagram setup t (rtcp size (Ok packets)) outcome = with_compound setup t size packets outcome
with_datagram setup t (rtp (Ok head)) outcome = with_media setup t head outcome
with_datagram setup t _ outcome = outcome

-- ---- Acts

abbrev pub report_out : List ℕ → OutValue
report_out octets = record { kind = Report; octets = octets }

abbrev pub bye_out : List ℕ → OutValue
bye_out octets = record { kind = Bye; octets = octets }

-- What an act makes of a life, the compound that it brings, if it brings one, and the deterministic interval that
-- decides on this (6.3.6, 6.3.7), or 0.
pub record Made : Type 0 where
  pub life : Life
  pub out : Option OutValue
  pub interval : ℕ

abbrev pub made_silently : (interval : ℕ) → Life → Made
made_silently interval life = record { life = life; out = None; interval = interval }

-- A tick makes a check. Then a report goes out if the next transmission's moment has come, and an interval drawn now
-- has passed since the last one; if it has not, the transmission is put off (6.3.6). After a report the next interval
-- is drawn, by the average with this report in it, and by the minimum after the first report.
abbrev pub made_by_tick : Setup → (t first_word second_word : ℕ) → Outcome → Made
made_by_tick setup t first_word second_word outcome =
    let now = checked setup t outcome in
    let timing = timing_of now in
    let has_come = nat_le timing.next t in
    let has_passed = nat_le (timing.last + drawn_interval (interval_at setup now) first_word) t in
    let reported : Outcome = with_draw transmitted setup t second_word (with_report setup t now) in
    let put_off : Outcome = with_draw tried setup t first_word now in
    let later : Outcome = if has_come then (if has_passed then reported else put_off) else now in
    let octets : Option (List ℕ) = if has_come && has_passed then Some (report_octets setup t now) else None in
    record { life = present later; out = option_map report_out octets; interval = interval_at setup now }

-- A leave (6.3.7): in silence if nothing was sent under the present identifier; with a BYE at once among at most 50
-- members; or else with a backoff, which begins as if the participant, alone, had just sent a compound.
abbrev pub made_by_leave : Setup → (t word : ℕ) → Outcome → Made
made_by_leave setup t word outcome =
    let is_silent = not (has_sent outcome.own) in
    let are_few = nat_le (member_count setup outcome) 50 in
    let drawn = drawn_interval (interval_of (leaving_load setup 1 [])) word in
    let backoff : Backoff =
    record { since = t; bye_compounds = []; happenings = transmitted t drawn 1 ∷ outcome.happenings } in
    let waiting : Life = if are_few then finished outcome else backing_off outcome backoff in
    let octets : Option (List ℕ) = if are_few then Some (bye_octets setup) else None in
    record {
      life = if is_silent then finished outcome else waiting;
      out = option_map bye_out (if is_silent then None else octets);
      interval = 0;
    }

-- Settings change the setup: members, average and schedule stay, each interval is computed with the setup of its act,
-- and only the pace of checks is noted, where bandwidths change.
abbrev pub made_while_present : Setup → Act → Outcome → Made
made_while_present setup (arrived moment peer word datagram) outcome =
    made_silently 0 (present (with_datagram setup moment datagram outcome))
made_while_present setup (rtp_sent moment timestamp octets) outcome =
    made_silently 0 (present (record outcome { own = packet_sent moment timestamp octets ∷ outcome.own }))
made_while_present setup (ticked moment first_word second_word) outcome =
    made_by_tick setup moment first_word second_word outcome
made_while_present setup (left moment word) outcome = made_by_leave setup moment word outcome
made_while_present setup (configured moment settings) outcome =
    made_silently 0 (present (with_pace setup settings moment outcome))
-- A source goes as one that was silent for too long: the members are counted again (6.3.4).
made_while_present setup (forgotten moment ssrc) outcome =
    made_silently 0
    (present (with_recount setup moment (record outcome { trace = source_forgotten ssrc ∷ outcome.trace })))

-- In a backoff nothing counts but compounds, and ticks, which make no check. A second leave begins nothing anew.
abbrev pub made_backing_off : Setup → Act → Outcome → Backoff → Made
made_backing_off setup (arrived moment peer word (rtcp size reading)) outcome backoff =
    made_silently (leaving_interval setup backoff) (backing_off outcome (with_byes size reading backoff))
made_backing_off setup (ticked moment first_word second_word) outcome backoff =
    let timing = leaving_timing backoff in
    let interval = leaving_interval setup backoff in
    let drawn = drawn_interval interval first_word in
    let has_come = nat_le timing.next moment in
    let is_due = has_come && nat_le (timing.last + drawn) moment in
    let put_off : Backoff =
    record backoff { happenings = tried moment drawn (leaving_count backoff) ∷ backoff.happenings } in
    let waiting : Backoff = if has_come then put_off else backoff in
    let later : Life = if is_due then finished outcome else backing_off outcome waiting in
    let out : Option OutValue = if is_due then Some (bye_out (bye_octets setup)) else None in
    record { life = later; out = out; interval = interval }
made_backing_off setup act outcome backoff =
    made_silently (leaving_interval setup backoff) (backing_off outcome backoff)

abbrev pub made_by : Setup → Act → Life → Made
made_by setup act (present outcome) = made_while_present setup act outcome
made_by setup act (backing_off outcome backoff) = made_backing_off setup act outcome backoff
made_by setup act (finished outcome) = made_silently 0 (finished outcome)

-- ---- A change of identifier

abbrev pub bye_if_sent : Setup → Outcome → Option OutValue
bye_if_sent setup outcome = if has_sent outcome.own then Some (bye_out (bye_octets setup)) else None

-- What a change of identifier makes of a life, and brings (8.2): the BYE of the old one, if something was sent under
-- it, which moves the average and adds no member. The counts of the own stream begin anew.
abbrev pub renamed : Setup → Life → Made
renamed setup (present outcome) =
    let sizes : List ℕ = if has_sent outcome.own then length (bye_octets setup) ∷ outcome.sizes else outcome.sizes in
    let later : Outcome = record outcome { own = counts_anew ∷ outcome.own; sizes = sizes } in
    record { life = present later; out = bye_if_sent setup outcome; interval = 0 }
renamed setup (backing_off outcome backoff) =
    let byes : Backoff = if has_sent outcome.own then with_byes_of 0 (length (bye_octets setup)) backoff else backoff in
    let later : Outcome = record outcome { own = counts_anew ∷ outcome.own } in
    record { life = backing_off later byes; out = bye_if_sent setup outcome; interval = 0 }
renamed setup (finished outcome) = made_silently 0 (finished outcome)

-- Settings note the pace of checks where they change it, as long as the participant takes part.
abbrev pub with_pace_in : Setup → SettingsValue → (t : ℕ) → Life → Life
with_pace_in setup settings t (present outcome) = present (with_pace setup settings t outcome)
with_pace_in setup settings t (backing_off outcome backoff) = backing_off outcome backoff
with_pace_in setup settings t (finished outcome) = finished outcome

-- ---- Counts, with the participant among them until it is gone

abbrev pub members_in_life : Setup → Life → ℕ
members_in_life setup (present outcome) = member_count setup outcome
members_in_life setup (backing_off outcome backoff) = leaving_count backoff
members_in_life setup (finished outcome) = 0

abbrev pub senders_in_life : Setup → Life → ℕ
senders_in_life setup (present outcome) = sender_count setup outcome
senders_in_life setup _ = 0

-- how many sources are present, members or not, until the participant leaves
abbrev pub entries_in_life : Setup → Life → ℕ
entries_in_life setup (present outcome) = present_among (names outcome.trace) (stay_of setup.capacity outcome.trace)
entries_in_life setup _ = 0

-- what the participant tells of a source goes by this, if it tells of it
abbrev pub entry_in_life : Setup → Life → (ssrc : ℕ) → Option EntryValue
entry_in_life setup (present outcome) ssrc = entry_at setup.capacity outcome.trace ssrc
entry_in_life setup _ ssrc = None

-- Of the sources above `after` the one of least SSRC is told, by the trace, as long as the participant takes part.
-- In a backoff it follows nobody any more, so nobody is told from its leave on.
abbrev pub ListsInLife : Setup → (after : Option ℕ) → Life → Option StateValue → Type 0
ListsInLife setup after (present outcome) listed =
    ListsAbove after setup.capacity outcome.trace listed
ListsInLife setup after _ listed = listed ≡ None

-- what is told of all sources, one after the other
abbrev pub WalksInLife : Setup → Life → List StateValue → Type 0
WalksInLife setup (present outcome) states = IsWalk None setup.capacity outcome.trace states
WalksInLife setup _ states = states ≡ []

-- ---- Changes of the others

-- Whether an act changes who of the others is a member, or who of them sends, as far as the participant tells: one of
-- the steps since does; and nobody is told of from a leave on.
abbrev pub others_moved_into : Setup → (before : Outcome) → Life → Bool
others_moved_into setup before (present after) =
    moved_within setup.capacity (length after.trace - length before.trace) after.trace
others_moved_into setup before _ = not (members_at setup.capacity before.trace == 0)

abbrev pub others_moved_by : Setup → Act → Life → Bool
others_moved_by setup act (present outcome) =
    others_moved_into setup outcome (made_by setup act (present outcome)).life
others_moved_by setup act _ = false

-- the moment to ask again, until the participant is gone
abbrev pub next_in_life : Life → Option ℕ
next_in_life (present outcome) = Some (timing_of outcome).next
next_in_life (backing_off outcome backoff) = Some (leaving_timing backoff).next
next_in_life (finished outcome) = None

-- The moment before which a source was silent for too long for a check at the moment `t` (6.3.5): the horizon of a tick
-- at that moment. From its leave on the participant makes no check.
abbrev pub silent_in_life : Setup → (t : ℕ) → Life → ℕ
silent_in_life setup t (present outcome) = (horizons_of t (check_interval setup t outcome)).silent
silent_in_life setup t _ = 0

-- ---- The whole

-- Where a participant stands: who is there, and when to ask again.
abbrev pub standing_in_life : Setup → Life → Standing
standing_in_life setup life = record {
  members = members_in_life setup life;
  senders = senders_in_life setup life;
  entries = entries_in_life setup life;
  ssrc = setup.ssrc;
  next = next_in_life life;
}

-- ---- Answers

-- What is answered where a session has come to this, by an act that brought a compound, if it brought one, and that
-- changed who of the others is there or sends, if it did.
abbrev pub step_into : Setup → Option OutValue → (others_changed : Bool) → Life → StepValue
step_into setup out others_changed life = record {
  out = out;
  members = members_in_life setup life;
  senders = senders_in_life setup life;
  entries = entries_in_life setup life;
  next = next_in_life life;
  changed = None;
  others_changed = others_changed;
}

-- ---- Parts of what stands above, by names of their own

abbrev pub lived : Setup → Act → Life → Life
lived setup act life = (made_by setup act life).life

abbrev pub out_by : Setup → Act → Life → Option OutValue
out_by setup act life = (made_by setup act life).out

abbrev pub while_present : Setup → Act → Outcome → Life
while_present setup act outcome = lived setup act (present outcome)

abbrev pub while_backing_off : Setup → Act → Outcome → Backoff → Life
while_backing_off setup act outcome backoff = lived setup act (backing_off outcome backoff)

abbrev pub out_while_present : Setup → Act → Outcome → Option OutValue
out_while_present setup act outcome = out_by setup act (present outcome)

abbrev pub out_while_backing_off : Setup → Act → Outcome → Backoff → Option OutValue
out_while_backing_off setup act outcome backoff = out_by setup act (backing_off outcome backoff)

-- whether some other source is a member
abbrev pub has_others : Setup → Outcome → Bool
has_others setup outcome = not (members_at setup.capacity outcome.trace == 0)

-- Whether one of the steps since changed who of the others is a member, or who of them sends.
abbrev pub moved_since : Setup → (before after : Outcome) → Bool
moved_since setup before after =
    moved_within setup.capacity (length after.trace - length before.trace) after.trace

abbrev pub with_change : Setup → Outcome → Outcome
with_change setup outcome =
    record outcome {
      own = counts_anew ∷ outcome.own;
      sizes = if has_sent outcome.own then length (bye_octets setup) ∷ outcome.sizes else outcome.sizes;
    }

abbrev pub with_new_ssrc : Setup → Life → Life
with_new_ssrc setup life = (renamed setup life).life

-- the BYE of an identifier that is given up, if something was sent under it
abbrev pub own_bye : Setup → Life → Option OutValue
own_bye setup life = (renamed setup life).out
