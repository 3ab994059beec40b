-- Who departs (RFC 3550, 6.3.4, 6.3.5, 6.6): a member that a BYE packet names, one that was silent for too long at a
-- tick, and one that the host says is gone. Lists are newest first; moments and intervals are in microseconds.
use Rattle.std.specs.Prelude.{ℕ, ◌≡◌, ◌+◌, ◌*◌, ◌<◌, ◌==◌, ◌&&◌, not, Bool, true, false, nat_lt, nat_le, List, [], ◌∷◌, filter, flat_map, length, if◌then◌else◌, Ok}
use Rattle.std.specs.List.{list_any}
use Rattle.rtcp_wire.specs.Values.{RtcpPacket, sr, rr, sdes, bye, app, other}
use Rattle.rtcp_members.specs.Present.{names}
use Rattle.rtcp_members.specs.Present.{last_naming}
use Rattle.rtcp_members.specs.Entries.{entry_at, is_member, is_such}
use Rattle.rtcp_members.specs.Members.{members_at}
use Rattle.rtcp_engine.specs.answers.Setups.{Setup}
use Rattle.rtcp_engine.specs.answers.Acts.{Act, arrived, rtcp, ticked, forgotten, moment_of}
use Rattle.rtcp_engine.specs.answers.Changes.{is_among}
use Rattle.rtcp_engine.specs.answers.Arrivals.{after}
use Rattle.rtcp_engine.specs.answers.Outcomes.{Outcome, check_interval}
use Rattle.rtcp_engine.specs.answers.Ticks.{checked}
use Rattle.rtcp_engine.specs.answers.Leaving.{Life, present, backing_off, finished}
use Rattle.rtcp_engine.specs.answers.Histories.{History, session_at, session_for}
use Rattle.rtcp_engine.specs.bounds.Hearing.{with_acts}

-- ---- BYE packets

-- the sources that a packet says are leaving: those that a BYE packet names
abbrev pub leavers_of : RtcpPacket → List ℕ
leavers_of (sr sender blocks extension) = []
leavers_of (rr ssrc blocks extension) = []
leavers_of (sdes chunks) = []
leavers_of (bye ids reason) = ids
leavers_of (app subtype ssrc name content) = []
leavers_of (other kind count body) = []

-- those of a compound
abbrev pub leavers : List RtcpPacket → List ℕ
leavers packets = flat_map leavers_of packets

-- whether a BYE packet of a compound names somebody
abbrev pub says_bye : List RtcpPacket → Bool
says_bye packets = not (length (leavers packets) == 0)

-- ---- Departures

-- A source is a member by what a session has come to.
abbrev pub is_member_of : Setup → Outcome → (ssrc : ℕ) → Bool
is_member_of setup outcome ssrc = is_such is_member (entry_at setup.capacity outcome.trace ssrc)

-- A source is silent for too long at a moment: the newest fact that names it came longer ago than five of the
-- intervals that a check then goes by (6.3.5).
abbrev pub is_silent : Setup → (t : ℕ) → Outcome → (ssrc : ℕ) → Bool
is_silent setup t outcome ssrc = nat_lt (last_naming ssrc outcome.trace + 5 * check_interval setup t outcome) t

-- A source departs by an act: a BYE packet of a compound that came names it, it is silent for too long at a tick, or
-- the host says that it is gone.
abbrev pub departs_by : Setup → Act → Outcome → (ssrc : ℕ) → Bool
departs_by setup (arrived moment peer word (rtcp size (Ok packets))) outcome ssrc = is_among (leavers packets) ssrc
departs_by setup (ticked moment first_word second_word) outcome ssrc = is_silent setup moment outcome ssrc
departs_by setup (forgotten moment gone) outcome ssrc = gone == ssrc
departs_by setup act outcome ssrc = false

-- A departure is an act by which a member departs, as long as the participant takes part.
abbrev pub is_departure : Setup → Act → Life → Bool
is_departure setup act (present outcome) =
    list_any (λ ssrc. is_member_of setup outcome ssrc && departs_by setup act outcome ssrc) (names outcome.trace)
is_departure setup act (backing_off outcome backoff) = false
is_departure setup act (finished outcome) = false

-- An act is one after a history, with the change of identifier that it brings.
abbrev pub is_departure_after : History → Act → Bool
is_departure_after history act =
    let now = session_for (session_at history) act in is_departure now.setup act now.life

-- What can be a departure, whatever the session: a compound with a BYE packet that names somebody, a tick, and a source
-- that the host says is gone.
abbrev pub may_be_departure : Act → Bool
may_be_departure (arrived moment peer word (rtcp size (Ok packets))) = says_bye packets
may_be_departure (ticked moment first_word second_word) = true
may_be_departure (forgotten moment gone) = true
may_be_departure act = false

-- A source that departs by an act, and was a member before it.
pub record Departs (setup : Setup) (act : Act) (outcome : Outcome) : Type 0 where
  pub ssrc : ℕ
  pub member : is_member_of setup outcome ssrc ≡ true
  pub departs : departs_by setup act outcome ssrc ≡ true

-- how many departures lie after one moment, and not after another
abbrev pub departures_within : Setup → (word from until : ℕ) → List Act → ℕ
departures_within setup word from until [] = 0
departures_within setup word from until (act ∷ earlier) =
    let departs = is_departure_after (record { setup = setup; word = word; acts = earlier }) act in
    (if departs && (nat_lt from (moment_of act) && nat_le (moment_of act) until) then 1 else 0)
    + departures_within setup word from until earlier

-- ---- New members

-- how many others are members, as long as the participant takes part
abbrev pub other_members : Setup → Life → ℕ
other_members setup (present outcome) = members_at setup.capacity outcome.trace
other_members setup (backing_off outcome backoff) = 0
other_members setup (finished outcome) = 0

-- A source becomes a member by an act: it was none before it, and is one after it.
abbrev pub becomes_member_by : Setup → Act → Outcome → (ssrc : ℕ) → Bool
becomes_member_by setup act outcome ssrc =
    not (is_member_of setup outcome ssrc) && is_member_of setup (after setup act outcome) ssrc

-- how many do
abbrev pub new_members_by : Setup → Act → Life → ℕ
new_members_by setup act (present outcome) =
    length (filter (λ ssrc. becomes_member_by setup act outcome ssrc) (names (after setup act outcome).trace))
new_members_by setup act (backing_off outcome backoff) = 0
new_members_by setup act (finished outcome) = 0

-- how many become members by acts that follow on a history, each as often as it does
abbrev pub new_members_since : History → (since : List Act) → ℕ
new_members_since history [] = 0
new_members_since history (act ∷ since) =
    let now = session_for (session_at (with_acts since history)) act in
    new_members_by now.setup act now.life + new_members_since history since

-- ---- Time-outs

-- What five intervals come to at least: 25 seconds, and half of that until the participant has sent a report, since the
-- minimum is half as long until then (6.2).
abbrev pub least_silence : Outcome → ℕ
least_silence outcome = if outcome.reports == 0 then 12500000 else 25000000

-- The check of a tick drops a member, which was silent for too long.
pub record IsTimedOut (setup : Setup) (t : ℕ) (outcome : Outcome) (ssrc : ℕ) : Type 0 where
  pub member : is_member_of setup outcome ssrc ≡ true
  pub dropped : is_member_of setup (checked setup t outcome) ssrc ≡ false
  pub silent : last_naming ssrc outcome.trace + 5 * check_interval setup t outcome < t
