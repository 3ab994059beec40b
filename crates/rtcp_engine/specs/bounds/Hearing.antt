-- Who is heard: a source is a member from a compound with its CNAME on, until it sends a BYE, the host says that it is
-- gone, or it is silent for too long (RFC 3550, 6.2.1, 6.3.3 to 6.3.5, 6.3.7). Lists are newest first.
use Rattle.std.specs.Prelude.{ℕ, ◌≡◌, ◌+◌, ◌*◌, ◌≤◌, ◌==◌, ◌&&◌, not, Bool, true, false, List, ◌∷◌, ◌++◌, All, Contains, Ok, Err}
use Rattle.std.specs.List.{list_any}
use Rattle.rtcp_wire.specs.Facts.{subject, is_gone, facts_of}
use Rattle.rtcp_members.specs.Present.{last_naming}
use Rattle.rtcp_members.specs.Entries.{is_member, is_such}
use Rattle.rtcp_engine.specs.answers.Setups.{Setup}
use Rattle.rtcp_engine.specs.answers.Acts.{Act, Datagram, arrived, rtcp, rtp, ticked, forgotten}
use Rattle.rtcp_engine.specs.answers.Outcomes.{Outcome, check_interval}
use Rattle.rtcp_engine.specs.answers.Leaving.{present}
use Rattle.rtcp_engine.specs.answers.Lives.{entry_in_life}
use Rattle.rtcp_engine.specs.answers.Histories.{History, life_at, setup_at}

-- A source is a member by what a history has come to, of a participant that takes part.
abbrev pub is_member_at : (ssrc : ℕ) → History → Bool
is_member_at ssrc history = is_such is_member (entry_in_life (setup_at history) (life_at history) ssrc)

-- a history and the acts after it
abbrev pub with_acts : List Act → History → History
with_acts since history = record history { acts = since ++ history.acts }

-- An act brings no BYE of a source, and the host does not say in it that the source is gone.
abbrev pub LeavesAlone : (ssrc : ℕ) → Act → Type 0
LeavesAlone ssrc (arrived moment peer word (rtcp size (Ok packets))) =
    All (λ fact. (is_gone fact && subject fact == ssrc) ≡ false) (facts_of packets)
LeavesAlone ssrc (forgotten moment other) = (other == ssrc) ≡ false
LeavesAlone ssrc act = Unit {0}

-- At a moment, the newest fact that names a source came no longer ago than five of the intervals that a check then goes
-- by (6.3.5).
abbrev pub IsHeardLately : (ssrc : ℕ) → Setup → (t : ℕ) → Outcome → Type 0
IsHeardLately ssrc setup t outcome = t ≤ last_naming ssrc outcome.trace + 5 * check_interval setup t outcome

-- A source was heard lately at each tick among these acts, as long as the participant took part.
abbrev pub IsHeardAtTicks : (ssrc : ℕ) (since : List Act) → History → Type 0
IsHeardAtTicks ssrc since history =
    (newer : List Act) (t first_word second_word : ℕ) (older : List Act) (outcome : Outcome) →
    since ≡ newer ++ ticked t first_word second_word ∷ older → let earlier = with_acts older history in
    life_at earlier ≡ present outcome → IsHeardLately ssrc (setup_at earlier) t outcome

-- ---- Datagrams

-- A datagram names a source: its RTP packet comes from it, or a fact of its compound is one of it, and not its BYE.
abbrev pub names_source : (ssrc : ℕ) → Datagram → Bool
names_source ssrc (rtcp size (Ok packets)) =
    list_any (λ fact. not (is_gone fact) && subject fact == ssrc) (facts_of packets)
names_source ssrc (rtcp size (Err fault)) = false
names_source ssrc (rtp (Ok head)) = head.ssrc == ssrc
names_source ssrc (rtp (Err fault)) = false

-- By a moment, a datagram that names a source was taken, no longer ago than five such intervals.
pub record CameLately (ssrc t interval : ℕ) (history : History) : Type 0 where
  pub at : ℕ
  pub peer : ℕ
  pub word : ℕ
  pub datagram : Datagram
  pub taken : Contains history.acts (arrived at peer word datagram)
  pub named : names_source ssrc datagram ≡ true
  pub lately : t ≤ at + 5 * interval

-- At each tick among these acts, as long as the participant took part, such a datagram came lately, by the interval
-- that the tick's check goes by.
abbrev pub IsNamedAtTicks : (ssrc : ℕ) (since : List Act) → History → Type 0
IsNamedAtTicks ssrc since history =
    (newer : List Act) (t first_word second_word : ℕ) (older : List Act) (outcome : Outcome) →
    since ≡ newer ++ ticked t first_word second_word ∷ older → let earlier = with_acts older history in
    life_at earlier ≡ present outcome →
    CameLately ssrc t (check_interval (setup_at earlier) t outcome) earlier
