-- Whom a participant lists after a leave, and after what it says that others changed.
use Rattle.std.proofs.Common.{◌≡◌, ℕ, Bool, true, false, not, nat_le, None, Ok, if◌then◌else◌, refl, sym, ap}
use Rattle.std.proofs.lemmas.Bool.{and_parts, false≢true}
use Rattle.rtcp_engine.specs.answers.Acts.{Act, EventValue, IsActOfEvent, arrived, configured, forgotten, left, rtp_sent, ticked, rtcp_arrived, rtp_arrived, packet_sent, time_passed, leave_asked, settings_given, forget_asked}
use Rattle.rtcp_engine.specs.answers.Answers.{step_by}
use Rattle.rtcp_engine.specs.answers.Histories.{History, life_at, session_at, session_for, setup_after, with_act}
use Rattle.rtcp_engine.specs.answers.Leaving.{Life, present, backing_off, finished, backoff_from, few_members, sent_nothing}
use Rattle.rtcp_engine.specs.answers.Lives.{lived, others_moved_by}
use Rattle.rtcp_engine.specs.answers.Outcomes.{Outcome, member_count}
use Rattle.rtcp_engine.specs.answers.Setups.{Setup}
use Rattle.rtcp_show.specs.Changes.{is_leave, lists_anew}
use Rattle.rtcp_show.specs.Listings.{takes_part, state_in_life, state_at}

-- ---- What says that others changed

abbrev is_left : Act → Bool
is_left (left moment word) = true
is_left act = false

present_after :
    (setup : Setup) (act : Act) (outcome : Outcome) → is_left act ≡ false
    → takes_part (lived setup act (present outcome)) ≡ true
present_after setup (left moment word) outcome never = absurd (false≢true (sym never))
present_after setup (arrived moment peer word datagram) outcome never = refl
present_after setup (rtp_sent moment timestamp octets) outcome never = refl
present_after setup (ticked moment first_word second_word) outcome never = refl
present_after setup (configured moment settings) outcome never = refl
present_after setup (forgotten moment ssrc) outcome never = refl

moved_present :
    (setup : Setup) (act : Act) (life : Life) → is_left act ≡ false → others_moved_by setup act life ≡ true
    → takes_part (lived setup act life) ≡ true
moved_present setup act (present outcome) never moved = present_after setup act outcome never
moved_present setup act (backing_off outcome backoff) never moved = absurd (false≢true moved)
moved_present setup act (finished outcome) never moved = absurd (false≢true moved)

no_leave : (event : EventValue) (act : Act) → IsActOfEvent event act → is_leave event ≡ false → is_left act ≡ false
no_leave (rtcp_arrived moment peer word octets) act is never = ap is_left is
no_leave (rtp_arrived moment peer word octets) act is never = ap is_left is
no_leave (packet_sent moment timestamp octets) act is never = ap is_left is
no_leave (time_passed moment first_word second_word) act is never = ap is_left is
no_leave (leave_asked moment word) act is never = absurd (false≢true (sym never))
no_leave (settings_given moment settings) act is never = ap is_left is
no_leave (forget_asked moment ssrc) act is never = ap is_left is

not_true : (b : Bool) → not b ≡ true → b ≡ false
not_true true e = absurd (false≢true e)
not_true false e = refl

pub listed_by_participants :
    (history : History) (event : EventValue) (act : Act) → IsActOfEvent event act
    → lists_anew event (Ok (step_by history act)) ≡ true → takes_part (life_at (with_act history act)) ≡ true
listed_by_participants history event act is anew =
    let now = session_for (session_at history) act in
    let parts = and_parts (others_moved_by now.setup act now.life) (not (is_leave event)) anew in
    moved_present now.setup act now.life (no_leave event act is (not_true (is_leave event) parts.1)) parts.0

-- ---- After a leave

nobody_if :
    (setup other : Setup) (nothing_sent few : Bool) (outcome : Outcome) (waiting : Life) (ssrc : ℕ)
    → state_in_life other waiting ssrc ≡ None
    → state_in_life other (if nothing_sent then finished outcome else (if few then finished outcome else waiting)) ssrc
    ≡ None
nobody_if setup other true few outcome waiting ssrc none = refl
nobody_if setup other false true outcome waiting ssrc none = refl
nobody_if setup other false false outcome waiting ssrc none = none

nobody_after :
    (setup other : Setup) (moment word ssrc : ℕ) (life : Life)
    → state_in_life other (lived setup (left moment word) life) ssrc ≡ None
nobody_after setup other moment word ssrc (present outcome) = nobody_if setup other (sent_nothing outcome)
    (nat_le (member_count setup outcome) few_members) outcome
    (backing_off outcome (backoff_from setup moment word outcome)) ssrc refl
nobody_after setup other moment word ssrc (backing_off outcome backoff) = refl
nobody_after setup other moment word ssrc (finished outcome) = refl

pub nobody_left :
    (history : History) (moment word ssrc : ℕ) → state_at (with_act history (left moment word)) ssrc ≡ None
nobody_left history moment word ssrc =
    let now = session_for (session_at history) (left moment word) in
    nobody_after now.setup (setup_after (left moment word) now.setup) moment word ssrc now.life
