-- What a handle holds leads to the history of its participant.
use Rattle.std.proofs.Common.{◌≡◌, ◌<◌, ◌^◌, ℕ, Option, Some, None, subst}
use Rattle.rtcp_engine.specs.answers.Histories.{History}
use Rattle.rtcp_engine.specs.state.Taken.{IsHistory}
use Rattle.jalwedd_host.specs.declared.session.HostSession.{HostSession}
use Rattle.rtcp_guarded.specs.Guarded.{GuardedHistory}
use Rattle.jalwedd_host.specs.Guards.{LeadsGuarded, LeadsGuardedTo}
use Rattle.jalwedd_host.specs.Handles.{Leads, LeadsTo}

-- What is held leads to what a participant can have been told.
pub history_of : (held : Option HostSession) (start : ℕ) (history : History) → LeadsTo held start history →
    IsHistory history
history_of None start history leads = absurd leads
history_of (Some session) start history leads = leads.stands.is_history

-- Its start is below 2^63.
pub start_of : (held : Option HostSession) (start : ℕ) (history : History) → LeadsTo held start history → start < 2 ^ 63
start_of None start history leads = absurd leads
start_of (Some session) start history leads = leads.range

-- So does the same session.
pub leads_as : (session same : HostSession) (start : ℕ) (history : History) → session ≡ same →
    Leads session start history → Leads same start history
leads_as session same start history is leads = subst (λ (s : HostSession). Leads s start history) is leads

-- Where it is this session, this leads to it.
pub session_of : (held : Option HostSession) (session : HostSession) (start : ℕ) (history : History) →
    held ≡ Some session →
    LeadsTo held start history → Leads session start history
session_of held session start history is leads = subst (λ (h : Option HostSession). LeadsTo h start history) is leads

-- The same of a session with a guard.
pub guarded_as : (session same : HostSession) (start : ℕ) (history : GuardedHistory) → session ≡ same →
    LeadsGuarded session start history → LeadsGuarded same start history
guarded_as session same start history is leads =
    subst (λ (s : HostSession). LeadsGuarded s start history) is leads

pub guarded_of : (held : Option HostSession) (session : HostSession) (start : ℕ) (history : GuardedHistory) →
    held ≡ Some session → LeadsGuardedTo held start history → LeadsGuarded session start history
guarded_of held session start history is leads =
    subst (λ (h : Option HostSession). LeadsGuardedTo h start history) is leads

pub nobody_guarded : {held : Option HostSession} (start : ℕ) (history : GuardedHistory) → held ≡ None →
    LeadsGuardedTo held start history → ⊥
nobody_guarded {held} start history none leads =
    subst (λ (h : Option HostSession). LeadsGuardedTo h start history) none leads
