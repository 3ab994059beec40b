-- What a session comes to, call by call: the compounds, and the totals.
use Rattle.std.proofs.Common.{◌≡◌, ℕ, zero, suc, ◌+◌, Bool, true, false, List, [], ◌∷◌, ◌++◌, Option, Some, None, Ok, Err, if◌then◌else◌, refl, sym, ap, ◌∙◌, subst, arith, append_assoc}
use Rattle.rand_core.specs.Stream.{Stream, next_u32}
use Rattle.rtcp_engine.specs.answers.Acts.{EventValue, OutValue}
use Rattle.rtcp_guarded.specs.Guarded.{GuardedAnswer}
use Rattle.rtcp_serve.specs.Served.{Served, answer_for, followed_for, next_for}
use Rattle.rtcp_serve.specs.declared.link.Port.{Port}
use Rattle.rtcp_serve.specs.declared.link.Port.TheVariants.{Rtcp as RtcpPort, Rtp as RtpPort}
use Rattle.rtcp_serve.specs.declared.serving.Cause.TheVariants.{Done, LinkDown, Limit}
use Rattle.rtcp_serve.specs.declared.serving.tally.Tally.{Tally}
use Rattle.rtcp_serve.specs.Sessions.{Comes}
use Rattle.rtcp_serve.specs.Tallies.{ends_session, with_arrival, with_datagram, with_refused}
use Rattle.rtcp_serve.specs.Links.{Call, LinkValue, Heard, how_many, is_datagram, is_failed_receive, is_failed_send, is_sent, datagram, silence, failure, clock_read, port_heard, compound_sent}
use Rattle.rtcp_serve.specs.Observers.{Notice}
use Rattle.rtcp_serve.specs.Serving.{Reader, Stage, resting, beginning, hearing, deciding, sending, ended, SessionState, at_stage, stage_to_send, stage_after_step, act_in, after_port, heard_at, told_event, turn_by, turn_or, after_turns, rested, gone_on, left_with, going, ReadsClock, Hears, Sends, Fits, after_clock, after_sending, after_call, after_calls, AllFit, at_the_start_of}
use Rattle.rtcp_serve.specs.Handing.{acts_in, answers_given, answers_in, sends_in, sends_of, octets_of, handed_by, history_after, handed_out, given_in}

-- ---- Compounds

-- the compound that is to be sent next
abbrev pub pending : Stage → List (List ℕ)
-- after those of the next stage, if it has any
pending (sending out changed next) = pending next ++ out.octets ∷ []
pending stage = []

-- The compounds that were handed out are those that the link was given, and the one that is to be sent next. What the
-- observer was told are the answers, and the sends.
pub record Accounts (reader : Reader) (start reached : Served) (notices : List Notice) (stage : Stage)
    (calls : List Call) : Type 0 where
  pub history : reached ≡ history_after start (acts_in reader notices)
  pub handed : handed_out start (acts_in reader notices) ≡ pending stage ++ given_in calls
  pub answers : answers_in notices ≡ answers_given start (acts_in reader notices)
  pub sends : sends_in notices ≡ sends_of calls

-- where a session stands: its counts, words and turns are nothing to it
abbrev pub AccountsAt : Reader → Served → SessionState → List Call → Type 0
AccountsAt reader start s calls = Accounts reader start s.history s.notices s.stage calls

-- no compound is pending at a stage
abbrev pub HasNone : Stage → Type 0
HasNone stage = pending stage ≡ []

-- A call that sends nothing, if any, leads from a stage where nothing is pending to another.
restaged : (reader : Reader) (start : Served) (s : SessionState) (stage : Stage) (calls more : List Call)
    → given_in more ≡ given_in calls → sends_of more ≡ sends_of calls → AccountsAt reader start s calls
    → HasNone s.stage → HasNone stage → AccountsAt reader start (at_stage stage s) more
restaged reader start s stage calls more same alike accounts none now = record {
  history = accounts.history;
  handed = accounts.handed ∙ ap (λ p. p ++ given_in calls) (none ∙ sym now)
      ∙ ap (λ sent. pending stage ++ sent) (sym same);
  answers = accounts.answers;
  sends = accounts.sends ∙ sym alike;
}

step_pends : (next : Stage) (changed : Option ℕ) (out : Option OutValue) → HasNone next →
    pending (stage_after_step next changed out) ≡ octets_of out
step_pends next changed None none = none
step_pends next changed (Some out) none = ap (λ p. p ++ out.octets ∷ []) none

refusal_pends : (refused : Stage) (limit : Bool) → HasNone refused → HasNone (if limit then ended Limit else refused)
refusal_pends refused true none = refl
refusal_pends refused false none = none

-- What an answer hands out is pending.
answer_pends : (next refused : Stage) (answer : GuardedAnswer) → HasNone next → HasNone refused →
    pending (stage_to_send next refused answer) ≡ handed_by answer
answer_pends next refused (Ok step) none refuses = step_pends next step.changed step.out none
answer_pends next refused (Err refusal) none refuses = refusal_pends refused (ends_session refusal) refuses

-- ---- Calls

none_at : (stage : Stage) (s : SessionState) → s.stage ≡ stage → HasNone stage → HasNone s.stage
none_at stage s is none = ap pending is ∙ none

-- An event is told, by a call that sends nothing, if any, and what its answer leads to comes next.
answer_accounts : (reader : Reader) (start : Served) (next refused : Stage) (event : EventValue) (s : SessionState)
    (calls more : List Call) → given_in more ≡ given_in calls → sends_of more ≡ sends_of calls
    → AccountsAt reader start s calls → HasNone s.stage → HasNone next → HasNone refused
    → AccountsAt reader start (at_stage (stage_to_send next refused (answer_for s.history (act_in reader event)))
    (told_event reader event s)) more
answer_accounts reader start next refused event s calls more same alike accounts none comes refuses =
    let act = act_in reader event in
    let told = acts_in reader s.notices in
    let sent = given_in calls in record {
      history = ap (λ h. followed_for h act) accounts.history;
      handed = ap (λ h. handed_by (answer_for h act) ++ handed_out start told) (sym accounts.history)
          ∙ ap (λ l. handed_by (answer_for s.history act) ++ l) (accounts.handed ∙ ap (λ p. p ++ sent) none)
          ∙ ap (λ p. p ++ sent) (sym (answer_pends next refused (answer_for s.history act) comes refuses))
          ∙ ap (λ l. pending (stage_to_send next refused (answer_for s.history act)) ++ l) (sym same);
      answers = ap (λ l. answer_for s.history act ∷ l) accounts.answers
          ∙ ap (λ h. answer_for h act ∷ answers_given start told) accounts.history;
      sends = accounts.sends ∙ sym alike;
    }

clock_accounts : (reader : Reader) (start : Served) (moment : ℕ) (stage : Stage) (s : SessionState)
    (calls : List Call) → s.stage ≡ stage → ReadsClock stage → AccountsAt reader start s calls
    → AccountsAt reader start (after_clock reader moment stage s) (clock_read moment ∷ calls)
clock_accounts reader start moment beginning s calls is fits accounts =
    restaged reader start s (hearing RtcpPort) calls (clock_read moment ∷ calls) refl refl accounts
    (none_at beginning s is refl) refl
clock_accounts reader start moment deciding s calls is fits accounts =
    answer_accounts reader start resting resting _ s calls (clock_read moment ∷ calls) refl refl accounts
    (none_at deciding s is refl) refl refl
clock_accounts reader start moment stage s calls is fits accounts = absurd fits

failed_stage : (next : Stage) (last : Bool) → HasNone next → HasNone (if last then ended LinkDown else next)
failed_stage next true none = refl
failed_stage next false none = none

port_pends : (port : Port) → HasNone (after_port port)
port_pends RtcpPort = refl
port_pends RtpPort = refl

heard_accounts : (reader : Reader) (start : Served) (port : Port) (wait : ℕ) (what : Heard) (s : SessionState)
    (calls : List Call) → HasNone s.stage → AccountsAt reader start s calls
    → AccountsAt reader start (heard_at reader port what s) (port_heard port wait what ∷ calls)
heard_accounts reader start port wait (datagram peer octets) s calls none accounts =
    answer_accounts reader start (after_port port) (after_port port) _ s calls
    (port_heard port wait (datagram peer octets) ∷ calls) refl refl accounts none (port_pends port) (port_pends port)
heard_accounts reader start port wait silence s calls none accounts =
    restaged reader start s (after_port port) calls (port_heard port wait silence ∷ calls) refl refl accounts none
    (port_pends port)
heard_accounts reader start port wait failure s calls none accounts =
    restaged reader start s _ calls (port_heard port wait failure ∷ calls) refl refl accounts none
    (failed_stage (after_port port) _ (port_pends port))

-- a port is listened to only where nothing is pending
hears_none : (port : Port) (wait : ℕ) (stage : Stage) → Hears port wait stage → HasNone stage
hears_none port wait (sending out changed next) fits = absurd fits
hears_none port wait stage fits = refl

sent_accounts : (reader : Reader) (start : Served) (octets : List ℕ) (failed : Bool) (stage : Stage) (s : SessionState)
    (calls : List Call) → s.stage ≡ stage → Sends octets stage → AccountsAt reader start s calls
    → AccountsAt reader start (after_sending failed stage s) (compound_sent octets failed ∷ calls)
sent_accounts reader start octets failed (sending out changed next) s calls is fits accounts = record {
  history = accounts.history;
  handed = accounts.handed ∙ ap (λ stage. pending stage ++ given_in calls) is
      ∙ append_assoc (pending next) (out.octets ∷ []) (given_in calls)
      ∙ ap (λ o. pending next ++ o ∷ given_in calls) (sym fits);
  answers = accounts.answers;
  sends = ap (λ l. failed ∷ l) accounts.sends;
}
sent_accounts reader start octets failed stage s calls is fits accounts = absurd fits

call_accounts : (reader : Reader) (start : Served) (call : Call) (s : SessionState) (calls : List Call)
    → Fits call s.stage → AccountsAt reader start s calls
    → AccountsAt reader start (after_call reader call s) (call ∷ calls)
call_accounts reader start (clock_read moment) s calls fits accounts =
    clock_accounts reader start moment s.stage s calls refl fits accounts
call_accounts reader start (port_heard port wait what) s calls fits accounts =
    heard_accounts reader start port wait what s calls (hears_none port wait s.stage fits) accounts
call_accounts reader start (compound_sent octets failed) s calls fits accounts =
    sent_accounts reader start octets failed s.stage s calls refl fits accounts

-- ---- What comes next

turn_accounts : (reader : Reader) (start : Served) (next : Option ℕ) (turns : ℕ) (otherwise s : SessionState)
    (calls : List Call) → HasNone s.stage → AccountsAt reader start otherwise calls → AccountsAt reader start s calls
    → AccountsAt reader start (turn_by next turns otherwise s) calls
turn_accounts reader start None turns otherwise s calls none last accounts =
    restaged reader start s (ended Done) calls calls refl refl accounts none refl
turn_accounts reader start (Some moment) zero otherwise s calls none last accounts = last
turn_accounts reader start (Some moment) (suc turns) otherwise s calls none last accounts =
    restaged reader start s beginning calls calls refl refl accounts none refl

-- where nothing is under way, a turn comes, or what comes otherwise
rested_accounts : (reader : Reader) (start : Served) (otherwise s : SessionState) (stage : Stage) (calls : List Call)
    → s.stage ≡ stage → (HasNone s.stage → AccountsAt reader start otherwise calls) → AccountsAt reader start s calls
    → AccountsAt reader start (rested (turn_or otherwise s) stage s) calls
rested_accounts reader start otherwise s resting calls rests comes accounts =
    turn_accounts reader start (next_for s.history) s.turns otherwise s calls (ap pending rests)
    (comes (ap pending rests)) accounts
rested_accounts reader start otherwise s stage calls rests comes accounts = accounts

gone_on_accounts : (reader : Reader) (start : Served) (s : SessionState) (calls : List Call)
    → AccountsAt reader start s calls → AccountsAt reader start (gone_on s) calls
gone_on_accounts reader start s calls accounts = rested_accounts reader start (at_stage (ended Done) s) s s.stage calls
    refl (λ none. restaged reader start s (ended Done) calls calls refl refl accounts none refl) accounts

last_accounts : (reader : Reader) (start : Served) (total : ℕ) (leaving : Bool) (s : SessionState)
    (calls : List Call) → HasNone s.stage → AccountsAt reader start s calls
    → AccountsAt reader start (if leaving then at_stage (ended Done) s else gone_on
    (left_with reader total (next_u32 s.words) s)) calls
last_accounts reader start total true s calls none accounts =
    restaged reader start s (ended Done) calls calls refl refl accounts none refl
last_accounts reader start total false s calls none accounts =
    gone_on_accounts reader start (left_with reader total (next_u32 s.words) s) calls
    (answer_accounts reader start resting (ended Done) _ s calls calls refl refl accounts none refl refl)

going_accounts : (reader : Reader) (start : Served) (total : ℕ) (s : SessionState) (calls : List Call)
    → AccountsAt reader start s calls → AccountsAt reader start (going reader total s) calls
going_accounts reader start total s calls accounts = rested_accounts reader start (after_turns reader total s) s s.stage
    calls refl (λ none. last_accounts reader start total s.leaving s calls none accounts) accounts

-- ---- Sessions

session_accounts : (reader : Reader) (start : Served) (words : Stream) (turns total : ℕ) (calls : List Call)
    → AllFit reader total (at_the_start_of start words turns) calls
    → AccountsAt reader start (after_calls reader total (at_the_start_of start words turns) calls) calls
session_accounts reader start words turns total [] fit =
    record { history = refl; handed = refl; answers = refl; sends = refl }
session_accounts reader start words turns total (call ∷ earlier) (fit, fits) =
    call_accounts reader start call _ earlier fits
    (going_accounts reader start total _ earlier (session_accounts reader start words turns total earlier fit))

pub session_comes : (reader : Reader) (start : Served) (words : Stream) (turns total : ℕ) (calls : List Call)
    (t : SessionState) (x y : LinkValue) → Comes reader total calls (at_the_start_of start words turns) t x y
    → AccountsAt reader start t calls
session_comes reader start words turns total calls t x y comes =
    subst (λ t. AccountsAt reader start t calls) (sym comes.reached)
    (going_accounts reader start total _ calls (session_accounts reader start words turns total calls comes.fit))

-- ---- Totals

-- The counts of a session are those of its calls.
abbrev pub AreTotals : Tally → List Call → Type 0
AreTotals tally calls = (tally.received ≡ how_many is_datagram calls)
    × (tally.recv_failures ≡ how_many is_failed_receive calls) × (tally.sent ≡ how_many is_sent calls)
    × (tally.send_failures ≡ how_many is_failed_send calls)

rested_counts : (next s : SessionState) (stage : Stage) → next.tally ≡ s.tally → (rested next stage s).tally ≡ s.tally
rested_counts next s resting same = same
rested_counts next s stage same = refl

turn_counts : (next : Option ℕ) (turns : ℕ) (otherwise s : SessionState) → otherwise.tally ≡ s.tally →
    (turn_by next turns otherwise s).tally ≡ s.tally
turn_counts None turns otherwise s same = refl
turn_counts (Some moment) zero otherwise s same = same
turn_counts (Some moment) (suc turns) otherwise s same = refl

gone_on_counts : (s : SessionState) → (gone_on s).tally ≡ s.tally
gone_on_counts s = rested_counts _ s s.stage (turn_counts (next_for s.history) s.turns _ s refl)

last_counts : (reader : Reader) (total : ℕ) (leaving : Bool) (s : SessionState)
    → (if leaving then at_stage (ended Done) s else gone_on (left_with reader total (next_u32 s.words) s)).tally
    ≡ s.tally
last_counts reader total true s = refl
last_counts reader total false s = gone_on_counts (left_with reader total (next_u32 s.words) s)

going_counts : (reader : Reader) (total : ℕ) (s : SessionState) → (going reader total s).tally ≡ s.tally
going_counts reader total s = rested_counts _ s s.stage
    (turn_counts (next_for s.history) s.turns _ s (last_counts reader total s.leaving s))

-- one more of some calls
moved : (a b : ℕ) → a ≡ b → a + 1 ≡ suc b
moved a b same = omega (arith, same)

clock_counts : (reader : Reader) (moment : ℕ) (stage : Stage) (s : SessionState) (calls : List Call) →
    AreTotals s.tally calls
    → AreTotals (after_clock reader moment stage s).tally (clock_read moment ∷ calls)
clock_counts reader moment beginning s calls totals = totals
clock_counts reader moment stage s calls totals = totals

limit_counts : (limit : Bool) (tally : Tally) (calls : List Call) → AreTotals tally calls
    → AreTotals (if limit then tally else with_refused (tally.refused + 1) tally) calls
limit_counts true tally calls totals = totals
limit_counts false tally calls totals = totals

-- an answer to an arrival moves no count but that of the refused
arrival_counts : (answer : GuardedAnswer) (tally : Tally) (calls : List Call) → AreTotals tally calls →
    AreTotals (with_arrival answer tally) calls
arrival_counts (Ok step) tally calls totals = totals
arrival_counts (Err refusal) tally calls totals = limit_counts (ends_session refusal) tally calls totals

heard_counts : (reader : Reader) (port : Port) (wait : ℕ) (what : Heard) (s : SessionState) (calls : List Call) →
    AreTotals s.tally calls
    → AreTotals (heard_at reader port what s).tally (port_heard port wait what ∷ calls)
heard_counts reader port wait (datagram peer octets) s calls (came, failed, sent, lost) =
    arrival_counts _ (with_datagram s.tally) (port_heard port wait (datagram peer octets) ∷ calls)
    (moved _ _ came, failed, sent, lost)
heard_counts reader port wait silence s calls totals = totals
heard_counts reader port wait failure s calls (came, failed, sent, lost) = (came, moved _ _ failed, sent, lost)

sending_counts : (octets : List ℕ) (failed : Bool) (stage : Stage) (s : SessionState) (calls : List Call) →
    Sends octets stage → AreTotals s.tally calls
    → AreTotals (after_sending failed stage s).tally (compound_sent octets failed ∷ calls)
sending_counts octets true (sending out changed next) s calls fits (came, failed, sent, lost) =
    (came, failed, moved _ _ sent, moved _ _ lost)
sending_counts octets false (sending out changed next) s calls fits (came, failed, sent, lost) =
    (came, failed, moved _ _ sent, omega (arith, lost))
sending_counts octets failed stage s calls fits totals = absurd fits

call_counts : (reader : Reader) (call : Call) (s : SessionState) (calls : List Call) → Fits call s.stage →
    AreTotals s.tally calls
    → AreTotals (after_call reader call s).tally (call ∷ calls)
call_counts reader (clock_read moment) s calls fits totals = clock_counts reader moment s.stage s calls totals
call_counts reader (port_heard port wait what) s calls fits totals = heard_counts reader port wait what s calls totals
call_counts reader (compound_sent octets failed) s calls fits totals = sending_counts octets failed s.stage s calls fits
    totals

session_counts : (reader : Reader) (total : ℕ) (s : SessionState) (calls : List Call) → AreTotals s.tally [] →
    AllFit reader total s calls
    → AreTotals (after_calls reader total s calls).tally calls
session_counts reader total s [] totals fit = totals
session_counts reader total s (call ∷ earlier) totals (fit, fits) =
    let u = after_calls reader total s earlier in
    call_counts reader call (going reader total u) earlier fits
    (subst (λ tally. AreTotals tally earlier) (sym (going_counts reader total u))
    (session_counts reader total s earlier totals fit))

pub session_totals : (reader : Reader) (start : Served) (words : Stream) (turns total : ℕ) (calls : List Call)
    (t : SessionState)
    (x y : LinkValue)
    → Comes reader total calls (at_the_start_of start words turns) t x y → AreTotals t.tally calls
session_totals reader start words turns total calls t x y comes =
    let s = at_the_start_of start words turns in
    subst (λ tally. AreTotals tally calls)
    (sym (ap (λ t. t.tally) comes.reached ∙ going_counts reader total (after_calls reader total s calls)))
    (session_counts reader total s calls (refl, refl, refl, refl) comes.fit)
