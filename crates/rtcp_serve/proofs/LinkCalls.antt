-- Calls of a link, one after the other.
use Rattle.std.proofs.Common.{◌≡◌, ◌≤◌, ◌<◌, ◌^◌, ℕ, suc, ◌+◌, IsTrue, is_some, Bool, true, false, Ok, Err, List, [], ◌∷◌, ◌++◌, length, filter, Option, Some, None, ◌⊎◌, inl, inr, refl, sym, ap, ◌∙◌, subst, arith, rules, if◌then◌else◌, Result, is_ok, IsErrAnd, append_assoc, length-append, slice_index_or}
use Rattle.std.proofs.lemmas.List.{append_cancel_right}
use Rattle.std.proofs.lemmas.List.Elements.{All-cons, All-nil, filter-append}
use Rattle.std.proofs.lemmas.Result.{err_from_is_err_and}
use Rattle.rtcp_serve.specs.declared.link.Port.{Port}
use Rattle.rtcp_serve.specs.declared.link.Port.TheVariants.{Rtcp as RtcpPort}
use Rattle.rtcp_serve.specs.declared.serving.Cause.{Cause}
use Rattle.rtcp_serve.specs.declared.serving.End.{End}
use Rattle.rtcp_serve.specs.declared.serving.Cause.TheVariants.{Done}
use Rattle.rtcp_serve.specs.Endings.{AreHeeded, IsCut, IsHeeded, MayAnswer, Pause, pause}
use Rattle.rtcp_serve.specs.Links.{Call, LinkValue, GrowsBy, WereCalled, clock_read, compound_sent, port_heard, datagram, how_many, is_failed_receive, is_failed_send}
use Rattle.rtcp_serve.specs.Observers.{Notice, event_told, send_tried, telling}
use Rattle.rand_core.specs.Stream.{Stream, next_u32}
use Rattle.rtcp_wire.specs.Readings.{rtcp_in}
use Rattle.rtcp_wire.specs.RtpReadings.{rtp_in}
use Rattle.rtcp_engine.proofs.LawLemmas.{one_reading-computed, one_reading-once, one_reading-rtp_computed, one_reading-rtp_once}
use Rattle.rtcp_engine.specs.answers.Acts.{rtcp_came, rtp_came, ticked, left as asked_to_leave, EventValue, IsActOfEvent, rtcp_arrived, rtp_arrived, packet_sent, time_passed, leave_asked, settings_given, forget_asked, OutValue}
use Rattle.rtcp_engine.specs.declared.step.Step.{Step}
use Rattle.rtcp_guarded.specs.Guarded.{GuardedAnswer}
use Rattle.rtcp_guarded.specs.Views.{guarded_value}
use Rattle.rtcp_guarded.specs.declared.untaken.Untaken.{Untaken}
use Rattle.rtcp_serve.specs.Served.{Served, ServedValue, StandsServed, answer_for, followed_for}
use Rattle.rtcp_serve.specs.declared.serving.tally.Tally.{Tally}
use Rattle.rtcp_serve.specs.Tallies.{HasRoom, end_of, ends_session, with_arrival, with_datagram, with_moment, with_refused, with_send}
use Rattle.rtcp_serve.specs.Serving.{IsReader, Reader, Stage, act_in, resting, beginning, hearing, deciding, sending, ended, SessionState, rested, going, ReadsClock, Hears, Sends, Fits, at_stage, with_turns, paused, turn_by, turn_or, after_turns, gone_on, left_with, event_at, after_port, came_with, heard_at, after_clock, after_sending, after_call, after_calls, AllFit, at_the_start_of, stage_to_send, ticked_with, ticked_now, with_tally}
use Rattle.rtcp_serve.specs.Sessions.{Closes, EndsAs, EndsTurns, HasTurn, Holds, IsLeaveDue, Moves, Kept, Run, RunsCutOf, RunsSession, Turns, Walks, keeps_served, led_to, next_at, run_of, turns_of, turns_with}

-- ---- Logs

grows_by_none : (log : Option (List Call)) → GrowsBy [] log log
grows_by_none None = tt {0}
grows_by_none (Some calls) = (calls, refl, refl)

grows_on : (calls more : List Call) (x y z : Option (List Call)) → GrowsBy calls x y → GrowsBy more y z →
    GrowsBy (more ++ calls) x z
grows_on calls more x y None first second = tt {0}
grows_on calls more x y (Some log) first (earlier, is, joined) =
    let (start, began, grew) = subst (GrowsBy calls x) is first in
    (start, began, joined ∙ ap (λ l. more ++ l) grew ∙ sym (append_assoc more calls start))

-- A log that is told says which calls it grew by.
pub one_growth : (calls others : List Call) (x y : Option (List Call)) (log : List Call) → y ≡ Some log →
    GrowsBy calls x y → GrowsBy others x y → calls ≡ others
one_growth calls others x y log told one other =
    let (start, began, grew) = subst (GrowsBy calls x) told one in
    let (start', began', grew') = subst (GrowsBy others x) told other in
    let same : start ≡ start' = cc (began, began') in
    append_cancel_right calls others start (sym grew ∙ grew' ∙ ap (λ e. others ++ e) (sym same))

how_many_joined : (test : Call → Bool) (more calls : List Call) →
    how_many test (more ++ calls) ≡ how_many test more + how_many test calls
how_many_joined test more calls = ap length (filter-append test more calls)
    ∙ length-append (filter test more) (filter test calls)

called_on : (calls more : List Call) (x y z : LinkValue) → WereCalled calls x y → WereCalled more y z →
    WereCalled (more ++ calls) x z
called_on calls more x y z first second = record {
  log = grows_on calls more x.log y.log z.log first.log second.log;
  failed_receives = omega (
    arith,
    how_many_joined is_failed_receive more calls,
    first.failed_receives,
    second.failed_receives,
  );
  failed_sends = omega (arith, how_many_joined is_failed_send more calls, first.failed_sends, second.failed_sends);
}

-- ---- Standings

joined_calls : (reader : Reader) (total : ℕ) (s : SessionState) (more calls : List Call)
    → after_calls reader total s (more ++ calls) ≡ after_calls reader total (after_calls reader total s calls) more
joined_calls reader total s [] calls = refl
joined_calls reader total s (call ∷ more) calls = ap (λ t. after_call reader call (going reader total t))
    (joined_calls reader total s more calls)

joined_fit : (reader : Reader) (total : ℕ) (s : SessionState) (more calls : List Call) → AllFit reader total s calls
    → AllFit reader total (after_calls reader total s calls) more → AllFit reader total s (more ++ calls)
joined_fit reader total s [] calls fit rest = fit
joined_fit reader total s (call ∷ more) calls fit (rest, fits) = (
  joined_fit reader total s more calls fit rest,
  subst (λ t. Fits call (going reader total t).stage) (sym (joined_calls reader total s more calls)) fits,
)

moves_on : {O : Type 0} {run : Run O} {calls more : List Call} {s t u : SessionState} {x y z : LinkValue}
    → Moves run calls s t x y → Moves run more t u y z → Moves run (more ++ calls) s u x z
moves_on {run = run} {calls = calls} {more = more} {s = s} {x = x} {y = y} {z = z} first second =
    record {
      fit = joined_fit run.reader run.total s more calls first.fit
          (subst (λ t. AllFit run.reader run.total t more) first.reached second.fit);
      reached = second.reached ∙ ap (λ t. after_calls run.reader run.total t more) first.reached
          ∙ sym (joined_calls run.reader run.total s more calls);
      called = called_on calls more x y z first.called second.called;
    }

-- one call, where a session goes on from s as t
moves_by : {O : Type 0} (run : Run O) (call : Call) (s t : SessionState) (x y : LinkValue)
    → going run.reader run.total s ≡ t → Fits call t.stage → WereCalled (call ∷ []) x y
    → Moves run (call ∷ []) s (after_call run.reader call t) x y
moves_by run call s t x y goes fits called = record {
  fit = (tt {0}, subst (λ t. Fits call t.stage) (sym goes) fits);
  reached = ap (after_call run.reader call) (sym goes);
  called = called;
}

-- The act that a reader finds in an event is one of it.
pub is_act_in : (reader : Reader) → IsReader reader → (event : EventValue) → IsActOfEvent event (act_in reader event)
is_act_in reader reads (rtcp_arrived moment peer word octets) = ap (rtcp_came moment peer word octets)
    (one_reading-once octets (reader.rtcp octets) (rtcp_in octets) (reads.rtcp octets) (one_reading-computed octets))
is_act_in reader reads (rtp_arrived moment peer word octets) = ap (rtp_came moment peer word)
    (one_reading-rtp_once octets (reader.rtp octets) (rtp_in octets) (reads.rtp octets)
    (one_reading-rtp_computed octets))
is_act_in reader reads (packet_sent moment timestamp octets) = refl
is_act_in reader reads (time_passed moment first_word second_word) = refl
is_act_in reader reads (leave_asked moment word) = refl
is_act_in reader reads (settings_given moment settings) = refl
is_act_in reader reads (forget_asked moment ssrc) = refl

-- ---- Parts of a session

pub walks_nowhere : {O : Type 0} (takes : Notice → O → O → Type 0) (run : Run O) (s : SessionState) (kept : Kept O)
    (counted : Tally) (at : SessionState → Type 0) → Holds takes run s kept counted → at s
    → Walks takes run s kept.link kept counted at (turns_of s)
walks_nowhere takes run s kept counted at holds ends = record {
  calls = [];
  reached = s;
  moves = record {
    fit = tt {0};
    reached = refl;
    called = record {
      log = grows_by_none kept.link.log;
      failed_receives = omega (arith);
      failed_sends = omega (arith);
    };
  };
  holds = holds;
  ends = ends;
  turns = refl;
}

module _ {O : Type 0} {takes : Notice → O → O → Type 0} {run : Run O} {s : SessionState} {before : LinkValue}
    {after : Kept O} {counted : Tally} {at : SessionState → Type 0} {turns : Turns} where
  pub walks_to : (walk : Walks takes run s before after counted at turns) {to : SessionState → Type 0}
      → to walk.reached → Walks takes run s before after counted to turns
  walks_to walk ends = record {
    calls = walk.calls;
    reached = walk.reached;
    moves = walk.moves;
    holds = walk.holds;
    ends = ends;
    turns = walk.turns;
  }

  -- calls before it
  pub walks_after : {start : LinkValue} {r : SessionState} {calls : List Call} → Moves run calls r s start before
      → Walks takes run s before after counted at turns
      → Walks takes run r start after counted at turns
  walks_after {calls = calls} moves walk = record {
    calls = walk.calls ++ calls;
    reached = walk.reached;
    moves = moves_on moves walk.moves;
    holds = walk.holds;
    ends = walk.ends;
    turns = walk.turns;
  }

  -- the turns that it leaves
  pub is_left : (walk : Walks takes run s before after counted at turns) → walk.reached.turns ≡ turns.left
  is_left walk = ap (λ (t : Turns). t.left) walk.turns

  pub is_leaving : (walk : Walks takes run s before after counted at turns) → walk.reached.leaving ≡ turns.has_left
  is_leaving walk = ap (λ (t : Turns). t.has_left) walk.turns

  pub is_paused : (walk : Walks takes run s before after counted at turns) → walk.reached.pauses ≡ turns.pauses
  is_paused walk = ap (λ (t : Turns). t.pauses) walk.turns

  pub walks_as : {others : Turns} → turns ≡ others → Walks takes run s before after counted at turns
      → Walks takes run s before after counted at others
  walks_as same walk = record {
    calls = walk.calls;
    reached = walk.reached;
    moves = walk.moves;
    holds = walk.holds;
    ends = walk.ends;
    turns = walk.turns ∙ same;
  }

pub walks_on : {O : Type 0} {takes : Notice → O → O → Type 0} {run : Run O} {s : SessionState}
    {before : LinkValue} {mid after : Kept O} {counted counted' : Tally} {at to : SessionState → Type 0}
    {turns more : Turns} (first : Walks takes run s before mid counted at turns)
    → Walks takes run first.reached mid.link after counted' to more → Walks takes run s before after counted' to more
walks_on first walk = walks_after first.moves walk

-- the exit of a `?`, where the call's claim and the function's are the same of a cause
pub stops : {A B : Type 0} {cause : Cause} (P : Result A Cause → Type 0) (Q : Result B Cause → Type 0)
    (result : Result B Cause) {called : Result A Cause} → called ≡ Err cause → IsErrAnd result (λ y. y ≡ cause)
    → (P (Err cause) → Q (Err cause)) → P called → Q result
stops P Q result was passed alike ends =
    let exit = err_from_is_err_and result passed in
    subst Q (sym (exit.1 ∙ ap Err exit.2)) (alike (subst P was ends))

-- ---- Stages

abbrev pub IsUnderWay : Stage → Type 0
IsUnderWay resting = ⊥
IsUnderWay stage = Unit {0}

goes_on : (next s : SessionState) (stage : Stage) → IsUnderWay stage → rested next stage s ≡ s
goes_on next s resting under_way = absurd under_way
goes_on next s stage under_way = refl

going_under_way : (reader : Reader) (total : ℕ) (s : SessionState) (stage : Stage) → s.stage ≡ stage →
    IsUnderWay stage →
    going reader total s ≡ s
going_under_way reader total s stage is under_way = goes_on _ s s.stage (subst IsUnderWay (sym is) under_way)

pub either_way : (next : Stage) (answer : GuardedAnswer) → led_to next next answer ≡ next
either_way next (Ok step) = refl
either_way next (Err refusal) = refl

pub led_as : (next refused : Stage) (answer : Result Step Untaken) →
    led_to next refused (guarded_value answer) ≡ (if is_ok answer then next else refused)
led_as next refused (Ok step) = refl
led_as next refused (Err refusal) = refl

-- ---- Turns

-- The participant is told an event, and answers it: where that leads, with these words and counts.
abbrev pub told_as : Reader → EventValue → GuardedAnswer → Stream → Tally → Stage → SessionState → SessionState
told_as reader event answer words tally stage s = record {
  history = followed_for s.history (act_in reader event);
  notices = event_told (telling event answer) ∷ s.notices;
  words = words;
  tally = tally;
  turns = s.turns;
  leaving = s.leaving;
  pauses = s.pauses;
  stage = stage;
}

-- The clock is read, and the participant told that time has passed.
pub tick_told : {O : Type 0} {takes : Notice → O → O → Type 0} (run : Run O) (moment : ℕ) (s : SessionState)
    (before : Kept O) (mid rest : Stream) (first second : ℕ) (counted told : Tally) (answer : GuardedAnswer)
    (y : LinkValue) → Holds takes run s before counted → s.stage ≡ deciding
    → WereCalled (clock_read moment ∷ []) before.link y → told ≡ with_moment moment counted
    → (first, mid) ≡ next_u32 before.words → (second, rest) ≡ next_u32 mid
    → answer ≡ answer_for s.history (ticked told.moment first second)
    → Moves run (clock_read moment ∷ []) s (told_as run.reader (time_passed told.moment first second) answer rest told
    (stage_to_send resting resting answer) s) before.link y
tick_told run moment s before mid rest first second counted told answer y holds is called counts one two answers =
    let reader = run.reader in
    let event = time_passed told.moment first second in
    let fits : Fits (clock_read moment) s.stage = subst ReadsClock (sym is) (tt {0}) in
    let at = moves_by run (clock_read moment) s s before.link y
    (going_under_way reader run.total s deciding is (tt {0})) fits called in
    let drawn : next_u32 s.words ≡ (first, mid) = ap next_u32 (sym holds.words) ∙ sym one in
    let u : Tally → SessionState = λ tally. with_tally tally s in
    let given = answer_for s.history (ticked told.moment first second) in
    let ticks : told_as reader event given rest told (stage_to_send resting resting given) s
    ≡ ticked_now reader (with_tally (with_moment moment s.tally) s) =
    ap (λ q. ticked_with reader (first, mid) q (u told)) two
    ∙ ap (λ p. ticked_with reader p (next_u32 p.1) (u told)) (sym drawn)
    ∙ ap (λ tally. ticked_now reader (u tally)) (counts ∙ ap (with_moment moment) holds.tally) in
    let there = ap (λ a. told_as reader event a rest told (stage_to_send resting resting a) s) answers ∙ ticks
    ∙ ap (λ stage. after_clock reader moment stage s) (sym is) in
    subst (λ t. Moves run (clock_read moment ∷ []) s t before.link y) (sym there) at

rests_at : (reader : Reader) (total : ℕ) (s : SessionState) → s.stage ≡ resting →
    going reader total s ≡ turn_by (next_at s) s.turns (after_turns reader total s) s
rests_at reader total s rests = ap (λ stage. rested (turn_or (after_turns reader total s) s) stage s) rests

-- where a turn begins
turn_there : (left : ℕ) (next : Option ℕ) (otherwise s : SessionState) → IsTrue (is_some next)
    → turn_by next (suc left) otherwise s ≡ at_stage beginning (with_turns left s.leaving (paused false s))
turn_there left None otherwise s there = absurd cc
turn_there left (Some moment) otherwise s there = refl

turn_begins : (reader : Reader) (total left : ℕ) (s : SessionState) → HasTurn left s →
    going reader total s ≡ at_stage beginning (with_turns left s.leaving (paused false s))
turn_begins reader total left s has = rests_at reader total s has.resting
    ∙ ap (λ turns. turn_by (next_at s) turns (after_turns reader total s) s) has.turns
    ∙ turn_there left (next_at s) (after_turns reader total s) s has.there

-- A turn begins with the clock.
pub turn_clocked : {O : Type 0} {takes : Notice → O → O → Type 0} (run : Run O) (left moment : ℕ) (s : SessionState)
    (kept : Kept O) (counted told : Tally) (y : LinkValue) → Holds takes run s kept counted → HasTurn left s
    → WereCalled (clock_read moment ∷ []) kept.link y → told ≡ with_moment moment counted
    → Walks takes run s kept.link (record kept { link = y }) told (λ t. t.stage ≡ hearing RtcpPort)
    (turns_with left s.leaving (pause s.leaving s.tally.moment false ∷ s.pauses))
turn_clocked {takes = takes} run left moment s kept counted told y holds has called counts =
    let begun = at_stage beginning (with_turns left s.leaving (paused false s)) in
    let t = after_call run.reader (clock_read moment) begun in
    walks_after (moves_by run (clock_read moment) s begun kept.link y (turn_begins run.reader run.total left s has)
    (tt {0}) called)
    (walks_nowhere takes run t (record kept { link = y }) told (λ t. t.stage ≡ hearing RtcpPort) (record {
      participant = holds.participant;
      words = holds.words;
      tally = counts ∙ ap (with_moment moment) holds.tally;
      told = holds.told;
    }) refl)

-- A datagram came, a word is drawn, and the participant is told.
pub datagram_told : {O : Type 0} {takes : Notice → O → O → Type 0} (run : Run O) (port : Port) (peer : ℕ)
    (octets given : List ℕ) (s : SessionState) (before : Kept O) (rest : Stream) (word : ℕ)
    (counted mid told : Tally) (event : EventValue) (answer : GuardedAnswer) (y : LinkValue)
    → Holds takes run s before counted → s.stage ≡ hearing port → octets ≡ given
    → WereCalled (port_heard port 20000 (datagram peer given) ∷ []) before.link y
    → (word, rest) ≡ next_u32 before.words → mid ≡ with_datagram counted → told ≡ with_arrival answer mid
    → event ≡ event_at port mid.moment peer word octets → answer ≡ answer_for s.history (act_in run.reader event)
    → Moves run (port_heard port 20000 (datagram peer given) ∷ []) s (told_as run.reader event answer rest told
    (stage_to_send (after_port port) (after_port port) answer) s) before.link y
datagram_told run port peer octets given s before rest word counted mid told event answer y holds is named called drawn
    counts tells event_is answers =
    let next = after_port port in
    let reader = run.reader in
    let event_by : Tally → EventValue = λ c. event_at port c.moment peer word octets in
    let told_by : EventValue → GuardedAnswer → Tally → SessionState =
    λ e a c. told_as reader e a rest c (stage_to_send next next a) s in
    let answered : EventValue → Tally → SessionState =
    λ e c. let a = answer_for s.history (act_in reader e) in told_by e a (with_arrival a c) in
    let came : Tally → ℕ × Stream → SessionState =
    λ c. λ p. came_with reader (λ w. event_at port c.moment peer w octets) next p (with_tally c s) in
    let there = ap (told_by event answer) tells ∙ ap (λ a. told_by event a (with_arrival a mid)) answers
    ∙ ap (λ e. answered e mid) event_is ∙ ap (λ c. answered (event_by c) c) counts
    ∙ ap (λ c. came c (word, rest)) holds.tally ∙ ap (came s.tally) (drawn ∙ ap next_u32 holds.words)
    ∙ ap (λ o. heard_at reader port (datagram peer o) s) named in
    subst (λ t. Moves run (port_heard port 20000 (datagram peer given) ∷ []) s t before.link y) (sym there)
    (moves_by run (port_heard port 20000 (datagram peer given)) s s before.link y
    (going_under_way reader run.total s (hearing port) is (tt {0})) (subst (Hears port 20000) (sym is) (refl, refl))
    called)

-- A compound is sent, and the observer is told of it.
pub sent_over : {O : Type 0} {takes : Notice → O → O → Type 0} (run : Run O) (next : Stage) (changed : Option ℕ)
    (out : OutValue) (octets : List ℕ) (failed lost : Bool) (s : SessionState) (before after : Kept O)
    (counted told : Tally) → Holds takes run s before counted → s.stage ≡ sending out changed next
    → octets ≡ out.octets → WereCalled (compound_sent octets failed ∷ []) before.link after.link
    → after.participant ≡ before.participant → after.words ≡ before.words
    → takes (send_tried lost) before.observer after.observer
    → told ≡ with_send out.kind changed lost counted → lost ≡ failed
    → Walks takes run s before.link after told (λ t. t.stage ≡ next) (turns_of s)
sent_over {takes = takes} run next changed out octets failed lost s before after counted told holds is named called same
    alike takes_it counts fails =
    let t = after_sending failed (sending out changed next) s in
    let sends = moves_by run (compound_sent octets failed) s s before.link after.link
    (going_under_way run.reader run.total s (sending out changed next) is (tt {0}))
    (subst (Sends octets) (sym is) named) called in
    let moves = subst (λ t. Moves run (compound_sent octets failed ∷ []) s t before.link after.link)
    (ap (λ stage. after_sending failed stage s) is) sends in
    walks_after moves (walks_nowhere takes run t after told _ (record {
      participant = subst (λ p. StandsServed p s.history) (sym same) holds.participant;
      words = alike ∙ holds.words;
      tally = counts ∙ ap (λ b. with_send out.kind changed b counted) fails
          ∙ ap (with_send out.kind changed failed) holds.tally;
      told = (
        before.observer,
        holds.told,
        subst (λ b. takes (send_tried b) before.observer after.observer) fails takes_it,
      );
    }) refl)

pub none_left : (next : Option ℕ) → is_some next ≡ false → next ≡ None
none_left None is = refl
none_left (Some moment) is = absurd cc

-- one that is still there has made its turns
pub turns_left : (s : SessionState) → IsTrue (is_some (next_at s)) → (next_at s ≡ None) ⊎ (s.turns ≡ 0) → s.turns ≡ 0
turns_left s there (inl none) = absurd cc
turns_left s there (inr zero) = zero

-- ---- What comes next

goes_alike : (reader : Reader) (total : ℕ) (s u : SessionState) (calls : List Call) →
    going reader total s ≡ going reader total u →
    AllFit reader total u calls
    → AllFit reader total s calls × (going reader total (after_calls reader total s calls) ≡ going reader total
    (after_calls reader total u calls))
goes_alike reader total s u [] same fit = (tt {0}, same)
goes_alike reader total s u (call ∷ earlier) same (fit, fits) =
    let (fit', same') = goes_alike reader total s u earlier same fit in (
      (fit', subst (λ t. Fits call t.stage) (sym same') fits),
      ap (λ t. going reader total (after_call reader call t))
          same',
    )

-- From where a part of a session came to, the end comes next.
abbrev pub IsClosed : {O : Type 0} (run : Run O) (t : SessionState) (to : SessionState → Type 0) → Type 0
IsClosed run t to = (stage : Stage) × (going run.reader run.total t ≡ at_stage stage t) × to (at_stage stage t)

-- The last part of a session, from where it goes on as from an earlier standing.
pub closes : {O : Type 0} {takes : Notice → O → O → Type 0} {run : Run O} {s u : SessionState} {before : LinkValue}
    {after : Kept O} {counted : Tally} {at to : SessionState → Type 0} {turns : Turns}
    → going run.reader run.total s ≡ going run.reader run.total u
    → (walk : Walks takes run u before after counted at turns) → IsClosed run walk.reached to
    → Closes takes run s before after counted to turns.pauses
closes {run = run} {s = s} {u = u} same walk (stage, goes, ends) =
    let (fit, alike) = goes_alike run.reader run.total s u walk.calls same walk.moves.fit in
    record {
      calls = walk.calls;
      reached = at_stage stage walk.reached;
      comes = record {
        fit = fit;
        reached = sym goes ∙ ap (going run.reader run.total) walk.moves.reached ∙ sym alike;
        called = walk.moves.called;
      };
      holds = record {
        participant = walk.holds.participant;
        words = walk.holds.words;
        tally = walk.holds.tally;
        told = walk.holds.told;
      };
      ends = ends;
      paused = is_paused walk;
    }

pub closes_on : {O : Type 0} {takes : Notice → O → O → Type 0} {run : Run O} {s : SessionState}
    {before : LinkValue} {mid after : Kept O} {counted counted' : Tally} {at to : SessionState → Type 0}
    {turns : Turns} {pauses : List Pause} (first : Walks takes run s before mid counted at turns)
    → Closes takes run first.reached mid.link after counted' to pauses →
    Closes takes run s before after counted' to pauses
closes_on {run = run} {s = s} {before = before} {mid = mid} {after = after} first last =
    let calls = first.calls in
    let more = last.calls in
    record {
      calls = more ++ calls;
      reached = last.reached;
      comes = record {
        fit = joined_fit run.reader run.total s more calls first.moves.fit
            (subst (λ t. AllFit run.reader run.total t more) first.moves.reached last.comes.fit);
        reached = last.comes.reached
            ∙ ap (λ t. going run.reader run.total (after_calls run.reader run.total t more)) first.moves.reached
            ∙ ap (going run.reader run.total) (sym (joined_calls run.reader run.total s more calls));
        called = called_on calls more before mid.link after.link first.moves.called last.comes.called;
      };
      holds = last.holds;
      ends = last.ends;
      paused = last.paused;
    }

-- ---- The leave

-- where no turn is left
leave_there : (next : Option ℕ) (otherwise s : SessionState) → IsTrue (is_some next) →
    turn_by next 0 otherwise s ≡ otherwise
leave_there None otherwise s there = absurd cc
leave_there (Some moment) otherwise s there = refl

leave_comes : (reader : Reader) (total : ℕ) (s : SessionState) → IsLeaveDue s →
    going reader total s ≡ going reader total (left_with reader total (next_u32 s.words) s)
leave_comes reader total s due = rests_at reader total s due.resting
    ∙ ap (λ turns. turn_by (next_at s) turns (after_turns reader total s) s) due.turns
    ∙ leave_there (next_at s) (after_turns reader total s) s due.there
    ∙ ap (λ leaving. if leaving then at_stage (ended Done) s else gone_on (left_with reader total (next_u32 s.words) s))
    due.leaving

-- A word is drawn, and the participant told to leave. The observer is told that, and what it hands out is sent.
pub leave_told : {O : Type 0} {takes : Notice → O → O → Type 0} (run : Run O) (s : SessionState)
    (before after : Kept O) (participant : ServedValue) (rest : Stream) (word : ℕ) (counted told : Tally)
    (answer : GuardedAnswer) (at : SessionState → Type 0) → Holds takes run s before counted → IsLeaveDue s
    → (word, rest) ≡ next_u32 before.words → answer ≡ answer_for s.history (asked_to_leave counted.moment word)
    → StandsServed participant (followed_for s.history (asked_to_leave counted.moment word))
    → ((t : SessionState) → ((observer : O)
    → takes (event_told (telling (leave_asked counted.moment word) answer)) before.observer observer
    → Holds takes run t (keeps_served before.link participant rest observer) counted)
    → t.stage ≡ stage_to_send resting (ended Done) answer
    → Walks takes run t before.link after told at (turns_of t))
    → (u : SessionState) × (going run.reader run.total s ≡ going run.reader run.total u)
    × Walks takes run u before.link after told at
    (turns_with run.total true (pause false counted.moment true ∷ s.pauses))
leave_told run s before after participant rest word counted told answer at holds due drawn answers stands tells =
    let tally = holds.tally in
    let stream = holds.words in
    let u = told_as run.reader (leave_asked counted.moment word) answer rest counted
    (stage_to_send resting (ended Done) answer) (with_turns run.total true (paused true s)) in
    let there : left_with run.reader run.total (next_u32 s.words) s ≡ u = cc in
    let walk = tells u (λ observer took. record {
      participant = stands;
      words = refl;
      tally = refl;
      told = (before.observer, holds.told, took);
    }) refl in (
      u,
      leave_comes run.reader run.total s due ∙ ap (going run.reader run.total) there,
      walks_as (ap (λ left. turns_with run.total true (pause left s.tally.moment true ∷ s.pauses)) due.leaving
          ∙ ap (λ (t : Tally). turns_with run.total true (pause false t.moment true ∷ s.pauses)) (sym tally))
          walk,
    )

-- ---- The end

-- Where turns have ended, what comes next is the end, unless the leave is due.
pub gone_ends : (reader : Reader) (total : ℕ) (s : SessionState) → s.stage ≡ resting → next_at s ≡ None →
    going reader total s ≡ at_stage (ended Done) s
gone_ends reader total s rests none = rests_at reader total s rests
    ∙ ap (λ next. turn_by next s.turns (after_turns reader total s) s) none

last_ends : (next : Option ℕ) (otherwise s : SessionState) → otherwise ≡ at_stage (ended Done) s
    → turn_by next 0 otherwise s ≡ at_stage (ended Done) s
last_ends None otherwise s same = refl
last_ends (Some moment) otherwise s same = same

turns_end : (reader : Reader) (total : ℕ) (s : SessionState) → s.stage ≡ resting → (next_at s ≡ None) ⊎ (s.turns ≡ 0) →
    s.leaving ≡ true
    → going reader total s ≡ at_stage (ended Done) s
turns_end reader total s rests (inl none) leaving = gone_ends reader total s rests none
turns_end reader total s rests (inr none) leaving = rests_at reader total s rests
    ∙ ap (λ turns. turn_by (next_at s) turns (after_turns reader total s) s) none
    ∙ last_ends (next_at s) (after_turns reader total s) s (ap (λ leaving. if leaving then at_stage (ended Done) s else
    gone_on (left_with reader total (next_u32 s.words) s)) leaving)

-- A cause that ended it stays.
pub closed_at : {O : Type 0} (run : Run O) (t : SessionState) {cause : Cause} → t.stage ≡ ended cause →
    IsClosed run t (λ t. t.stage ≡ ended cause)
closed_at run t {cause = cause} is = (
  ended cause,
  going_under_way run.reader run.total t (ended cause) is (tt {0}) ∙ ap (λ stage. at_stage stage t) is,
  refl,
)

-- After the leave, the end of turns is that of the session.
pub closed_after : {O A : Type 0} (run : Run O) (t : SessionState) (result : Result A Cause) → EndsTurns result t →
    t.leaving ≡ true → IsClosed run t (EndsAs result)
closed_after run t (Ok done) (rests, over) leaving =
    (ended Done, turns_end run.reader run.total t rests over leaving, refl)
closed_after run t (Err cause) is leaving = closed_at run t is

-- The last part of a session that begins is the whole of it.
pub runs_as : {O : Type 0} {takes : Notice → O → O → Type 0} {run : Run O} {s : SessionState} {before : LinkValue}
    {after : Kept O} {counted : Tally} {at : SessionState → Type 0} {pauses : List Pause}
    (closed : Closes takes run s before after counted at pauses) (cause : Cause) (result : End)
    → closed.reached.stage ≡ ended cause → result ≡ end_of cause counted → RunsSession takes run s before after result
runs_as closed cause result ends is =
    let why = ap (λ (end : End). end.cause) is in
    record {
      calls = closed.calls;
      reached = closed.reached;
      comes = closed.comes;
      holds = record {
        participant = closed.holds.participant;
        words = closed.holds.words;
        tally = refl;
        told = closed.holds.told;
      };
      ends = (
        ends ∙ ap ended (sym why),
        is ∙ ap (end_of cause) closed.holds.tally ∙ ap (λ cause. end_of cause closed.reached.tally) (sym why),
      );
    }

-- ---- Endings

-- All turns were made.
pub uncut_whole : (known : Option Bool) (most : ℕ) → IsCut known most most
uncut_whole known most = record { within = omega (arith); whole = inl refl }

-- Where it is known that no ending ends them, all were.
never_cut : (most made : ℕ) → (made ≡ most) ⊎ MayAnswer (Some false) true → made ≡ most
never_cut most made (inl whole) = whole
never_cut most made (inr never) = absurd cc

pub uncut : (most made : ℕ) → IsCut (Some false) most made → made ≡ most
uncut most made cut = never_cut most made cut.whole

-- A session that no ending ends is one of all turns.
pub runs_whole : {O : Type 0} {takes : Notice → O → O → Type 0} {reader : Reader} {start : O} {history : Served}
    {words : Stream} {before : LinkValue} {after : Kept O} {result : End} (most turns made further : ℕ) → most ≡ turns
    → IsCut (Some false) most made → IsCut (Some false) most further
    → RunsSession takes (run_of reader further start) (at_the_start_of history words made) before after result
    → RunsSession takes (run_of reader turns start) (at_the_start_of history words turns) before after result
runs_whole {takes = takes} {reader = reader} {start = start} {history = history} {words = words} {before = before}
    {after = after} {result = result} most turns made further same leaves waits runs =
    subst (λ n. RunsSession takes (run_of reader n start) (at_the_start_of history words turns) before after result)
    (uncut most further waits ∙ same)
    (subst (λ n. RunsSession takes (run_of reader further start) (at_the_start_of history words n) before after result)
    (uncut most made leaves ∙ same) runs)

-- A session that may be ended, by its last part, which is the whole of it.
pub runs_cut : {O : Type 0} {takes : Notice → O → O → Type 0} {reader : Reader} {history : Served}
    {before after : Kept O} {counted : Tally} {at : SessionState → Type 0} {pauses : List Pause}
    (known : Bool → ℕ → Option Bool) (most made further left_at : ℕ)
    (closed : Closes takes (run_of reader further before.observer) (at_the_start_of history before.words made)
    before.link
    after counted at pauses) (cause : Cause) (result : End) → closed.reached.stage ≡ ended cause
    → result ≡ end_of cause counted → IsCut (known false left_at) most made → left_at ≤ counted.moment
    → IsCut (known true counted.moment) most further → AreHeeded known most made pauses
    → RunsCutOf takes reader known most history before after result
unfolding runs_as
runs_cut {counted = counted} known most made further left_at closed cause result ends is leaves left_by waits heeded =
    let moment = ap (λ (t : Tally). t.moment) closed.holds.tally in
    record {
      made = made;
      further = further;
      runs = runs_as closed cause result ends is;
      heeded = subst (AreHeeded known most made) (sym closed.paused) heeded;
      left_at = left_at;
      leaves = leaves;
      left_by = subst (λ n. left_at ≤ n) moment left_by;
      waits = subst (λ n. IsCut (known true n) most further) moment waits;
    }

-- Turns that were over by an ending that is known alike.
pub cut_alike : {one other : Option Bool} {most made : ℕ} → one ≡ other → IsCut one most made → IsCut other most made
cut_alike {most = most} {made = made} same cut = subst (λ known. IsCut known most made) same cut

-- What was answered, of an ending that is known alike since.
pub answers_as : (known since : Option Bool) (result answer : Bool) → known ≡ since → result ≡ answer
    → MayAnswer known result → MayAnswer since answer
answers_as known since result answer same is may =
    subst (λ known. MayAnswer known answer) same (subst (MayAnswer known) is may)

-- one pause more
heeds_more : (known : Bool → ℕ → Option Bool) (most made : ℕ) (one : Pause) (pauses : List Pause)
    → IsHeeded (known one.has_left one.moment) most made one.is_over → AreHeeded known most made pauses
    → AreHeeded known most made (one ∷ pauses)
heeds_more known most made one pauses heeded all = record {
  each = All-cons (λ (one : Pause). IsHeeded (known one.has_left one.moment) most made one.is_over) one pauses heeded
      all.each;
}

-- A turn that was made where the ending was not met.
pub heeds_turn : (known : Bool → ℕ → Option Bool) (most made : ℕ) (has_left left : Bool) (counted tally : Tally)
    (pauses others : List Pause) → left ≡ has_left → counted ≡ tally → others ≡ pauses
    → MayAnswer (known has_left counted.moment) false → AreHeeded known most made pauses
    → AreHeeded known most made (pause left tally.moment false ∷ others)
heeds_turn known most made has_left left counted tally pauses others leaves holds paused goes heeded =
    let there = heeds_more known most made (pause has_left counted.moment false) pauses goes heeded in
    subst (λ left. AreHeeded known most made (pause left tally.moment false ∷ others)) (sym leaves)
    (subst (λ (tally : Tally). AreHeeded known most made (pause has_left tally.moment false ∷ others)) holds
    (subst (λ others. AreHeeded known most made (pause has_left counted.moment false ∷ others)) (sym paused) there))

-- The leave, where the ending was met or all turns were made.
pub leave_heeded : (known : Bool → ℕ → Option Bool) (most made moment : ℕ) (pauses : List Pause)
    → IsCut (known false moment) most made → AreHeeded known most made pauses
    → AreHeeded known most made (pause false moment true ∷ pauses)
leave_heeded known most made moment pauses cut heeded =
    heeds_more known most made (pause false moment true) pauses cut.whole heeded

-- of an ending that is known alike
heeded_alike : (one other : Bool → ℕ → Option Bool) (most made : ℕ) (pauses : List Pause)
    → ((left : Bool) (at : ℕ) → one left at ≡ other left at) → AreHeeded one most made pauses
    → AreHeeded other most made pauses
heeded_alike one other most made pauses same heeded = record {
  each = λ k d below. let at = slice_index_or pauses k d in
      subst (λ known. IsHeeded known most made at.is_over) (same at.has_left at.moment) (heeded.each k d below);
}

-- What is heeded since the leave, by an ending that is known alike before it and since.
pub heeded_since : (later known : Bool → ℕ → Option Bool) (most made moment : ℕ) (reached before all : List Pause)
    → ((left : Bool) (at : ℕ) → later left at ≡ known left at) → reached ≡ before
    → (AreHeeded later most made (pause false moment true ∷ reached) → AreHeeded later most made all)
    → AreHeeded known most made (pause false moment true ∷ before) → AreHeeded known most made all
heeded_since later known most made moment reached before all same is since heeded =
    heeded_alike later known most made all same
    (since (subst (λ l. AreHeeded later most made (pause false moment true ∷ l)) (sym is)
    (heeded_alike known later most made (pause false moment true ∷ before) (λ left at. sym (same left at)) heeded)))

-- where no pause was made yet
pub none_heeded : (known : Bool → ℕ → Option Bool) (most made : ℕ) (pauses : List Pause) → pauses ≡ []
    → AreHeeded known most made pauses
none_heeded known most made pauses none = subst (AreHeeded known most made) (sym none) (record { each = All-nil _ })

-- ---- Room

pub less_room : (most least : ℕ) (tally : Tally) (link : LinkValue) → least ≤ most → HasRoom most tally link →
    HasRoom least tally link
less_room most least tally link le room = search rules

limit_room : (limit : Bool) (more : ℕ) (tally : Tally) (link : LinkValue) → tally.refused + 1 + more < 2 ^ 64 →
    HasRoom more tally link
    → HasRoom more (if limit then tally else with_refused (tally.refused + 1) tally) link
limit_room true more tally link one_more room = room
limit_room false more tally link one_more room = search rules

arrival_room : (answer : GuardedAnswer) (more : ℕ) (tally : Tally) (link : LinkValue) →
    tally.refused + 1 + more < 2 ^ 64 → HasRoom more tally link
    → HasRoom more (with_arrival answer tally) link
arrival_room (Ok step) more tally link one_more room = room
arrival_room (Err refusal) more tally link one_more room = limit_room (ends_session refusal) more tally link one_more
    room

-- The room that is left once a datagram was counted, and the answer to it.
pub datagram_room : (more : ℕ) (port : Port) (wait peer : ℕ) (octets : List ℕ) (answer : GuardedAnswer)
    (counted mid told : Tally) (x y : LinkValue)
    → HasRoom (more + 2) counted x → mid ≡ with_datagram counted → told ≡ with_arrival answer mid
    → WereCalled (port_heard port wait (datagram peer octets) ∷ []) x y → HasRoom (more + 1) told y
datagram_room more port wait peer octets answer counted mid told x y room counts tells called =
    let same : told ≡ with_arrival answer (with_datagram counted) = tells ∙ ap (with_arrival answer) counts in
    subst (λ t. HasRoom (more + 1) t y) (sym same)
    (arrival_room answer (more + 1) (with_datagram counted) y (omega (arith, room.refused)) (search rules))
