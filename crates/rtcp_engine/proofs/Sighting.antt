-- A datagram that was taken, and that names a source, is a sighting of it at its moment.
use Rattle.std.proofs.Common.{◌≡◌, ℕ, zero, suc, ◌≤◌, ◌&&◌, ◌||◌, ◌==◌, not, Bool, true, false, List, [], ◌∷◌, ◌++◌, if◌then◌else◌, append_assoc, Contains, Option, Some, None, Ok, Err, refl, sym, ap, subst, arith}
use Rattle.std.specs.List.{list_any}
use Rattle.rtcp_wire.specs.declared.fact.Fact.{Fact}
use Rattle.rtcp_wire.specs.Facts.{subject, is_gone, facts_of}
use Rattle.rtcp_members.specs.Entries.{counted_at}
use Rattle.rtcp_members.specs.Stays.{last_naming}
use Rattle.rtcp_members.specs.Traces.{TraceStep, block_made_of, fact_came, is_naming, with_facts, with_blocks}
use Rattle.rtcp_engine.specs.answers.Acts.{Act, Datagram, arrived, configured, left, moment_of, rtcp, rtp, rtp_sent, ticked, forgotten}
use Rattle.rtcp_engine.specs.answers.Arrivals.{facts_of_csrcs, facts_of_media, media_fact, rate_of}
use Rattle.rtcp_engine.specs.answers.Changes.{NewIdentifier, Session, change_by, changed_by}
use Rattle.rtcp_engine.specs.bounds.Hearing.{names_source, with_acts, IsHeardAtTicks, IsNamedAtTicks}
use Rattle.rtcp_engine.specs.answers.Histories.{History, last_moment, life_at, session_of}
use Rattle.rtcp_engine.specs.answers.Leaving.{Life, backing_off, finished, present}
use Rattle.rtcp_engine.specs.answers.Lives.{lived, with_new_ssrc, with_datagram}
use Rattle.rtcp_engine.specs.answers.Outcomes.{Outcome}
use Rattle.rtcp_engine.specs.answers.Reporting.{reported_at}
use Rattle.rtcp_engine.specs.answers.Setups.{Setup}
use Rattle.rtcp_engine.specs.state.Taken.{AllTaken, IsHistory}
use Rattle.rtcp_engine.specs.answers.Ticks.{after_check, checked}
use Rattle.rtcp_engine.proofs.LifeLemmas.{of_check, of_leave, of_wait}
use Rattle.rtcp_engine.proofs.Sending.{in_time}

module _ (ssrc at : ℕ) where
  -- The newest fact that names the source came at this moment or later.
  abbrev IsSighted : List TraceStep → Type 0
  IsSighted trace = at ≤ last_naming ssrc trace

  -- ---- Traces

  sighted_by : (fact : Fact) (t : ℕ) (trace : List TraceStep) → at ≤ t → IsSighted trace →
      IsSighted (fact_came fact t ∷ trace)
  sighted_by fact t trace order is = by (is_naming ssrc (fact_came fact t))
    where
      by : (naming : Bool) → at ≤ (if naming then t else last_naming ssrc trace)
      by true = order
      by false = is

  sighted_after : (facts : List Fact) (t : ℕ) (trace : List TraceStep) → at ≤ t → IsSighted trace →
      IsSighted (with_facts facts t trace)
  sighted_after [] t trace order is = is
  sighted_after (fact ∷ facts) t trace order is =
      sighted_after facts t (fact_came fact t ∷ trace) order (sighted_by fact t trace order is)

  named_first : (fact : Fact) (trace : List TraceStep) → (not (is_gone fact) && subject fact == ssrc) ≡ true →
      IsSighted (fact_came fact at ∷ trace)
  named_first fact trace naming =
      let now : last_naming ssrc (fact_came fact at ∷ trace) ≡ at =
      ap (λ (b : Bool). if b then at else last_naming ssrc trace) naming in
      omega (arith, now)

  named_by : (facts : List Fact) (trace : List TraceStep) →
      list_any (λ fact. not (is_gone fact) && subject fact == ssrc) facts ≡ true →
      IsSighted (with_facts facts at trace)
  named_by [] trace named = absurd cc
  named_by (fact ∷ facts) trace named =
      by (not (is_gone fact) && subject fact == ssrc) refl named (named_by facts (fact_came fact at ∷ trace))
    where
      by : (naming : Bool) → (not (is_gone fact) && subject fact == ssrc) ≡ naming →
          (naming || list_any (λ fact. not (is_gone fact) && subject fact == ssrc) facts) ≡ true →
          (list_any (λ fact. not (is_gone fact) && subject fact == ssrc) facts ≡ true →
          IsSighted (with_facts facts at (fact_came fact at ∷ trace))) →
          IsSighted (with_facts facts at (fact_came fact at ∷ trace))
      by true is any rest =
          sighted_after facts at (fact_came fact at ∷ trace) (omega arith) (named_first fact trace is)
      by false is any rest = rest any

  sighted_blocks : (ssrcs : List ℕ) (trace : List TraceStep) → IsSighted trace →
      IsSighted (with_blocks ssrcs trace)
  sighted_blocks [] trace is = is
  sighted_blocks (ssrc ∷ ssrcs) trace is = sighted_blocks ssrcs (block_made_of ssrc ∷ trace) is

  -- ---- Acts of one that takes part

  after_arrival : (setup : Setup) (t : ℕ) (datagram : Datagram) (outcome : Outcome) → at ≤ t →
      IsSighted outcome.trace → IsSighted (with_datagram setup t datagram outcome).trace
  after_arrival setup t (rtcp size (Ok packets)) outcome order is =
      sighted_after (facts_of packets) t outcome.trace order is
  after_arrival setup t (rtcp size (Err fault)) outcome order is = is
  after_arrival setup t (rtp (Ok head)) outcome order is =
      let counted = counted_at setup.capacity outcome.trace (media_fact (rate_of setup head) head) in
      sighted_after (facts_of_media setup.ssrc (rate_of setup head) head counted) t outcome.trace order is
  after_arrival setup t (rtp (Err fault)) outcome order is = is

  named_arrival : (setup : Setup) (datagram : Datagram) (outcome : Outcome) → names_source ssrc datagram ≡ true →
      IsSighted (with_datagram setup at datagram outcome).trace
  named_arrival setup (rtcp size (Ok packets)) outcome named = named_by (facts_of packets) outcome.trace named
  named_arrival setup (rtp (Ok head)) outcome named =
      let rate : ℕ = rate_of setup head in
      let counted = counted_at setup.capacity outcome.trace (media_fact rate head) in
      let rest : List Fact = if counted then facts_of_csrcs setup.ssrc head.csrcs else [] in
      named_by (facts_of_media setup.ssrc rate head counted) outcome.trace
      (ap (λ (b : Bool). b || list_any (λ fact. not (is_gone fact) && subject fact == ssrc) rest) named)
  named_arrival setup datagram outcome named = absurd cc

  after_ticked : (setup : Setup) (t first_word second_word : ℕ) (outcome : Outcome) → IsSighted outcome.trace →
      IsSighted (after_check setup t first_word second_word outcome).trace
  after_ticked setup t first_word second_word outcome is =
      of_check (λ (now : Outcome). IsSighted now.trace) setup t first_word second_word outcome is is
      (sighted_blocks (reported_at setup t outcome) outcome.trace is)

  -- ---- Lives

  abbrev LivesSighted : Life → Type 0
  LivesSighted (present outcome) = IsSighted outcome.trace
  LivesSighted life = Unit {0}

  lives_sighted : (setup : Setup) (act : Act) (life : Life) → at ≤ moment_of act → LivesSighted life →
      LivesSighted (lived setup act life)
  lives_sighted setup (arrived t peer word datagram) (present outcome) order is =
      after_arrival setup t datagram outcome order is
  lives_sighted setup (rtp_sent t timestamp octets) (present outcome) order is = is
  lives_sighted setup (ticked t first_word second_word) (present outcome) order is =
      after_ticked setup t first_word second_word (checked setup t outcome) is
  lives_sighted setup (left t word) (present outcome) order is = of_leave LivesSighted setup t word outcome tt tt
  lives_sighted setup (configured t settings) (present outcome) order is = is
  lives_sighted setup (forgotten t other) (present outcome) order is = is
  lives_sighted setup (ticked t first_word second_word) (backing_off outcome backoff) order is =
      of_wait LivesSighted setup t first_word outcome backoff tt tt
  lives_sighted setup (arrived t peer word (rtcp size reading)) (backing_off outcome backoff) order is = tt
  lives_sighted setup act life order is = tt

  named_life : (setup : Setup) (peer word : ℕ) (datagram : Datagram) (life : Life) →
      names_source ssrc datagram ≡ true → LivesSighted (lived setup (arrived at peer word datagram) life)
  named_life setup peer word datagram (present outcome) named = named_arrival setup datagram outcome named
  named_life setup peer word (rtcp size reading) (backing_off outcome backoff) named = tt
  named_life setup peer word datagram life named = tt

  -- A change of identifier changes nothing of the others.
  changed_sighted : (session : Session) (change : Option NewIdentifier) → LivesSighted session.life →
      LivesSighted (changed_by change session).life
  changed_sighted session None is = is
  changed_sighted session (Some new) is = by session.life is
    where
      by : (life : Life) → LivesSighted life → LivesSighted (with_new_ssrc session.setup life)
      by (present outcome) is = is
      by (backing_off outcome backoff) is = tt
      by (finished outcome) is = tt

  -- ---- Histories

  session_sighted : (setup : Setup) (start_word : ℕ) (acts : List Act) (peer word : ℕ) (datagram : Datagram) →
      AllTaken setup start_word acts → Contains acts (arrived at peer word datagram) →
      names_source ssrc datagram ≡ true →
      (at ≤ last_moment acts) × LivesSighted (session_of setup start_word acts).life
  session_sighted setup start_word [] peer word datagram taken (k, inside, is) named =
      absurd (omega (arith, inside))
  session_sighted setup start_word (act ∷ earlier) peer word datagram taken (zero, inside, is) named =
      let before = session_of setup start_word earlier in
      let now = changed_by (change_by before act) before in
      let same : moment_of act ≡ at = ap moment_of is in (
        omega (arith, same),
        subst (λ (act' : Act). LivesSighted (lived now.setup act' now.life)) (sym is)
            (named_life now.setup peer word datagram now.life named),
      )
  session_sighted setup start_word (act ∷ earlier) peer word datagram taken (suc k, inside, is) named =
      let before = session_of setup start_word earlier in
      let change = change_by before act in
      let now = changed_by change before in
      let rest =
      session_sighted setup start_word earlier peer word datagram taken.2 (k, omega (arith, inside), is) named in
      let order = in_time (record { setup = setup; word = start_word; acts = earlier }) act taken.0 in (
        omega (arith, rest.0, order),
        lives_sighted now.setup act now.life (omega (arith, rest.0, order)) (changed_sighted before change rest.1),
      )

pub sighted_at : (history : History) (outcome : Outcome) (ssrc at peer word : ℕ) (datagram : Datagram) →
    IsHistory history → life_at history ≡ present outcome → Contains history.acts (arrived at peer word datagram) →
    names_source ssrc datagram ≡ true → at ≤ last_naming ssrc outcome.trace
sighted_at history outcome ssrc at peer word datagram is same there named =
    subst (LivesSighted ssrc at) same (session_sighted ssrc at history.setup history.word history.acts peer word
    datagram is.taken there named).1

-- What was taken of a history was taken of its beginning.
taken_before : (setup : Setup) (word : ℕ) (newer older : List Act) → AllTaken setup word (newer ++ older) →
    AllTaken setup word older
taken_before setup word [] older taken = taken
taken_before setup word (act ∷ newer) older taken = taken_before setup word newer older taken.2

pub named_are_heard_at_ticks : (history : History) (since : List Act) (ssrc : ℕ) →
    IsHistory (with_acts since history) → IsNamedAtTicks ssrc since history → IsHeardAtTicks ssrc since history
named_are_heard_at_ticks history since ssrc is named newer t first_word second_word older outcome parts same =
    let earlier = with_acts older history in
    let came = named newer t first_word second_word older outcome parts same in
    let all : AllTaken history.setup history.word ((newer ++ ticked t first_word second_word ∷ older) ++ history.acts) =
    subst (λ (acts : List Act). AllTaken history.setup history.word (acts ++ history.acts)) parts is.taken in
    let taken : AllTaken history.setup history.word
    (newer ++ ticked t first_word second_word ∷ (older ++ history.acts)) =
    subst (AllTaken history.setup history.word)
    (append_assoc newer (ticked t first_word second_word ∷ older) history.acts) all in
    let stands : IsHistory earlier = record {
      usable = is.usable;
      word = is.word;
      taken = (taken_before history.setup history.word newer
          (ticked t first_word second_word ∷ (older ++ history.acts)) taken).2;
    } in
    let sighted = sighted_at earlier outcome ssrc came.at came.peer came.word came.datagram stands same came.taken
    came.named in
    omega (arith, sighted, came.lately)
