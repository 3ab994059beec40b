-- Where nothing is said of other clocks, each RTP packet counts in units of the usual one.
use Rattle.std.proofs.Common.{◌≡◌, ◌==◌, not, ℕ, Bool, true, false, List, [], ◌∷◌, map, filter, All, Option, Some, None, Ok, refl, sym, ap, ◌∙◌, subst}
use Rattle.std.proofs.lemmas.List.Elements.{All-head, All-tail}
use Rattle.rtcp_wire.specs.declared.fact.Fact.{Fact}
use Rattle.rtcp_wire.specs.declared.fact.Fact.TheVariants.{Heard, Media}
use Rattle.rtcp_wire.specs.Facts.{facts_of, is_media}
use Rattle.rtcp_wire.specs.Values.{RtpValue}
use Rattle.rtcp_wire.proofs.LawLemmas.{compounds_give_no_media}
use Rattle.rtcp_members.specs.Clocks.{HasOneClock, HasRate}
use Rattle.rtcp_members.specs.Entries.{counted_at}
use Rattle.rtcp_members.specs.Traces.{TraceStep, block_made_of, fact_came, with_facts, with_blocks}
use Rattle.rtcp_engine.specs.answers.Setups.{Setup, ClockValue, rate_among}
use Rattle.rtcp_engine.specs.answers.Acts.{Act, arrived, configured, left, rtcp, rtp, rtp_sent, ticked, forgotten}
use Rattle.rtcp_engine.specs.answers.Arrivals.{after, facts_of_media, media_fact}
use Rattle.rtcp_engine.specs.answers.Changes.{NewIdentifier, Session, change_by, changed_by}
use Rattle.std.specs.List.{AllByRecursion}
use Rattle.rtcp_engine.specs.answers.Histories.{session_of, setup_after}
use Rattle.rtcp_engine.specs.state.Taken.{GivesNoClocks}
use Rattle.rtcp_engine.specs.answers.Leaving.{Life, present, backing_off}
use Rattle.rtcp_engine.specs.answers.Lives.{lived, with_new_ssrc}
use Rattle.rtcp_engine.specs.answers.Outcomes.{Outcome}
use Rattle.rtcp_engine.specs.answers.Reporting.{reported_at}
use Rattle.rtcp_engine.specs.answers.Ticks.{checked}
use Rattle.rtcp_engine.proofs.LifeLemmas.{of_check, of_leave, of_wait}

-- ---- Facts

no_media : (rate : ℕ) (fact : Fact) → is_media fact ≡ false → HasRate rate fact
no_media rate (Media ssrc seq timestamp octets other) is = absurd cc
no_media rate fact is = tt

facts_have : (rate moment : ℕ) (facts : List Fact) (trace : List TraceStep) →
    All (λ fact. is_media fact ≡ false) facts →
    HasOneClock rate trace → HasOneClock rate (with_facts facts moment trace)
facts_have rate moment [] trace none has = has
facts_have rate moment (fact ∷ facts) trace none has =
    let is_none = λ (fact : Fact). is_media fact ≡ false in
    facts_have rate moment facts (fact_came fact moment ∷ trace) (All-tail is_none fact facts none)
    (no_media rate fact (All-head is_none fact facts none), has)

csrcs_have : (rate moment : ℕ) (ssrcs : List ℕ) (trace : List TraceStep) → HasOneClock rate trace →
    HasOneClock rate (with_facts (map Heard ssrcs) moment trace)
csrcs_have rate moment [] trace has = has
csrcs_have rate moment (ssrc ∷ ssrcs) trace has =
    csrcs_have rate moment ssrcs (fact_came (Heard ssrc) moment ∷ trace) (tt, has)

media_has : (own rate moment : ℕ) (head : RtpValue) (is_counted : Bool) (trace : List TraceStep) →
    HasOneClock rate trace → HasOneClock rate (with_facts (facts_of_media own rate head is_counted) moment trace)
media_has own rate moment head true trace has =
    csrcs_have rate moment (filter (λ ssrc. not (ssrc == own)) head.csrcs)
    (fact_came (media_fact rate head) moment ∷ trace) (refl, has)
media_has own rate moment head false trace has = (refl, has)

blocks_have : (rate : ℕ) (ssrcs : List ℕ) (trace : List TraceStep) → HasOneClock rate trace →
    HasOneClock rate (with_blocks ssrcs trace)
blocks_have rate [] trace has = has
blocks_have rate (ssrc ∷ ssrcs) trace has = blocks_have rate ssrcs (block_made_of ssrc ∷ trace) (tt, has)

-- ---- One that takes part

-- Each payload type has a clock of this rate.
abbrev IsOfOneClock : Setup → (rate : ℕ) → Type 0
IsOfOneClock setup rate = (payload_type : ℕ) → rate_among setup.settings.clocks setup.settings.rate payload_type ≡ rate

after_has : (setup : Setup) (rate : ℕ) → IsOfOneClock setup rate → (act : Act) (outcome : Outcome) →
    HasOneClock rate outcome.trace → HasOneClock rate (after setup act outcome).trace
after_has setup rate is (arrived t peer word (rtcp size (Ok packets))) outcome has =
    facts_have rate t (facts_of packets) outcome.trace (compounds_give_no_media packets) has
after_has setup rate is (arrived t peer word (rtp (Ok head))) outcome has =
    subst (λ (r : ℕ). HasOneClock rate (with_facts
    (facts_of_media setup.ssrc r head (counted_at setup.capacity outcome.trace (media_fact r head))) t outcome.trace))
    (sym (is head.payload_type))
    (media_has setup.ssrc rate t head (counted_at setup.capacity outcome.trace (media_fact rate head)) outcome.trace
    has)
after_has setup rate is (ticked t first_word second_word) outcome has =
    let now = checked setup t outcome in
    of_check (λ (next : Outcome). HasOneClock rate next.trace) setup t first_word second_word now (tt, has) (tt, has)
    (blocks_have rate (reported_at setup t now) now.trace (tt, has))
after_has setup rate is (forgotten t ssrc) outcome has = (tt, has)
after_has setup rate is act outcome has = has

-- ---- Lives

abbrev HasIn : (rate : ℕ) → Life → Type 0
HasIn rate (present outcome) = HasOneClock rate outcome.trace
HasIn rate life = Unit {0}

lived_has : (setup : Setup) (rate : ℕ) → IsOfOneClock setup rate → (act : Act) (life : Life) → HasIn rate life →
    HasIn rate (lived setup act life)
lived_has setup rate is (arrived t peer word datagram) (present outcome) has =
    after_has setup rate is (arrived t peer word datagram) outcome has
lived_has setup rate is (rtp_sent t timestamp octets) (present outcome) has = has
lived_has setup rate is (ticked t first_word second_word) (present outcome) has =
    after_has setup rate is (ticked t first_word second_word) outcome has
lived_has setup rate is (left t word) (present outcome) has = of_leave (HasIn rate) setup t word outcome tt tt
lived_has setup rate is (configured t settings) (present outcome) has = has
lived_has setup rate is (forgotten t ssrc) (present outcome) has = (tt, has)
lived_has setup rate is (ticked t first_word second_word) (backing_off outcome backoff) has =
    of_wait (HasIn rate) setup t first_word outcome backoff tt tt
lived_has setup rate is (arrived t peer word (rtcp size reading)) (backing_off outcome backoff) has = tt
lived_has setup rate is act life has = tt

renamed_has : (rate : ℕ) (setup : Setup) (life : Life) → HasIn rate life → HasIn rate (with_new_ssrc setup life)
renamed_has rate setup (present outcome) has = has
renamed_has rate setup life has = tt

changed_has : (rate : ℕ) (session : Session) (change : Option NewIdentifier) → HasIn rate session.life →
    HasIn rate (changed_by change session).life
changed_has rate session None has = has
changed_has rate session (Some new) has = renamed_has rate session.setup session.life has

-- ---- Sessions

-- Nothing is said of the clocks of payload types, as long as no act says something.
no_clocks : (setup : Setup) (word : ℕ) (acts : List Act) → setup.settings.clocks ≡ [] →
    AllByRecursion (GivesNoClocks setup.settings.rate) acts → let now = (session_of setup word acts).setup in
    (now.settings.clocks ≡ []) × (now.settings.rate ≡ setup.settings.rate)
no_clocks setup word [] none gives = (none, refl)
no_clocks setup word (act ∷ earlier) none gives =
    let before = session_of setup word earlier in
    let change = change_by before act in
    by_act act (changed_by change before).setup gives.0
    (by_change before change (no_clocks setup word earlier none gives.1))
  where
    by_change : (session : Session) (change : Option NewIdentifier) →
        (session.setup.settings.clocks ≡ []) × (session.setup.settings.rate ≡ setup.settings.rate) →
        ((changed_by change session).setup.settings.clocks ≡ [])
        × ((changed_by change session).setup.settings.rate ≡ setup.settings.rate)
    by_change session None none = none
    by_change session (Some new) none = none

    by_act : (act : Act) (now : Setup) → GivesNoClocks setup.settings.rate act →
        (now.settings.clocks ≡ []) × (now.settings.rate ≡ setup.settings.rate) →
        ((setup_after act now).settings.clocks ≡ []) × ((setup_after act now).settings.rate ≡ setup.settings.rate)
    by_act (configured t settings) now gives none = gives
    by_act act now gives none = none

changed_clock : (rate : ℕ) (session : Session) (change : Option NewIdentifier) → IsOfOneClock session.setup rate →
    IsOfOneClock (changed_by change session).setup rate
changed_clock rate session None is = is
changed_clock rate session (Some new) is = is

one_clock_at : (setup : Setup) (word : ℕ) (acts : List Act) → setup.settings.clocks ≡ [] →
    AllByRecursion (GivesNoClocks setup.settings.rate) acts →
    IsOfOneClock (session_of setup word acts).setup setup.settings.rate
one_clock_at setup word acts none gives payload_type =
    let now = (session_of setup word acts).setup in
    let same = no_clocks setup word acts none gives in
    ap (λ (clocks : List ClockValue). rate_among clocks now.settings.rate payload_type) same.0 ∙ same.1

session_has : (setup : Setup) (word : ℕ) (acts : List Act) → setup.settings.clocks ≡ [] →
    AllByRecursion (GivesNoClocks setup.settings.rate) acts →
    HasIn setup.settings.rate (session_of setup word acts).life
session_has setup word [] none gives = tt
session_has setup word (act ∷ earlier) none gives =
    let before = session_of setup word earlier in
    let change = change_by before act in
    let now = changed_by change before in
    lived_has now.setup setup.settings.rate
    (changed_clock setup.settings.rate before change (one_clock_at setup word earlier none gives.1)) act now.life
    (changed_has setup.settings.rate before change (session_has setup word earlier none gives.1))

pub one_clock : (setup : Setup) (word : ℕ) (acts : List Act) (outcome : Outcome) → setup.settings.clocks ≡ [] →
    AllByRecursion (GivesNoClocks setup.settings.rate) acts → (session_of setup word acts).life ≡ present outcome →
    HasOneClock setup.settings.rate outcome.trace
one_clock setup word acts outcome none gives is = subst (HasIn setup.settings.rate) is
    (session_has setup word acts none gives)
