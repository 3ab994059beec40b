-- Who is heard becomes a member, and who was heard lately stays one.
use Rattle.std.proofs.Common.{◌≡◌, ℕ, ◌&&◌, ◌==◌, not, map, filter, cond, Bool, true, false, List, [], ◌∷◌, All, Contains, Option, Some, None, Ok, refl, sym, ap, subst, ◌∙◌, arith}
use Rattle.std.proofs.lemmas.List.Elements.{All-nil, All-cons, All-head, All-tail}
use Rattle.rtcp_wire.specs.declared.fact.Fact.{Fact}
use Rattle.rtcp_wire.specs.declared.fact.Fact.TheVariants.{Heard, Named}
use Rattle.rtcp_wire.specs.Facts.{subject, is_gone, facts_of}
use Rattle.rtcp_wire.specs.Values.{RtcpPacket, RtpValue}
use Rattle.rtcp_members.specs.Entries.{counted_at, entry_at, is_member, is_such}
use Rattle.rtcp_members.specs.Lasting.{MayBring}
use Rattle.rtcp_members.specs.Traces.{TraceStep, block_made_of, check_made, source_forgotten, with_blocks}
use Rattle.rtcp_members.proofs.Lasting.{member_on}
use Rattle.rtcp_members.proofs.Introducing.{members_through, named_become_members}
use Rattle.rtcp_engine.specs.answers.Acts.{Act, Datagram, arrived, configured, left, rtcp, rtp, rtp_sent, ticked, forgotten}
use Rattle.rtcp_engine.specs.answers.Arrivals.{after, facts_of_csrcs, facts_of_media, media_fact, rate_of}
use Rattle.rtcp_engine.specs.answers.Changes.{NewIdentifier, Session, change_by, changed_by}
use Rattle.rtcp_engine.specs.bounds.Hearing.{is_member_at, with_acts, LeavesAlone, IsHeardLately, IsHeardAtTicks}
use Rattle.rtcp_engine.specs.answers.Histories.{History, after_act, life_at, session_at, setup_at, with_act}
use Rattle.rtcp_engine.specs.answers.Leaving.{Life, backing_off, finished, present}
use Rattle.rtcp_engine.specs.answers.Lives.{entry_in_life, lived, with_new_ssrc}
use Rattle.rtcp_engine.specs.answers.Outcomes.{Outcome, check_interval}
use Rattle.rtcp_engine.specs.answers.Reporting.{reported_at}
use Rattle.rtcp_engine.specs.answers.Setups.{Setup}
use Rattle.rtcp_engine.specs.answers.Ticks.{after_check, checked, horizons_of}
use Rattle.rtcp_engine.proofs.LifeLemmas.{of_check, of_leave, of_wait}

-- ---- Traces

module _ (ssrc : ℕ) where
  -- a member by a trace
  abbrev IsIn : (capacity : ℕ) → List TraceStep → Type 0
  IsIn capacity trace = is_such is_member (entry_at capacity trace ssrc) ≡ true

  abbrev IsQuiet : Fact → Type 0
  IsQuiet fact = (is_gone fact && subject fact == ssrc) ≡ false

  in_blocks : (capacity : ℕ) (ssrcs : List ℕ) (trace : List TraceStep) → IsIn capacity trace →
      IsIn capacity (with_blocks ssrcs trace)
  in_blocks capacity [] trace is = is
  in_blocks capacity (reported ∷ ssrcs) trace is =
      in_blocks capacity ssrcs (block_made_of reported ∷ trace)
      (member_on capacity ssrc (block_made_of reported) trace is
      (record { quiet = refl; kept = refl; heard = omega arith }))

  pub in_check : (setup : Setup) (t : ℕ) (outcome : Outcome) → IsIn setup.capacity outcome.trace →
      IsHeardLately ssrc setup t outcome → IsIn setup.capacity (checked setup t outcome).trace
  in_check setup t outcome is heard =
      member_on setup.capacity ssrc (check_made (horizons_of t (check_interval setup t outcome))) outcome.trace is
      (record { quiet = refl; kept = refl; heard = omega (arith, heard) })

  quiet_csrcs : (own : ℕ) (csrcs : List ℕ) → All IsQuiet (facts_of_csrcs own csrcs)
  quiet_csrcs own [] = All-nil IsQuiet
  quiet_csrcs own (csrc ∷ csrcs) = by (csrc == own) (quiet_csrcs own csrcs)
    where
      by : (is_own : Bool) → All IsQuiet (facts_of_csrcs own csrcs) →
          All IsQuiet (map Heard (cond (not is_own) (csrc ∷ filter (λ ssrc. not (ssrc == own)) csrcs)
          (filter (λ ssrc. not (ssrc == own)) csrcs)))
      by true rest = rest
      by false rest = All-cons IsQuiet (Heard csrc) (facts_of_csrcs own csrcs) refl rest

  -- ---- Acts of one that takes part

  abbrev HeardNow : Setup → Act → Outcome → Type 0
  HeardNow setup (ticked t first_word second_word) outcome = IsHeardLately ssrc setup t outcome
  HeardNow setup act outcome = Unit {0}

  in_ticked : (setup : Setup) (t first_word second_word : ℕ) (outcome : Outcome) →
      IsIn setup.capacity outcome.trace →
      IsIn setup.capacity (after_check setup t first_word second_word outcome).trace
  in_ticked setup t first_word second_word outcome is =
      of_check (λ (now : Outcome). IsIn setup.capacity now.trace) setup t first_word second_word outcome is is
      (in_blocks setup.capacity (reported_at setup t outcome) outcome.trace is)

  media_quiet : (own rate : ℕ) (head : RtpValue) (counted : Bool) →
      All IsQuiet (facts_of_media own rate head counted)
  media_quiet own rate head true =
      All-cons IsQuiet (media_fact rate head) (facts_of_csrcs own head.csrcs) refl (quiet_csrcs own head.csrcs)
  media_quiet own rate head false = All-cons IsQuiet (media_fact rate head) [] refl (All-nil IsQuiet)

  in_after : (setup : Setup) (act : Act) (outcome : Outcome) → IsIn setup.capacity outcome.trace →
      LeavesAlone ssrc act → HeardNow setup act outcome → IsIn setup.capacity (after setup act outcome).trace
  in_after setup (arrived t peer word (rtcp size (Ok packets))) outcome is alone heard =
      members_through setup.capacity ssrc t (facts_of packets) outcome.trace alone is
  in_after setup (arrived t peer word (rtp (Ok head))) outcome is alone heard =
      let counted = counted_at setup.capacity outcome.trace (media_fact (rate_of setup head) head) in
      members_through setup.capacity ssrc t (facts_of_media setup.ssrc (rate_of setup head) head counted)
      outcome.trace (media_quiet setup.ssrc (rate_of setup head) head counted) is
  in_after setup (ticked t first_word second_word) outcome is alone heard =
      in_ticked setup t first_word second_word (checked setup t outcome) (in_check setup t outcome is heard)
  in_after setup (forgotten t other) outcome is alone heard =
      member_on setup.capacity ssrc (source_forgotten other) outcome.trace is
      (record { quiet = refl; kept = alone; heard = omega arith })
  in_after setup act outcome is alone heard = is

  -- ---- Lives

  -- Where the participant takes part, the source is a member.
  abbrev LivesWith : (capacity : ℕ) → Life → Type 0
  LivesWith capacity (present outcome) = IsIn capacity outcome.trace
  LivesWith capacity life = Unit {0}

  abbrev HeardIn : Setup → Act → Life → Type 0
  HeardIn setup act (present outcome) = HeardNow setup act outcome
  HeardIn setup act life = Unit {0}

  lives_with : (setup : Setup) (act : Act) (life : Life) → LivesWith setup.capacity life → LeavesAlone ssrc act →
      HeardIn setup act life → LivesWith setup.capacity (lived setup act life)
  lives_with setup (arrived t peer word datagram) (present outcome) is alone heard =
      in_after setup (arrived t peer word datagram) outcome is alone tt
  lives_with setup (rtp_sent t timestamp octets) (present outcome) is alone heard = is
  lives_with setup (ticked t first_word second_word) (present outcome) is alone heard =
      in_after setup (ticked t first_word second_word) outcome is alone heard
  lives_with setup (left t word) (present outcome) is alone heard =
      of_leave (LivesWith setup.capacity) setup t word outcome tt tt
  lives_with setup (configured t settings) (present outcome) is alone heard = is
  lives_with setup (forgotten t other) (present outcome) is alone heard =
      in_after setup (forgotten t other) outcome is alone tt
  lives_with setup (ticked t first_word second_word) (backing_off outcome backoff) is alone heard =
      of_wait (LivesWith setup.capacity) setup t first_word outcome backoff tt tt
  lives_with setup (arrived t peer word (rtcp size reading)) (backing_off outcome backoff) is alone heard = tt
  lives_with setup act life is alone heard = tt

  -- ---- Sessions

  abbrev HasMember : Session → Type 0
  HasMember session = LivesWith session.setup.capacity session.life

  -- A change of identifier changes nothing of the others.
  renamed_with : (capacity : ℕ) (setup : Setup) (life : Life) → LivesWith capacity life →
      LivesWith capacity (with_new_ssrc setup life)
  renamed_with capacity setup (present outcome) is = is
  renamed_with capacity setup life is = tt

  changed_with : (session : Session) (change : Option NewIdentifier) → HasMember session →
      HasMember (changed_by change session)
  changed_with session None is = is
  changed_with session (Some new) is = renamed_with session.setup.capacity session.setup session.life is

  arrived_in : (t peer word : ℕ) (datagram : Datagram) (setup : Setup) (life : Life) →
      HeardIn setup (arrived t peer word datagram) life
  arrived_in t peer word datagram setup (present outcome) = tt
  arrived_in t peer word datagram setup life = tt

  act_with : (session : Session) (act : Act) → HasMember session → LeavesAlone ssrc act →
      HeardIn session.setup act session.life → HasMember (after_act session act)
  act_with session (arrived t peer word datagram) is alone heard =
      let now = changed_by (change_by session (arrived t peer word datagram)) session in
      lives_with now.setup (arrived t peer word datagram) now.life
      (changed_with session (change_by session (arrived t peer word datagram)) is) alone
      (arrived_in t peer word datagram now.setup now.life)
  act_with session (rtp_sent t timestamp octets) is alone heard =
      lives_with session.setup (rtp_sent t timestamp octets) session.life is alone heard
  act_with session (ticked t first_word second_word) is alone heard =
      lives_with session.setup (ticked t first_word second_word) session.life is alone heard
  act_with session (left t word) is alone heard = lives_with session.setup (left t word) session.life is alone heard
  act_with session (configured t settings) is alone heard =
      lives_with session.setup (configured t settings) session.life is alone heard
  act_with session (forgotten t other) is alone heard =
      lives_with session.setup (forgotten t other) session.life is alone heard

  -- ---- Histories

  heard_now : (history : History) (act : Act) (since : List Act) → IsHeardAtTicks ssrc (act ∷ since) history →
      let session = session_at (with_acts since history) in HeardIn session.setup act session.life
  heard_now history act since heard = by act heard (life_at (with_acts since history)) refl
    where
      by : (act : Act) → IsHeardAtTicks ssrc (act ∷ since) history → (life : Life) →
          life_at (with_acts since history) ≡ life → HeardIn (setup_at (with_acts since history)) act life
      by (ticked t first_word second_word) heard (present outcome) is =
          heard [] t first_word second_word since outcome refl is
      by (arrived t peer word datagram) heard life is =
          arrived_in t peer word datagram (setup_at (with_acts since history)) life
      by act heard (present outcome) is = tt
      by act heard life is = tt

  pub heard_before : (history : History) (act : Act) (since : List Act) → IsHeardAtTicks ssrc (act ∷ since) history →
      IsHeardAtTicks ssrc since history
  heard_before history act since heard newer t first_word second_word older outcome is =
      heard (act ∷ newer) t first_word second_word older outcome (ap (λ (acts : List Act). act ∷ acts) is)

  acts_with : (history : History) (since : List Act) → HasMember (session_at history) → All (LeavesAlone ssrc) since →
      IsHeardAtTicks ssrc since history → HasMember (session_at (with_acts since history))
  acts_with history [] is alone heard = is
  acts_with history (act ∷ since) is alone heard =
      act_with (session_at (with_acts since history)) act
      (acts_with history since is (All-tail (LeavesAlone ssrc) act since alone)
      (heard_before history act since heard)) (All-head (LeavesAlone ssrc) act since alone)
      (heard_now history act since heard)

  has_member : (setup : Setup) (life : Life) → is_such is_member (entry_in_life setup life ssrc) ≡ true →
      LivesWith setup.capacity life
  has_member setup (present outcome) is = is
  has_member setup life is = tt

  is_one : (setup : Setup) (life : Life) (outcome : Outcome) → life ≡ present outcome →
      LivesWith setup.capacity life → is_such is_member (entry_in_life setup life ssrc) ≡ true
  is_one setup life outcome same is =
      ap (λ (life : Life). is_such is_member (entry_in_life setup life ssrc)) same
      ∙ subst (LivesWith setup.capacity) same is

-- ---- Laws

pub heard_stay : (history : History) (since : List Act) (ssrc : ℕ) (later : Outcome) →
    is_member_at ssrc history ≡ true → All (LeavesAlone ssrc) since → IsHeardAtTicks ssrc since history →
    life_at (with_acts since history) ≡ present later → is_member_at ssrc (with_acts since history) ≡ true
heard_stay history since ssrc later is alone heard same =
    is_one ssrc (setup_at (with_acts since history)) (life_at (with_acts since history)) later same
    (acts_with ssrc history since (has_member ssrc (setup_at history) (life_at history) is) alone heard)

pub checked_stay : (history : History) (ssrc t : ℕ) (outcome : Outcome) → is_member_at ssrc history ≡ true →
    life_at history ≡ present outcome → IsHeardLately ssrc (setup_at history) t outcome →
    is_such is_member (entry_at (setup_at history).capacity (checked (setup_at history) t outcome).trace ssrc) ≡ true
checked_stay history ssrc t outcome is same heard =
    in_check ssrc (setup_at history) t outcome
    (subst (LivesWith ssrc (setup_at history).capacity) same
    (has_member ssrc (setup_at history) (life_at history) is)) heard

module _ (moment peer word size ssrc : ℕ) (packets : List RtcpPacket) (named : Contains (facts_of packets) (Named ssrc))
  where
    abbrev compound : Act
    compound = arrived moment peer word (rtcp size (Ok packets))

    abbrev MayComeTo : (capacity : ℕ) → Life → Type 0
    MayComeTo capacity (present outcome) = MayBring capacity ssrc (facts_of packets) outcome.trace
    MayComeTo capacity life = ⊥

    joins_life : (setup : Setup) (life : Life) → MayComeTo setup.capacity life →
        is_such is_member (entry_in_life setup (lived setup compound life) ssrc) ≡ true
    joins_life setup (present outcome) may =
        named_become_members setup.capacity ssrc moment (facts_of packets) outcome.trace named may
    joins_life setup life may = absurd may

    joins_session : (session : Session) (change : Option NewIdentifier) →
        MayComeTo session.setup.capacity session.life → let now = changed_by change session in
        MayComeTo now.setup.capacity now.life
    joins_session session None may = may
    joins_session session (Some new) may = by session.life may
      where
        by : (life : Life) → MayComeTo session.setup.capacity life →
            MayComeTo session.setup.capacity (with_new_ssrc session.setup life)
        by (present outcome) may = may
        by (backing_off outcome backoff) may = may
        by (finished outcome) may = may

    pub named_join : (history : History) (outcome : Outcome) → life_at history ≡ present outcome →
        MayBring (setup_at history).capacity ssrc (facts_of packets) outcome.trace →
        is_member_at ssrc (with_act history compound) ≡ true
    named_join history outcome same may =
        let session = session_at history in
        let now = changed_by (change_by session compound) session in
        joins_life now.setup now.life (joins_session session (change_by session compound)
        (subst (MayComeTo session.setup.capacity) (sym same) may))

    pub named_remain : (history : History) (outcome later : Outcome) (since : List Act) →
        life_at history ≡ present outcome →
        MayBring (setup_at history).capacity ssrc (facts_of packets) outcome.trace →
        All (LeavesAlone ssrc) since → IsHeardAtTicks ssrc since (with_act history compound) →
        life_at (with_acts since (with_act history compound)) ≡ present later →
        is_member_at ssrc (with_acts since (with_act history compound)) ≡ true
    named_remain history outcome later since same may alone heard is =
        heard_stay (with_act history compound) since ssrc later (named_join history outcome same may) alone heard is
