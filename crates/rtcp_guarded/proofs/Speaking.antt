-- One origin speaks for a source that stays present.
use Rattle.std.proofs.Common.{◌≡◌, ◌++◌, ℕ, List, [], ◌∷◌, Option, Some, None, is_some, true, ap, subst}
use Rattle.rtcp_guard.specs.Guarding.{GuardStep, datagram_came, check_made, source_expected, origin_trusted}
use Rattle.rtcp_guard.specs.Histories.{AreOf, Keeps, claim_of, is_pass, owner_of}
use Rattle.rtcp_guard.specs.declared.settings.Settings.{Settings}
use Rattle.rtcp_guard.specs.declared.verdict.Verdict.{Verdict}
use Rattle.rtcp_guard.specs.declared.verdict.Verdict.TheVariants.{Pass, Stranger, Crowd}
use Rattle.rtcp_engine.specs.declared.refusal.Refusal.{Refusal}
use Rattle.rtcp_engine.specs.answers.Acts.{Act, Datagram, arrived, rtp_sent, ticked, left, configured, forgotten}
use Rattle.rtcp_engine.specs.answers.Histories.{History}
use Rattle.rtcp_engine.specs.answers.Answers.{refusal_after}
use Rattle.rtcp_engine.specs.state.Taken.{IsHistory}
use Rattle.rtcp_guarded.specs.Claimed.{AllFrom, AllNameFew, AreInOrder, IsForward, IsNotMoved, IsPresentThroughout, IsTaken, followed, owner_at}
use Rattle.rtcp_guarded.specs.Guarded.{Course, GuardedAct, GuardedHistory, told, expected, trusted, course_after, course_at, course_unless, course_with, goodbye_for, names_for, origin_of, passed_at, passed_on, steps_with, verdict_in}
use Rattle.rtcp_guarded.proofs.Joining.{before, claimed, few_of}

-- ---- Earlier histories

passed_before : (verdict : Verdict) (history : History) (act : Act) → IsHistory (passed_on verdict history act) →
    IsHistory history
passed_before Pass history act is = before history act is
passed_before Stranger history act is = is
passed_before Crowd history act is = is

unless_before : (refusal : Option Refusal) (settings : Settings) (course : Course) (act : Act) →
    IsHistory (course_unless refusal settings course act).passed → IsHistory course.passed
unless_before None settings course act is = passed_before (verdict_in settings course act) course.passed act is
unless_before (Some refusal) settings course act is = is

history_before : (settings : Settings) (act : GuardedAct) (course : Course) →
    IsHistory (course_after settings act course).passed → IsHistory course.passed
history_before settings (told act) course is = unless_before (refusal_after course.passed act) settings course act is
history_before settings (expected ssrc origin moment) course is = is
history_before settings (trusted origin) course is = is

steps_before : (course : Course) (act : Act) → AreInOrder (steps_with course act) → AreInOrder course.steps
steps_before course (arrived moment peer word datagram) order = order.1
steps_before course (rtp_sent moment timestamp octets) order = order
steps_before course (ticked moment first second) order = order
steps_before course (left moment word) order = order
steps_before course (configured moment given) order = order
steps_before course (forgotten moment ssrc) order = order

unless_ordered : (refusal : Option Refusal) (settings : Settings) (course : Course) (act : Act) →
    AreInOrder (course_unless refusal settings course act).steps → AreInOrder course.steps
unless_ordered None settings course act order = steps_before course act order
unless_ordered (Some refusal) settings course act order = order

order_before : (settings : Settings) (act : GuardedAct) (course : Course) →
    AreInOrder (course_after settings act course).steps → AreInOrder course.steps
order_before settings (told act) course order =
    unless_ordered (refusal_after course.passed act) settings course act order
order_before settings (expected ssrc origin moment) course order = order.1
order_before settings (trusted origin) course order = order

few_before : (act : GuardedAct) (earlier : List GuardedAct) →
    AllNameFew (act ∷ earlier) →
    AllNameFew earlier
few_before (told act) earlier few = (few_of act earlier few).1
few_before (expected ssrc origin moment) earlier few = few
few_before (trusted origin) earlier few = few

forward_before : (older : GuardedHistory) (act : GuardedAct) (newer : List GuardedAct) →
    IsForward (followed older (act ∷ newer)) → IsForward (followed older newer)
forward_before older act newer forward =
    let history = followed older newer in
    record {
      passed = history_before history.settings act (course_at history) forward.passed;
      few = few_before act history.acts forward.few;
      order = order_before history.settings act (course_at history) forward.order;
    }

-- ---- One step, by the laws of the guard

module _
    (all_of_one : (settings : Settings) (ssrc owner : ℕ) (newer older : List GuardStep) →
    Keeps settings ssrc owner newer older → AreOf settings ssrc owner newer older)
    (owner_stays : (settings : Settings) (ssrc owner : ℕ) (newer older : List GuardStep) →
    Keeps settings ssrc owner newer older →
    owner_of settings ssrc (newer ++ older) ≡ Some owner) where
  abbrev Owns : Settings → (ssrc owner : ℕ) → List GuardStep → Type 0
  Owns settings ssrc owner steps = owner_of settings ssrc steps ≡ Some owner

  abbrev IsClaimed : Settings → (ssrc : ℕ) → List GuardStep → Type 0
  IsClaimed settings ssrc steps = is_some (claim_of settings ssrc steps) ≡ true

  with_act_owns : (settings : Settings) (ssrc owner : ℕ) (course : Course) (act : Act) →
      Owns settings ssrc owner course.steps → IsClaimed settings ssrc (steps_with course act) →
      Owns settings ssrc owner (steps_with course act)
  with_act_owns settings ssrc owner course (arrived moment peer word datagram) owns is =
      owner_stays settings ssrc owner (datagram_came (origin_of peer) moment
      (names_for course.passed (arrived moment peer word datagram) datagram)
      (goodbye_for course.passed (arrived moment peer word datagram) datagram) ∷ []) course.steps
      (record { owns = owns; claimed = (is, tt); unmoved = tt })
  with_act_owns settings ssrc owner course (ticked moment first second) owns is =
      owner_stays settings ssrc owner (check_made moment _ ∷ []) course.steps
      (record { owns = owns; claimed = (is, tt); unmoved = tt })
  with_act_owns settings ssrc owner course (rtp_sent moment timestamp octets) owns is = owns
  with_act_owns settings ssrc owner course (left moment word) owns is = owns
  with_act_owns settings ssrc owner course (configured moment given) owns is = owns
  with_act_owns settings ssrc owner course (forgotten moment other) owns is = owns

  unless_owns : (refusal : Option Refusal) (settings : Settings) (ssrc owner : ℕ) (course : Course) (act : Act) →
      Owns settings ssrc owner course.steps →
      IsClaimed settings ssrc (course_unless refusal settings course act).steps →
      Owns settings ssrc owner (course_unless refusal settings course act).steps
  unless_owns None settings ssrc owner course act owns is = with_act_owns settings ssrc owner course act owns is
  unless_owns (Some refusal) settings ssrc owner course act owns is = owns

  after_owns : (settings : Settings) (ssrc owner : ℕ) (act : GuardedAct) (course : Course) →
      IsNotMoved ssrc (act ∷ []) →
      Owns settings ssrc owner course.steps → IsClaimed settings ssrc (course_after settings act course).steps →
      Owns settings ssrc owner (course_after settings act course).steps
  after_owns settings ssrc owner (told act) course unmoved owns is =
      unless_owns (refusal_after course.passed act) settings ssrc owner course act owns is
  after_owns settings ssrc owner (expected other origin moment) course unmoved owns is =
      owner_stays settings ssrc owner (source_expected other origin moment ∷ []) course.steps
      (record { owns = owns; claimed = (is, tt); unmoved = (unmoved.0, tt) })
  after_owns settings ssrc owner (trusted origin) course unmoved owns is =
      owner_stays settings ssrc owner (origin_trusted origin ∷ []) course.steps
      (record { owns = owns; claimed = (is, tt); unmoved = tt })

  unmoved_first : (ssrc : ℕ) (act : GuardedAct) (newer : List GuardedAct) → IsNotMoved ssrc (act ∷ newer) →
      IsNotMoved ssrc (act ∷ []) × IsNotMoved ssrc newer
  unmoved_first ssrc (told act) newer unmoved = (tt, unmoved)
  unmoved_first ssrc (expected other origin moment) newer unmoved = ((unmoved.0, tt), unmoved.1)
  unmoved_first ssrc (trusted origin) newer unmoved = (tt, unmoved)

  pub owner_of_present : (older : GuardedHistory) (newer : List GuardedAct) (ssrc owner : ℕ) →
      IsForward (followed older newer) → IsPresentThroughout ssrc newer older → IsNotMoved ssrc newer →
      owner_at ssrc older ≡ Some owner → owner_at ssrc (followed older newer) ≡ Some owner
  owner_of_present older [] ssrc owner forward present unmoved owns = owns
  owner_of_present older (act ∷ newer) ssrc owner forward present unmoved owns =
      let history = followed older newer in
      let first = unmoved_first ssrc act newer unmoved in
      after_owns history.settings ssrc owner act (course_at history) first.0
      (owner_of_present older newer ssrc owner (forward_before older act newer forward) present.1 first.1 owns)
      (claimed (followed older (act ∷ newer)) ssrc forward present.0)

  -- a datagram that is taken comes from the owner
  from_owner : (before : GuardedHistory) (moment peer word : ℕ)
      (datagram : Datagram) (ssrc owner : ℕ) →
      let act = arrived moment peer word datagram in
      owner_at ssrc before ≡ Some owner →
      IsClaimed before.settings ssrc (course_after before.settings (told act) (course_at before)).steps →
      IsTaken ssrc before act (names_for (passed_at before) act datagram) → origin_of peer ≡ owner
  from_owner before moment peer word datagram ssrc owner owns is taken =
      let act = arrived moment peer word datagram in
      let course = course_at before in
      let names = names_for course.passed act datagram in
      let goes : course_unless (refusal_after course.passed act) before.settings course act
      ≡ course_with before.settings course act =
      ap (λ (r : Option Refusal). course_unless r before.settings course act) taken.unrefused in
      (all_of_one before.settings ssrc owner (datagram_came (origin_of peer) moment names
      (goodbye_for course.passed act datagram) ∷ []) course.steps (record {
        owns = owns;
        claimed = (subst (λ (c : Course). IsClaimed before.settings ssrc c.steps) goes is, tt);
        unmoved = tt;
      })).0 taken.names_it (ap is_pass taken.passes)

  pub all_from_owner : (older : GuardedHistory) (newer : List GuardedAct) (ssrc owner : ℕ) →
      IsForward (followed older newer) → IsPresentThroughout ssrc newer older → IsNotMoved ssrc newer →
      owner_at ssrc older ≡ Some owner → AllFrom ssrc owner newer older
  all_from_owner older [] ssrc owner forward present unmoved owns = tt
  all_from_owner older (act ∷ newer) ssrc owner forward present unmoved owns =
      let earlier = forward_before older act newer forward in
      let first = unmoved_first ssrc act newer unmoved in
      first_from act (all_from_owner older newer ssrc owner earlier present.1 first.1 owns)
      (claimed (followed older (act ∷ newer)) ssrc forward present.0)
    where
      first_from : (act : GuardedAct) → AllFrom ssrc owner newer older →
          IsClaimed older.settings ssrc (course_at (followed older (act ∷ newer))).steps →
          AllFrom ssrc owner (act ∷ newer) older
      first_from (told (arrived moment peer word datagram)) rest is = (
        from_owner (followed older newer) moment peer word datagram ssrc owner
            (owner_of_present older newer ssrc owner (forward_before older act newer forward) present.1
            (unmoved_first ssrc act newer unmoved).1 owns) is,
        rest,
      )
      first_from (told (rtp_sent moment timestamp octets)) rest is = rest
      first_from (told (ticked moment first second)) rest is = rest
      first_from (told (left moment word)) rest is = rest
      first_from (told (configured moment given)) rest is = rest
      first_from (told (forgotten moment other)) rest is = rest
      first_from (expected other origin moment) rest is = rest
      first_from (trusted origin) rest is = rest
