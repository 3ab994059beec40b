-- What a participant tells of a source came by the latest act that was taken.
use Rattle.std.proofs.Common.{◌≡◌, ◌≤◌, ◌^◌, ℕ, nat_lt, Bool, false, if◌then◌else◌, List, [], ◌∷◌, All}
use Rattle.std.proofs.Common.{Option, Some, None, Ok, refl, sym, subst, arith}
use Rattle.std.proofs.lemmas.Bool.{ltb-false}
use Rattle.std.proofs.lemmas.List.Elements.{All-nil}
use Rattle.rtcp_wire.specs.Facts.{facts_of}
use Rattle.rtcp_members.specs.Entries.{counted_at}
use Rattle.rtcp_members.specs.Past.{CameBy, IsKnownBy}
use Rattle.rtcp_members.specs.Listings.{StateValue}
use Rattle.rtcp_members.specs.Traces.{TraceStep, block_made_of, with_blocks}
use Rattle.rtcp_members.proofs.LawLemmas as tables
use Rattle.rtcp_engine.specs.declared.refusal.Refusal.{Refusal}
use Rattle.rtcp_engine.specs.declared.refusal.Refusal.TheVariants.{Backwards, TooFar}
use Rattle.rtcp_engine.specs.answers.Acts.{Act, arrived, configured, left, moment_of, rtcp, rtp, rtp_sent, ticked, forgotten}
use Rattle.rtcp_engine.specs.answers.Arrivals.{after, facts_of_media, media_fact, rate_of}
use Rattle.rtcp_engine.specs.answers.Changes.{NewIdentifier, Session, change_by, changed_by}
use Rattle.rtcp_engine.specs.answers.Histories.{History, last_moment, life_at, session_of, setup_at}
use Rattle.rtcp_engine.specs.answers.Leaving.{Life, backing_off}
use Rattle.rtcp_engine.specs.answers.Leaving.{present}
use Rattle.rtcp_engine.specs.answers.Lives.{ListsInLife, WalksInLife, lived, with_new_ssrc}
use Rattle.rtcp_engine.specs.answers.Outcomes.{Outcome}
use Rattle.rtcp_engine.specs.answers.Answers.{refusal_after}
use Rattle.rtcp_engine.specs.answers.Reporting.{reported_at}
use Rattle.rtcp_engine.specs.answers.Setups.{Setup}
use Rattle.rtcp_engine.specs.state.Taken.{AllTaken, IsHistory}
use Rattle.rtcp_engine.specs.answers.Ticks.{after_check, checked}
use Rattle.rtcp_engine.proofs.AnswerLemmas.{unrefused}
use Rattle.rtcp_engine.proofs.LifeLemmas.{of_check, of_leave, of_wait}
use Rattle.rtcp_engine.proofs.Sending.{in_time}

-- ---- One that takes part

blocks_came : (latest : ℕ) (ssrcs : List ℕ) (trace : List TraceStep) → CameBy latest trace →
    CameBy latest (with_blocks ssrcs trace)
blocks_came latest [] trace came = came
blocks_came latest (ssrc ∷ ssrcs) trace came =
    blocks_came latest ssrcs (block_made_of ssrc ∷ trace) (omega arith, came)

report_came : (setup : Setup) (t first_word second_word : ℕ) (outcome : Outcome) → CameBy t outcome.trace →
    CameBy t (after_check setup t first_word second_word outcome).trace
report_came setup t first_word second_word outcome came =
    of_check (λ (now : Outcome). CameBy t now.trace) setup t first_word second_word outcome came came
    (blocks_came t (reported_at setup t outcome) outcome.trace came)

came_after : (setup : Setup) (act : Act) (outcome : Outcome) → CameBy (moment_of act) outcome.trace →
    CameBy (moment_of act) (after setup act outcome).trace
came_after setup (arrived t peer word (rtcp size (Ok packets))) outcome came =
    tables.listings_lie_in_the_past-facts t t (facts_of packets) outcome.trace (omega arith) came
came_after setup (arrived t peer word (rtp (Ok head))) outcome came =
    let counted = counted_at setup.capacity outcome.trace (media_fact (rate_of setup head) head) in
    tables.listings_lie_in_the_past-facts t t (facts_of_media setup.ssrc (rate_of setup head) head counted)
    outcome.trace
    (omega arith) came
came_after setup (ticked t first_word second_word) outcome came =
    report_came setup t first_word second_word (checked setup t outcome) (omega arith, came)
came_after setup (forgotten t ssrc) outcome came = (omega arith, came)
came_after setup act outcome came = came

-- ---- Lives

-- Where it takes part, what happened to its members came by this moment: from a leave on nothing is told of them.
abbrev LivesBy : (latest : ℕ) → Life → Type 0
LivesBy latest (present outcome) = CameBy latest outcome.trace
LivesBy latest life = Unit {0}

-- by an act no earlier than this moment, whose own moment it is then
lives_by : (setup : Setup) (latest : ℕ) (act : Act) (life : Life) → latest ≤ moment_of act → LivesBy latest life →
    LivesBy (moment_of act) (lived setup act life)
lives_by setup latest (arrived t peer word datagram) (present outcome) order came =
    let now = tables.listings_lie_in_the_past-later latest t outcome.trace order came in
    came_after setup (arrived t peer word datagram) outcome now
lives_by setup latest (rtp_sent t timestamp octets) (present outcome) order came =
    tables.listings_lie_in_the_past-later latest t outcome.trace order came
lives_by setup latest (ticked t first_word second_word) (present outcome) order came =
    let now = tables.listings_lie_in_the_past-later latest t outcome.trace order came in
    came_after setup (ticked t first_word second_word) outcome now
lives_by setup latest (left t word) (present outcome) order came =
    of_leave (LivesBy t) setup t word outcome tt tt
lives_by setup latest (configured t settings) (present outcome) order came =
    tables.listings_lie_in_the_past-later latest t outcome.trace order came
lives_by setup latest (forgotten t ssrc) (present outcome) order came =
    (omega arith, tables.listings_lie_in_the_past-later latest t outcome.trace order came)
lives_by setup latest (ticked t first_word second_word) (backing_off outcome backoff) order came =
    of_wait (LivesBy t) setup t first_word outcome backoff tt tt
lives_by setup latest (arrived t peer word (rtcp size reading)) (backing_off outcome backoff) order came = tt
lives_by setup latest act life order came = tt

-- A change of identifier changes nothing of the others.
renamed_by : (latest : ℕ) (setup : Setup) (life : Life) → LivesBy latest life →
    LivesBy latest (with_new_ssrc setup life)
renamed_by latest setup (present outcome) came = came
renamed_by latest setup life came = tt

changed_came : (latest : ℕ) (session : Session) (change : Option NewIdentifier) → LivesBy latest session.life →
    LivesBy latest (changed_by change session).life
changed_came latest session None came = came
changed_came latest session (Some new) came = renamed_by latest session.setup session.life came

-- ---- Sessions

session_lives_by : (setup : Setup) (word : ℕ) (acts : List Act) → AllTaken setup word acts →
    LivesBy (last_moment acts) (session_of setup word acts).life
session_lives_by setup word [] taken = tt
session_lives_by setup word (act ∷ earlier) taken =
    let before = session_of setup word earlier in
    let change = change_by before act in
    let now = changed_by change before in
    let order = in_time (record { setup = setup; word = word; acts = earlier }) act taken.0 in
    lives_by now.setup (last_moment earlier) act now.life order
    (changed_came (last_moment earlier) before change (session_lives_by setup word earlier taken.2))

-- ---- The range of moments

not_too_far : (back far : Bool) (others : Option Refusal) →
    (if back then Some Backwards else (if far then Some TooFar else others)) ≡ None → far ≡ false
not_too_far false false others none = refl
not_too_far back far others none = absurd cc

within_range : (history : History) (act : Act) → refusal_after history act ≡ None → moment_of act ≤ 2 ^ 50
within_range history act none =
    let back = nat_lt (moment_of act) (last_moment history.acts) in
    let far = nat_lt (2 ^ 50) (moment_of act) in
    ltb-false (2 ^ 50) (moment_of act) (not_too_far back far _ (unrefused history act none).0)

pub latest_in_range : (setup : Setup) (word : ℕ) (acts : List Act) → AllTaken setup word acts →
    last_moment acts ≤ 2 ^ 50
latest_in_range setup word [] taken = omega arith
latest_in_range setup word (act ∷ earlier) taken =
    within_range (record { setup = setup; word = word; acts = earlier }) act taken.0

-- ---- What is told

listed_in : (latest : ℕ) (setup : Setup) (low : Option ℕ) (life : Life) (state : StateValue) → LivesBy latest life →
    ListsInLife setup low life (Some state) → IsKnownBy latest state
listed_in latest setup low (present outcome) state came =
    tables.listings_lie_in_the_past-listed latest setup.capacity outcome.trace came low state
listed_in latest setup low life state came = λ none. absurd cc

none_by : (latest : ℕ) (states : List StateValue) → states ≡ [] → All (IsKnownBy latest) states
none_by latest states none = subst (All (IsKnownBy latest)) (sym none) (All-nil (IsKnownBy latest))

walk_in : (latest : ℕ) (setup : Setup) (life : Life) (states : List StateValue) → LivesBy latest life →
    WalksInLife setup life states → All (IsKnownBy latest) states
walk_in latest setup (present outcome) states came =
    tables.listings_lie_in_the_past-walk latest setup.capacity outcome.trace came None states
walk_in latest setup life states came = none_by latest states

module _ (history : History) (is : IsHistory history) where
  lives : LivesBy (last_moment history.acts) (life_at history)
  lives = session_lives_by history.setup history.word history.acts is.taken

  pub listed_after : (low : Option ℕ) (state : StateValue) →
      ListsInLife (setup_at history) low (life_at history) (Some state) →
      IsKnownBy (last_moment history.acts) state
  listed_after low state = listed_in (last_moment history.acts) (setup_at history) low (life_at history) state lives

  pub walk_after : (states : List StateValue) → WalksInLife (setup_at history) (life_at history) states →
      All (IsKnownBy (last_moment history.acts)) states
  walk_after states = walk_in (last_moment history.acts) (setup_at history) (life_at history) states lives
