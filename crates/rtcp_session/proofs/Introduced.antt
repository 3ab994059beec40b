-- A source whose compound was taken is a member by what decides on a report, if it stays.
use Rattle.std.proofs.Common.{◌≡◌, ℕ, true, List, [], ◌∷◌, All, Contains, Ok, refl}
use Rattle.std.proofs.lemmas.List.Elements.{All-nil}
use Rattle.rtcp_wire.specs.declared.fact.Fact.TheVariants.{Named}
use Rattle.rtcp_wire.specs.Values.{RtcpPacket}
use Rattle.rtcp_wire.specs.Facts.{facts_of}
use Rattle.rtcp_members.specs.Lasting.{MayBring}
use Rattle.rtcp_members.specs.Entries.{entry_at, is_member, is_such}
use Rattle.rtcp_engine.specs.declared.changes.IdentifierChange.{IdentifierChange}
use Rattle.rtcp_engine.specs.answers.Setups.{Setup}
use Rattle.rtcp_engine.specs.answers.Acts.{Act, arrived, rtcp, ticked}
use Rattle.rtcp_engine.specs.answers.Outcomes.{Outcome}
use Rattle.rtcp_engine.specs.answers.Ticks.{checked}
use Rattle.rtcp_engine.specs.answers.Leaving.{Life, present, backing_off, finished}
use Rattle.rtcp_engine.specs.answers.Histories.{History, life_at, session_at, setup_at, with_act}
use Rattle.rtcp_engine.specs.bounds.Hearing.{IsHeardAtTicks, LeavesAlone, with_acts}
use Rattle.rtcp_engine.proofs.Hearing.{checked_stay, heard_before, named_remain}
use Rattle.rtcp_session.specs.Windows.{Decided, decided_by}
use Rattle.rtcp_session.proofs.Deciding.{all_such}

-- What holds after the check of a tick holds of the report that the tick decides on.
decided_such : (Q : Setup → Outcome → Type 0) (setup : Setup) (changes : List IdentifierChange)
    (t first_word second_word : ℕ) (life : Life) →
    ((outcome : Outcome) → life ≡ present outcome → Q setup (checked setup t outcome)) →
    All (λ decided. Q decided.setup decided.outcome)
    (decided_by (record { setup = setup; changes = changes; life = life }) (ticked t first_word second_word))
decided_such Q setup changes t first_word second_word (present outcome) each =
    all_such Q setup (checked setup t outcome) (each outcome refl) _
decided_such Q setup changes t first_word second_word (backing_off outcome backoff) each =
    All-nil (λ (decided : Decided). Q decided.setup decided.outcome)
decided_such Q setup changes t first_word second_word (finished outcome) each =
    All-nil (λ (decided : Decided). Q decided.setup decided.outcome)

pub named_are_heard : (before : History) (moment peer word size ssrc t first_word second_word : ℕ)
    (packets : List RtcpPacket) (outcome : Outcome) (since : List Act) → life_at before ≡ present outcome →
    Contains (facts_of packets) (Named ssrc) →
    MayBring (setup_at before).capacity ssrc (facts_of packets) outcome.trace →
    let named = with_act before (arrived moment peer word (rtcp size (Ok packets))) in
    All (LeavesAlone ssrc) since → IsHeardAtTicks ssrc (ticked t first_word second_word ∷ since) named →
    All (λ decided. is_such is_member (entry_at decided.setup.capacity decided.outcome.trace ssrc) ≡ true)
    (decided_by (session_at (with_acts since named)) (ticked t first_word second_word))
named_are_heard before moment peer word size ssrc t first_word second_word packets outcome since is_present named may
    alone heard =
    let here = with_acts since (with_act before (arrived moment peer word (rtcp size (Ok packets)))) in
    let session = session_at here in
    decided_such (λ setup outcome. is_such is_member (entry_at setup.capacity outcome.trace ssrc) ≡ true)
    session.setup session.changes t first_word second_word session.life
    (λ now is.
    checked_stay here ssrc t now
    (named_remain moment peer word size ssrc packets named before outcome now since is_present may alone
    (heard_before ssrc (with_act before (arrived moment peer word (rtcp size (Ok packets))))
    (ticked t first_word second_word) since heard) is) is (heard [] t first_word second_word since now refl is))
