-- How answers are told to a host in C: a status, a step, and the octets of a compound.
use Rattle.std.specs.Prelude.{ℕ, ◌≡◌, ◌↔◌, ◌^◌, ◌+◌, ◌-◌, ◌++◌, List, [], length, drop, Bool, true, false, Option, Some, None, Ok, Err, is_some}
use Rattle.rtcp_engine.specs.declared.refusal.Refusal.{Refusal}
use Rattle.rtcp_engine.specs.declared.refusal.Refusal.TheVariants.{Left, Backwards, TooFar, TooMany, Wire, Rtp, OwnSsrc, Settings}
use Rattle.rtcp_engine.specs.declared.step.OutKind.{OutKind}
use Rattle.rtcp_engine.specs.declared.step.OutKind.TheVariants.{Report, Bye}
use Rattle.rtcp_engine.specs.declared.step.Standing.{Standing}
use Rattle.rtcp_engine.specs.declared.step.Written.{Written}
use Rattle.rtcp_engine.specs.answers.Histories.{History, life_at, setup_at}
use Rattle.rtcp_engine.specs.answers.Leaving.{Life}
use Rattle.rtcp_engine.specs.answers.Lives.{next_in_life, standing_in_life}
use Rattle.rtcp_engine.specs.answers.Acts.{OutValue, AnswerValue}
use Rattle.jalwedd_host.specs.declared.step.HostStep.{HostStep}
use Rattle.jalwedd_host.specs.Configs.{status_of_error}

-- ---- Statuses

-- E1 to E8, where E8 is told by the reason: C4 to C6
abbrev pub status_of_refusal : Refusal → ℕ
status_of_refusal Left = 1
status_of_refusal Backwards = 2
status_of_refusal TooFar = 3
status_of_refusal TooMany = 4
status_of_refusal (Wire fault) = 5
status_of_refusal (Rtp fault) = 6
status_of_refusal OwnSsrc = 7
status_of_refusal (Settings error) = status_of_error error

abbrev pub status_of : AnswerValue → ℕ
status_of (Ok step) = 0
status_of (Err refusal) = status_of_refusal refusal

-- Why a call before the start is refused: the participant has left (E1), or it comes before moment 0 (E2).
abbrev pub early_refusal : Life → Refusal
early_refusal life = elim (next_in_life life) [ None ↦ Left | Some next ↦ Backwards ]

-- ---- Compounds

abbrev pub kind_of : OutKind → ℕ
kind_of Report = 1
kind_of Bye = 2

abbrev pub kind_shown : Option OutValue → ℕ
kind_shown None = 0
kind_shown (Some out) = kind_of out.kind

abbrev pub number_written : Option Written → ℕ
number_written None = 0
number_written (Some out) = kind_of out.kind

abbrev pub octets_of : Option OutValue → List ℕ
octets_of None = []
octets_of (Some out) = out.octets

abbrev pub one_if : Bool → ℕ
one_if true = 1
one_if false = 0

-- What an answer hands out: its kind, its size, whether it changes the identifier and whether the role of
-- another source, and its octets, which stand at the start of the host's; the others of these are as they were.
abbrev pub IsHandedOut : (kind size changed others_changed : ℕ) → (before after : List ℕ) → AnswerValue → Type 0
IsHandedOut kind size changed others_changed before after (Ok answer) =
    (kind ≡ kind_shown answer.out)
    × (size ≡ length (octets_of answer.out))
    × (changed ≡ one_if (is_some answer.changed))
    × (others_changed ≡ one_if answer.others_changed)
    × (after ≡ octets_of answer.out ++ drop (length (octets_of answer.out)) before)
IsHandedOut kind size changed others_changed before after (Err refusal) =
    (kind ≡ 0) × (size ≡ 0) × (changed ≡ 0) × (others_changed ≡ 0) × (after ≡ before)

-- A step says it.
abbrev pub HandsOut : HostStep → (before after : List ℕ) → AnswerValue → Type 0
HandsOut step before after answer =
    IsHandedOut step.kind step.size step.changed step.others_changed before after answer

-- A step says that nothing is handed out, and that nothing changed.
abbrev pub HandsNothing : HostStep → Type 0
HandsNothing step = (step.kind ≡ 0) × (step.size ≡ 0) × (step.changed ≡ 0) × (step.others_changed ≡ 0)

-- ---- The participant

-- A moment on the host's clock, which shows `start` at moment 0. 2^64 - 1 stands for no moment.
abbrev pub moment_shown : (start : ℕ) → Option ℕ → ℕ
moment_shown start None = 2 ^ 64 - 1
moment_shown start (Some moment) = start + moment

-- A step says who is there, and when to ask again: 2^64 - 1 exactly where the participant has left, and there is no
-- moment to ask.
pub record ShowsStanding (start : ℕ) (step : HostStep) (standing : Standing) : Type 0 where
  pub members : step.members ≡ standing.members
  pub senders : step.senders ≡ standing.senders
  pub next : step.next ≡ moment_shown start standing.next
  pub never : (step.next ≡ 2 ^ 64 - 1) ↔ (standing.next ≡ None)
  pub ssrc : step.ssrc ≡ standing.ssrc
  pub entries : step.entries ≡ standing.entries

-- The same after a history.
abbrev pub Shows : (start : ℕ) → HostStep → History → Type 0
Shows start step history = ShowsStanding start step (standing_in_life (setup_at history) (life_at history))

-- A step of no participant.
abbrev pub IsBlank : HostStep → Type 0
IsBlank step = (step.next ≡ 2 ^ 64 - 1) × (step.members ≡ 0) × (step.senders ≡ 0) × (step.ssrc ≡ 0) × (step.changed ≡ 0)
    × (step.kind ≡ 0) × (step.size ≡ 0) × (step.entries ≡ 0) × (step.others_changed ≡ 0)
