-- What holds of every participant is kept by each move.
use Rattle.std.proofs.Common.{◌≡◌, ℕ, ◌+◌, ◌-◌, ◌^◌, ◌<◌, ◌≤◌, ◌==◌, Bool, true, false, not, List, [], ◌∷◌, map, filter, All, Option, if◌then◌else◌, arith, ◌∙◌, refl, sym, subst}
use Rattle.std.specs.FinMap as finite
use Rattle.std.proofs.lemmas.List.Elements.{All-nil, All-cons}
use Rattle.rtcp_wire.specs.declared.fact.Fact.{Fact}
use Rattle.rtcp_wire.specs.declared.fact.Fact.TheVariants.{Heard}
use Rattle.rtcp_wire.specs.Facts.{is_media}
use Rattle.rtcp_wire.specs.Values.{RtpValue}
use Rattle.rtcp_members.specs.Traces.{Horizons}
use Rattle.rtcp_members.specs.Tables.{TableValue, KeepsBounds, HasFew, counted, after_fact, after_facts, after_check, after_forgetting}
use Rattle.rtcp_members.specs.Pending.{EntryRow, after_blocks}
use Rattle.rtcp_members.proofs.LawLemmas as tables
use Rattle.rtcp_report.proofs.LawLemmas.{tables_follow_reports-packets}
use Rattle.rtcp_timer.specs.Schedules.{Timing}
use Rattle.rtcp_engine.specs.answers.OwnStreams.{OwnValue}
use Rattle.rtcp_engine.specs.answers.Arrivals.{media_fact, facts_of_csrcs, facts_of_media, rate_of}
use Rattle.rtcp_engine.specs.state.States.{State, state_with, IsSound}

-- a table that another became, with its bounds and room, and few packets of each source
pub record IsKept (old new : TableValue) (packets : ℕ) : Type 0 where
  pub bounds : KeepsBounds old new
  pub room : finite.len new.entries ≤ old.capacity
  pub few : HasFew packets new

-- a last transmission, a number of reports, a moment and a number of calls that go together
pub record IsInStep (transmission reports latest calls : ℕ) : Type 0 where
  pub is_past : transmission ≤ latest
  pub in_range : latest ≤ 2 ^ 50
  pub fewer : reports ≤ calls
  pub few : calls < 2 ^ 40

pub kept : {s : State} → IsSound s → (table : TableValue) (timing : Timing) (average : ℕ) (own : OwnValue)
    (cursor : Option ℕ) (reports latest calls : ℕ) →
    IsKept s.table table calls → IsInStep timing.last reports latest calls →
    IsSound (state_with s.setup table timing average own cursor s.pace reports latest calls)
kept {s} sound table timing average own cursor reports latest calls is_kept in_step = record {
  usable = sound.usable;
  capacity = is_kept.bounds.capacity ∙ sound.capacity;
  room = omega (arith, is_kept.room, sound.capacity);
  few = is_kept.few;
  pace = sound.pace;
  reports = in_step.fewer;
  calls = in_step.few;
  timing = in_step.is_past;
  latest = in_step.in_range;
}

-- ---- Tables

few_entries : {s : State} → IsSound s → finite.len s.table.entries ≤ s.table.capacity
few_entries {s} sound = omega (arith, sound.room, sound.capacity)

pub facts_kept : {s : State} → IsSound s → (facts : List Fact) (t : ℕ) → All (λ fact. is_media fact ≡ false) facts →
    IsKept s.table (after_facts facts t s.table) s.calls
facts_kept {s} sound facts t none = record {
  bounds = tables.bounds_are_kept-facts s.table facts t;
  room = tables.capacity_is_kept-facts s.table facts t (few_entries sound);
  few = tables.packets_are_few-facts s.calls s.table facts t none sound.few;
}

pub check_kept : {s : State} → IsSound s → (horizons : Horizons) → IsKept s.table (after_check horizons s.table) s.calls
check_kept {s} sound horizons = record {
  bounds = tables.bounds_are_kept-check s.table horizons;
  room = tables.capacity_is_kept-check s.table horizons (few_entries sound);
  few = tables.packets_are_few-check s.calls s.table horizons sound.few;
}

pub forgotten_kept : {s : State} → IsSound s → (ssrc : ℕ) → IsKept s.table (after_forgetting ssrc s.table) s.calls
forgotten_kept {s} sound ssrc = record {
  bounds = tables.bounds_are_kept-forgotten s.table ssrc;
  room = tables.capacity_is_kept-forgotten s.table ssrc (few_entries sound);
  few = tables.packets_are_few-forgotten s.calls s.table ssrc sound.few;
}

pub blocks_kept : {s : State} → IsSound s → (rows : List EntryRow) → IsKept s.table (after_blocks rows s.table) s.calls
blocks_kept {s} sound rows = record {
  bounds = tables.bounds_are_kept-blocks s.table rows;
  room = tables.capacity_is_kept-blocks s.table rows (few_entries sound);
  few = tables_follow_reports-packets s.calls rows s.table sound.few;
}

one_heard : (other : Bool) (csrc : ℕ) (facts : List Fact) → All (λ fact. is_media fact ≡ false) facts →
    All (λ fact. is_media fact ≡ false) (if other then Heard csrc ∷ facts else facts)
one_heard true csrc facts none = All-cons (λ fact. is_media fact ≡ false) (Heard csrc) facts refl none
one_heard false csrc facts none = none

map_of_test : (other : Bool) (csrc : ℕ) (csrcs : List ℕ) → map Heard (if other then csrc ∷ csrcs else csrcs)
    ≡ (if other then Heard csrc ∷ map Heard csrcs else map Heard csrcs)
map_of_test true csrc csrcs = refl
map_of_test false csrc csrcs = refl

heard_facts : (own : ℕ) (csrcs : List ℕ) → All (λ fact. is_media fact ≡ false) (facts_of_csrcs own csrcs)
heard_facts own [] = All-nil (λ fact. is_media fact ≡ false)
heard_facts own (csrc ∷ csrcs) =
    let other = not (csrc == own) in
    subst (λ (facts : List Fact). All (λ fact. is_media fact ≡ false) facts)
    (sym (map_of_test other csrc (filter (λ ssrc. not (ssrc == own)) csrcs)))
    (one_heard other csrc (facts_of_csrcs own csrcs) (heard_facts own csrcs))

few_media : (own rate : ℕ) (head : RtpValue) (is_counted : Bool) (table : TableValue) (t packets : ℕ) →
    HasFew packets table →
    HasFew (packets + 1) (after_facts
    (media_fact rate head ∷ (if is_counted then facts_of_csrcs own head.csrcs else [])) t
    table)
few_media own rate head true table t packets few =
    tables.packets_are_few-facts (packets + 1) (after_fact (media_fact rate head) t table)
    (facts_of_csrcs own head.csrcs) t
    (heard_facts own head.csrcs)
    (tables.packets_are_few-fact packets table (media_fact rate head) t few)
few_media own rate head false table t packets few = tables.packets_are_few-fact packets table (media_fact rate head) t
    few

-- a source has a packet more, but still no more than there were calls
pub media_kept : {s : State} → IsSound s → 0 < s.calls → HasFew (s.calls - 1) s.table → (head : RtpValue) (t : ℕ) →
    IsKept s.table (after_facts (facts_of_media s.setup.ssrc (rate_of s.setup head) head
    (counted s.table (media_fact (rate_of s.setup head) head))) t s.table)
    s.calls
media_kept {s} sound some few head t =
    let facts = facts_of_media s.setup.ssrc (rate_of s.setup head) head
    (counted s.table (media_fact (rate_of s.setup head) head)) in
    record {
      bounds = tables.bounds_are_kept-facts s.table facts t;
      room = tables.capacity_is_kept-facts s.table facts t (few_entries sound);
      few = tables.packets_are_few-more (s.calls - 1 + 1) s.calls (after_facts facts t s.table) (omega (arith, some))
          (few_media s.setup.ssrc (rate_of s.setup head) head
          (counted s.table (media_fact (rate_of s.setup head) head)) s.table t (s.calls - 1) few);
    }

-- ---- Schedules and calls

-- no call is taken
pub no_call : {s : State} → IsSound s → IsInStep s.timing.last s.reports s.latest s.calls
no_call {s} sound = record { is_past = sound.timing; in_range = sound.latest; fewer = sound.reports; few = sound.calls }
