-- The laws of this crate as lemmas, for the proofs of the crates above: each has the name of its law, and of the clause
-- where the law has
-- several. Nothing here names a representation.
use Rattle.std.proofs.Common.{◌≡◌, ◌&&◌, ◌≤◌, ◌∙◌, arith, ap, sym, refl, rules, is_some, false, All, IsTrue, ℕ, List, [], ◌∷◌, Option, Some, None}
use Rattle.std.specs.FinMap as finite
use Rattle.rtcp_wire.specs.declared.fact.Fact.{Fact}
use Rattle.rtcp_wire.specs.declared.fact.Fact.TheVariants.{Heard, Named, Told}
use Rattle.rtcp_wire.specs.declared.sole.SoleSource.{SoleSource}
use Rattle.rtcp_wire.specs.Facts.{is_media}
use Rattle.rtcp_wire.specs.Sole.{facts_of_sole, IsSole}
use Rattle.rtcp_members.specs.Traces.{TraceStep, source_forgotten, with_facts}
use Rattle.rtcp_members.specs.Entries.{EntryValue, members_at, senders_at, is_such, is_member, is_sender, entry_at}
use Rattle.rtcp_members.specs.Pending.{EntryRow, is_due_at, pending, after_blocks}
use Rattle.rtcp_members.specs.Roles.{IsSameRole, facts_move}
use Rattle.rtcp_members.proofs.moving.RoleCounts.{nobody_passes}
use Rattle.rtcp_members.specs.Tables.{TableValue, StandsAt, KeepsBounds, HasFew, after_facts}
use Rattle.rtcp_members.proofs.stays.AtOnce.{once_said, once_moved}
use Rattle.rtcp_members.proofs.stays.OneSource.{sole_says}
use Rattle.rtcp_members.proofs.standing.Blocking.{blocks_keep_capacity}
use Rattle.rtcp_members.proofs.standing.Capacity.{facts_keep_bounds, blocks_keep_bounds, facts_keep_capacity}
use Rattle.rtcp_members.proofs.standing.Counts.{members_by_entries, senders_by_entries}
use Rattle.rtcp_members.proofs.standing.Following.{facts_follow}
use Rattle.rtcp_members.proofs.standing.Forgetting.{fewer_left}
use Rattle.rtcp_members.proofs.stays.Packets.{few_facts}
use Rattle.rtcp_members.proofs.turns.Turns.{due_row}
pub use Rattle.rtcp_members.proofs.standing.Counts.{members_by_entries as counts_are_of_entries-members}
pub use Rattle.rtcp_members.proofs.standing.Counts.{senders_by_entries as counts_are_of_entries-senders}
pub use Rattle.rtcp_members.proofs.standing.Counts.{members_agree as counts_agree-members}
pub use Rattle.rtcp_members.proofs.standing.Counts.{senders_agree as counts_agree-senders}
pub use Rattle.rtcp_members.proofs.turns.NewsOfTraces.{pending_have_rows as rows_are_of_stays-all}
pub use Rattle.rtcp_members.proofs.turns.NewsOfTraces.{pending_taken as rows_are_of_stays-sources}
pub use Rattle.rtcp_members.proofs.turns.NewsOfTraces.{pending_blocks as rows_are_of_stays-blocks}
pub use Rattle.rtcp_members.proofs.standing.Following.{none_stands as tables_follow_traces-none}
pub use Rattle.rtcp_members.proofs.standing.Following.{fact_follows as tables_follow_traces-fact}
pub use Rattle.rtcp_members.proofs.standing.Following.{check_follows as tables_follow_traces-check}
pub use Rattle.rtcp_members.proofs.standing.Following.{len_is_present as counts_agree-entries}
pub use Rattle.rtcp_members.proofs.standing.Blocking.{block_follows as tables_follow_traces-block}
pub use Rattle.rtcp_members.proofs.standing.Removing.{forgetting_follows as tables_follow_traces-forgotten}
pub use Rattle.rtcp_members.proofs.standing.Removing.{few_forgotten as packets_are_few-forgotten}
pub use Rattle.rtcp_members.proofs.standing.Removing.{left_at as forgetting_goes_as_silence-left}
pub use Rattle.rtcp_members.proofs.standing.Forgetting.{forgotten_is_gone as forgetting_goes_as_silence-gone}
pub use Rattle.rtcp_members.proofs.standing.Blocking.{block_keeps_capacity as capacity_is_kept-block}
pub use Rattle.rtcp_members.proofs.standing.Blocking.{few_block as packets_are_few-block}
pub use Rattle.rtcp_members.proofs.standing.TraceTables.{table_stands as trace_has_one_table-stands}
pub use Rattle.rtcp_members.proofs.standing.Agreeing.{counted_agrees as counts_agree-counted}
pub use Rattle.rtcp_members.proofs.standing.Capacity.{fact_keeps_bounds as bounds_are_kept-fact}
pub use Rattle.rtcp_members.proofs.standing.Capacity.{check_keeps_bounds as bounds_are_kept-check}
pub use Rattle.rtcp_members.proofs.standing.Capacity.{block_keeps_bounds as bounds_are_kept-block}
pub use Rattle.rtcp_members.proofs.standing.Capacity.{forgetting_keeps_bounds as bounds_are_kept-forgotten}
pub use Rattle.rtcp_members.proofs.standing.Capacity.{none_within as capacity_is_kept-none}
pub use Rattle.rtcp_members.proofs.standing.Capacity.{fact_keeps_capacity as capacity_is_kept-fact}
pub use Rattle.rtcp_members.proofs.standing.Capacity.{check_keeps_capacity as capacity_is_kept-check}
pub use Rattle.rtcp_members.proofs.standing.Capacity.{forgetting_keeps_capacity as capacity_is_kept-forgotten}
pub use Rattle.rtcp_members.proofs.standing.Growing.{senders_are_members as counts_are_ordered-senders}
pub use Rattle.rtcp_members.proofs.standing.Growing.{members_are_entries as counts_are_ordered-members}
pub use Rattle.rtcp_members.proofs.standing.Growing.{check_adds_no_sender as counts_are_ordered-check_senders}
pub use Rattle.rtcp_members.proofs.standing.Growing.{members_stay as facts_keep_members}
pub use Rattle.rtcp_members.proofs.stays.Packets.{few_none as packets_are_few-none, few_fact as packets_are_few-fact}
pub use Rattle.rtcp_members.proofs.stays.Packets.{few_check as packets_are_few-check, few_of_more as packets_are_few-more}
pub use Rattle.rtcp_members.proofs.stays.Packets.{may_apply as packets_are_few-apply}
pub use Rattle.rtcp_members.proofs.stays.Naming.{present_is_named as present_were_named_and_fit-named}
pub use Rattle.rtcp_members.proofs.stays.Crowding.{present_fit as present_were_named_and_fit-fit}
pub use Rattle.rtcp_members.proofs.turns.Turns.{first_is_there as first_is_due-there, block_of_first as first_is_due-block}
pub use Rattle.rtcp_members.proofs.turns.Turns.{others_wait as others_stay_pending, is_pending_once as each_is_pending_once}
pub use Rattle.rtcp_members.proofs.turns.NextDue.{next_is_due as first_is_due-answered}
pub use Rattle.rtcp_members.proofs.turns.NewsOfTraces.{pending_is_traced as turns_follow_traces-rows}
pub use Rattle.rtcp_members.proofs.turns.NewsOfTraces.{due_at_trace as turns_follow_traces-due}
pub use Rattle.rtcp_members.proofs.listing.Above.{lists_above as listings_follow_traces-listed}
pub use Rattle.rtcp_members.proofs.listing.Above.{listed_once as listings_follow_traces-only}
pub use Rattle.rtcp_members.proofs.listing.Above.{walk_rises as walks_list_each_once-rising}
pub use Rattle.rtcp_members.proofs.listing.Above.{states_are_walk as tables_list_walks-walk}
pub use Rattle.rtcp_members.proofs.listing.Above.{listed_more as tables_list_walks-more, listed_none as tables_list_walks-none}
pub use Rattle.rtcp_members.proofs.listing.Past.{listed_of_past as listings_lie_in_the_past-listed}
pub use Rattle.rtcp_members.proofs.listing.Past.{walk_of_past as listings_lie_in_the_past-walk}
pub use Rattle.rtcp_members.proofs.listing.Past.{came_later as listings_lie_in_the_past-later}
pub use Rattle.rtcp_members.proofs.listing.Past.{facts_came as listings_lie_in_the_past-facts}
pub use Rattle.rtcp_members.proofs.moving.RoleCounts.{step_keeps as roles_move_with_counts-kept}
pub use Rattle.rtcp_members.proofs.moving.RoleCounts.{same_roles_stay as roles_move_with_counts-moved}
pub use Rattle.rtcp_members.proofs.moving.RoleCounts.{steps_keep as roles_move_with_counts-within}
pub use Rattle.rtcp_members.proofs.moving.RoleCounts.{block_moves_none as roles_move_with_counts-block}
pub use Rattle.rtcp_members.proofs.moving.Roles.{facts_alone_moved as moves_follow_traces-facts}
pub use Rattle.rtcp_members.proofs.moving.Roles.{check_moved as moves_follow_traces-check}
pub use Rattle.rtcp_members.proofs.moving.Roles.{forgetting_moved as moves_follow_traces-forgotten}

-- ---- Tables and traces

pub tables_follow_traces-facts : (table : TableValue) (trace : List TraceStep) (facts : List Fact) (moment : ℕ) →
    StandsAt table trace →
    StandsAt (after_facts facts moment table) (with_facts facts moment trace)
tables_follow_traces-facts = λ table trace facts moment. facts_follow facts table trace moment

pub bounds_are_kept-facts : (table : TableValue) (facts : List Fact) (moment : ℕ) →
    KeepsBounds table (after_facts facts moment table)
bounds_are_kept-facts = λ table facts moment. facts_keep_bounds facts table moment

pub bounds_are_kept-blocks : (table : TableValue) (rows : List EntryRow) → KeepsBounds table (after_blocks rows table)
bounds_are_kept-blocks = λ table rows. blocks_keep_bounds rows table

pub capacity_is_kept-facts : (table : TableValue) (facts : List Fact) (moment : ℕ) →
    finite.len table.entries ≤ table.capacity →
    finite.len (after_facts facts moment table).entries ≤ table.capacity
capacity_is_kept-facts = λ table facts moment. facts_keep_capacity facts table moment

pub capacity_is_kept-blocks : (table : TableValue) (rows : List EntryRow) → finite.len table.entries ≤ table.capacity →
    finite.len (after_blocks rows table).entries ≤ table.capacity
capacity_is_kept-blocks = λ table rows. blocks_keep_capacity rows table

pub packets_are_few-facts : (packets : ℕ) (table : TableValue) (facts : List Fact) (moment : ℕ) →
    All (λ fact. is_media fact ≡ false) facts →
    HasFew packets table → HasFew packets (after_facts facts moment table)
packets_are_few-facts = λ packets table facts moment. few_facts packets facts table moment

pub forgetting_goes_as_silence-members : (capacity : ℕ) (trace : List TraceStep) (ssrc : ℕ) →
    members_at capacity (source_forgotten ssrc ∷ trace) ≤ members_at capacity trace
forgetting_goes_as_silence-members = λ capacity trace ssrc. omega (
  arith,
  fewer_left is_member capacity trace ssrc,
  members_by_entries capacity trace,
  members_by_entries capacity (source_forgotten ssrc ∷ trace),
)

pub forgetting_goes_as_silence-senders : (capacity : ℕ) (trace : List TraceStep) (ssrc : ℕ) →
    senders_at capacity (source_forgotten ssrc ∷ trace) ≤ senders_at capacity trace
forgetting_goes_as_silence-senders = λ capacity trace ssrc. omega (
  arith,
  fewer_left is_sender capacity trace ssrc,
  senders_by_entries capacity trace,
  senders_by_entries capacity (source_forgotten ssrc ∷ trace),
)

-- ---- Stays and senders

-- ---- Turns

pub first_is_due-due : (last : Option ℕ) (table : TableValue) (row : EntryRow) (rest : List EntryRow) →
    pending last table ≡ row ∷ rest →
    IsTrue (is_due_at row.0 table)
first_is_due-due = λ last table row rest is. search (rules, due_row last table row rest is)

-- ---- What is told

-- ---- Who is a member, and who sends

pub roles_move_with_counts-none : (capacity : ℕ) (trace : List TraceStep) → members_at capacity trace ≡ 0 →
    (ssrc : ℕ) → IsSameRole None (entry_at capacity trace ssrc)
roles_move_with_counts-none = λ capacity trace none ssrc.
    let no_member = nobody_passes is_member capacity trace (sym (members_by_entries capacity trace) ∙ none) ssrc in
    (sym no_member, sym (no_sender (entry_at capacity trace ssrc) no_member))
  where
    no_sender : (entry : Option EntryValue) → is_such is_member entry ≡ false → is_such is_sender entry ≡ false
    no_sender None none = refl
    no_sender (Some entry) none = ap (λ b. b && is_some entry.sending) none

pub heard_by_what_it_says-named : (ssrc t : ℕ) (table : TableValue) → after_facts (Heard ssrc ∷ Named ssrc ∷ []) t table
    ≡ after_facts (Named ssrc ∷ []) t table
heard_by_what_it_says-named ssrc t table = once_said (Named ssrc) ssrc t table refl refl (λ e. refl)

pub heard_by_what_it_says-named_moves : (ssrc t : ℕ) (table : TableValue) →
    facts_move (Heard ssrc ∷ Named ssrc ∷ []) t table ≡ facts_move (Named ssrc ∷ []) t table
heard_by_what_it_says-named_moves ssrc t table = once_moved (Named ssrc) ssrc t table refl refl (λ e. refl)

pub heard_by_what_it_says-told : (ssrc ntp rtp t : ℕ) (table : TableValue) →
    after_facts (Heard ssrc ∷ Told ssrc ntp rtp ∷ []) t table ≡ after_facts (Told ssrc ntp rtp ∷ []) t table
heard_by_what_it_says-told ssrc ntp rtp t table = once_said (Told ssrc ntp rtp) ssrc t table refl refl (λ e. refl)

pub heard_by_what_it_says-told_moves : (ssrc ntp rtp t : ℕ) (table : TableValue) →
    facts_move (Heard ssrc ∷ Told ssrc ntp rtp ∷ []) t table ≡ facts_move (Told ssrc ntp rtp ∷ []) t table
heard_by_what_it_says-told_moves ssrc ntp rtp t table = once_moved (Told ssrc ntp rtp) ssrc t table refl refl
    (λ e. refl)

pub sole_sources_say_it_all-content : (source : SoleSource) (facts : List Fact) (t : ℕ) (table : TableValue) →
    IsSole source facts → after_facts facts t table ≡ after_facts (facts_of_sole source) t table
sole_sources_say_it_all-content source facts t table h = (sole_says source facts t table h).content

pub sole_sources_say_it_all-moves : (source : SoleSource) (facts : List Fact) (t : ℕ) (table : TableValue) →
    IsSole source facts → facts_move facts t table ≡ facts_move (facts_of_sole source) t table
sole_sources_say_it_all-moves source facts t table h = (sole_says source facts t table h).moves
