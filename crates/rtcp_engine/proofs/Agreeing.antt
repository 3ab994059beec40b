-- A table and numbers that agree with an outcome agree, once they moved, with the outcome after the same act.
use Rattle.std.proofs.Common.{None, ◌≡◌, ℕ, ◌+◌, ◌==◌, Bool, List, [], ◌∷◌, length, map, Option, is_some, refl, sym, ap, ◌∙◌, arith, subst}
use Rattle.rtcp_wire.specs.declared.fact.Fact.{Fact}
use Rattle.rtcp_wire.specs.Values.{ReportBlock, RtpValue}
use Rattle.rtcp_wire.specs.Writing.{written_all}
use Rattle.rtcp_members.specs.Traces.{TraceStep, with_facts, with_blocks}
use Rattle.rtcp_members.specs.Entries.{members_at, senders_at, counted_at}
use Rattle.rtcp_members.specs.Tables.{StandsAt as IsTableAt, TableValue, counted, after_facts, members_in, senders_in, after_forgetting}
use Rattle.rtcp_members.specs.Pending.{EntryRow, pending, after_blocks, blocks_of, last_reported, pending_rows_at}
use Rattle.rtcp_members.specs.News.{blocks_at}
use Rattle.std.specs.FinMap as finite
use Rattle.rtcp_members.specs.Traces.{names}
use Rattle.rtcp_members.specs.Stays.{present_among, stay_of}
use Rattle.rtcp_members.specs.Listings.{StateValue, state_above, states_above, ListsAbove, IsWalk}
use Rattle.rtcp_members.proofs.LawLemmas as tables
use Rattle.rtcp_report.specs.Reports.{Reporter, packets_with, fitting}
use Rattle.rtcp_report.specs.Sizes.{reported_rows, report_of}
use Rattle.rtcp_report.proofs.LawLemmas as reports
use Rattle.rtcp_timer.specs.declared.load.Load.{Load}
use Rattle.rtcp_timer.specs.Averages.{moved_average}
use Rattle.rtcp_timer.specs.Schedules.{Happening, Timing}
use Rattle.rtcp_engine.specs.answers.OwnStreams.{OwnStep, OwnValue, Adds, own_of, packet_sent, check_passed, report_sent, counts_anew, sending_since, newest_packet, timestamp_at, timestamp_from}
use Rattle.rtcp_engine.specs.answers.Outcomes.{Outcome, one_if, member_count, sender_count, load_of}
use Rattle.rtcp_engine.specs.answers.Reporting.{last_reported_in, reporter_at, reporter_by, reported_at, report_octets}
use Rattle.rtcp_engine.specs.answers.Ticks as ticks
use Rattle.rtcp_engine.specs.answers.Arrivals.{media_fact, facts_of_media, rate_of}
use Rattle.rtcp_engine.specs.state.States.{State, Agrees, StandsStill, with_call}
use Rattle.rtcp_engine.proofs.LawLemmas.{last_block_is_newest}
use Rattle.rtcp_engine.specs.answers.Lives.{with_media}

-- ---- Counts and intervals

pub others_agree : (s : State) (o : Outcome) → Agrees s o →
    members_in s.table ≡ members_at s.setup.capacity o.trace
others_agree s o a = tables.counts_agree-members s.table o.trace a.still.table
    ∙ (λ i. members_at (a.still.capacity i) o.trace)

pub members_agree : (s : State) (o : Outcome) → Agrees s o → 1 + members_in s.table ≡ member_count s.setup o
members_agree s o a = ap (λ (n : ℕ). 1 + n) (others_agree s o a)

we_sent_agrees : (s : State) (o : Outcome) → Agrees s o → is_some s.own.sending ≡ is_some (sending_since o.own)
we_sent_agrees s o a = ap (λ (own : OwnValue). is_some own.sending) a.still.own

pub entries_agree : (s : State) (o : Outcome) → Agrees s o → finite.len s.table.entries ≡ present_among (names o.trace)
    (stay_of s.setup.capacity o.trace)
entries_agree s o a = tables.counts_agree-entries s.table o.trace a.still.table
    ∙ ap (λ (c : ℕ). present_among (names o.trace) (stay_of c o.trace)) a.still.capacity

pub lists_agree : (s : State) (o : Outcome) → Agrees s o → (after : Option ℕ) (listed : Option StateValue) →
    listed ≡ state_above after s.table → ListsAbove after s.setup.capacity o.trace listed
lists_agree s o a after listed is =
    subst (λ (c : ℕ). ListsAbove after c o.trace listed) a.still.capacity
    (subst (λ (t : Option StateValue). ListsAbove after s.table.capacity o.trace t) (sym is)
    (tables.listings_follow_traces-listed after s.table o.trace a.still.table))

pub walks_agree : (s : State) (o : Outcome) → Agrees s o → (states : List StateValue) →
    states ≡ states_above None s.table → IsWalk None s.setup.capacity o.trace states
walks_agree s o a states is =
    subst (λ (c : ℕ). IsWalk None c o.trace states) a.still.capacity
    (subst (λ (l : List StateValue). IsWalk None s.table.capacity o.trace l) (sym is)
    (tables.tables_list_walks-walk None s.table o.trace a.still.table))

pub senders_agree : (s : State) (o : Outcome) → Agrees s o → senders_in s.table + one_if (is_some s.own.sending)
    ≡ sender_count s.setup o
senders_agree s o a =
    let counts = tables.counts_agree-senders s.table o.trace a.still.table in
    let table : senders_in s.table ≡ senders_at s.setup.capacity o.trace = counts
    ∙ ap (λ (c : ℕ). senders_at c o.trace) a.still.capacity in
    ap (λ (n : ℕ). n + one_if (is_some s.own.sending)) table
    ∙ ap (λ (b : Bool). senders_at s.setup.capacity o.trace + one_if b) (we_sent_agrees s o a)

abbrev pub load : (members senders : ℕ) (we_sent initial : Bool) (avg sender_bw receiver_bw : ℕ) → Load
load members senders we_sent initial avg sender_bw receiver_bw =
    record {
      members = members;
      senders = senders;
      we_sent = we_sent;
      initial = initial;
      avg = avg;
      sender_bw =
          sender_bw;
      receiver_bw = receiver_bw;
    }

-- what an interval depends on, by parts that agree
pub loads_agree : {s : State} {o : Outcome} → Agrees s o → (members senders avg : ℕ) (we_sent : Bool) →
    members ≡ member_count s.setup o → senders ≡ sender_count s.setup o → we_sent ≡ is_some s.own.sending →
    avg ≡ s.average
    → load members senders we_sent (s.reports == 0) avg s.setup.settings.sender_bw s.setup.settings.receiver_bw
    ≡ load_of s.setup o
loads_agree {s} {o} a members senders avg we_sent m n sent average =
    let initial = ap (λ (r : ℕ). r == 0) a.still.reports in
    let sending = sent ∙ we_sent_agrees s o a in
    let size = average ∙ a.average in
    λ i. load (m i) (n i) (sending i) (initial i) (size i) s.setup.settings.sender_bw s.setup.settings.receiver_bw

-- ---- Moves

-- what stands still, with an own stream and whatever the other numbers are
pub with_own : (s : State) (o : Outcome) {timing : Timing} {average latest calls : ℕ} {own : OwnValue}
    {happenings : List Happening} {sizes : List ℕ} {steps : List OwnStep} → StandsStill s o → own ≡ own_of steps →
    StandsStill (record s { timing = timing; average = average; own = own; latest = latest; calls = calls })
    (record o { happenings = happenings; sizes = sizes; own = steps })
with_own s o still same = record {
  table = still.table;
  capacity = still.capacity;
  own = same;
  cursor = still.cursor;
  reports = still.reports;
}

pub calls_agree : (s : State) (o : Outcome) (t : ℕ) → Agrees s o → Agrees (with_call t s) o
calls_agree s o t a =
    record { timing = a.timing; average = a.average; pace = a.pace; still = with_own s o a.still a.still.own }

-- facts leave the source that was reported last
facts_keep_cursor : (facts : List Fact) (t : ℕ) (trace : List TraceStep) →
    last_reported_in (with_facts facts t trace) ≡ last_reported_in trace
facts_keep_cursor [] t trace = refl
facts_keep_cursor (fact ∷ facts) t trace = facts_keep_cursor facts t
    (Rattle.rtcp_members.specs.Traces.fact_came fact t ∷ trace)

-- A table that changes as the trace does, with an own stream, leaves the source that was reported last.
pub table_agrees : {s : State} {o : Outcome} (table : TableValue) (trace : List TraceStep) (own : OwnValue)
    (steps : List OwnStep) → IsTableAt table trace → table.capacity ≡ s.table.capacity → own ≡ own_of steps →
    last_reported_in trace ≡ last_reported_in o.trace → Agrees s o
    → Agrees (record s { table = table; own = own }) (record o { trace = trace; own = steps })
table_agrees table trace own steps stands kept same cursor a = record {
  timing = a.timing;
  average = a.average;
  pace = a.pace;
  still = record {
    table = stands;
    capacity = kept ∙ a.still.capacity;
    own = same;
    cursor = a.still.cursor ∙ sym cursor;
    reports = a.still.reports;
  };
}

pub facts_agree : (s : State) (o : Outcome) (facts : List Fact) (t : ℕ) → Agrees s o →
    Agrees (record s { table = after_facts facts t s.table }) (record o { trace = with_facts facts t o.trace })
facts_agree s o facts t a =
    table_agrees (after_facts facts t s.table) (with_facts facts t o.trace) s.own o.own
    (tables.tables_follow_traces-facts s.table o.trace facts t a.still.table)
    (tables.bounds_are_kept-facts s.table facts t).capacity a.still.own (facts_keep_cursor facts t o.trace) a

-- a source that is forgotten leaves the one that was reported last
pub forgotten_agree : (s : State) (o : Outcome) (ssrc : ℕ) → Agrees s o →
    Agrees (record s { table = after_forgetting ssrc s.table }) (ticks.with_forgotten ssrc o)
forgotten_agree s o ssrc a =
    table_agrees (after_forgetting ssrc s.table) (ticks.with_forgotten ssrc o).trace s.own o.own
    (tables.tables_follow_traces-forgotten s.table o.trace ssrc a.still.table)
    (tables.bounds_are_kept-forgotten s.table ssrc).capacity a.still.own refl a

pub sizes_agree : (s : State) (o : Outcome) (size : ℕ) → Agrees s o →
    Agrees (record s { average = moved_average s.average size }) (record o { sizes = size ∷ o.sizes })
sizes_agree s o size a = record {
  timing = a.timing;
  average = ap (λ (n : ℕ). moved_average n size) a.average;
  pace = a.pace;
  still = with_own s o a.still a.still.own;
}

-- ---- Arrivals

pub media_agree : (s : State) (o : Outcome) (t : ℕ) (head : RtpValue) → Agrees s o →
    Agrees (record s {
      table = after_facts (facts_of_media s.setup.ssrc (rate_of s.setup head) head
          (counted s.table (media_fact (rate_of s.setup head) head))) t
          s.table;
    }) (with_media s.setup t head o)
media_agree s o t head a =
    let counts = tables.counts_agree-counted s.table o.trace (media_fact (rate_of s.setup head) head) a.still.table in
    let same : counted s.table (media_fact (rate_of s.setup head) head) ≡ counted_at s.setup.capacity o.trace
    (media_fact (rate_of s.setup head) head) =
    counts ∙ ap (λ (c : ℕ). counted_at c o.trace (media_fact (rate_of s.setup head) head)) a.still.capacity in
    let facts : Bool → List Fact = facts_of_media s.setup.ssrc (rate_of s.setup head) head in
    let is_counted = counted s.table (media_fact (rate_of s.setup head) head) in
    subst (λ (b : Bool). Agrees (record s { table = after_facts (facts is_counted) t s.table })
    (record o { trace = with_facts (facts b) t o.trace })) same
    (facts_agree s o (facts is_counted) t a)

-- ---- Reports

-- who reports, and on what, by the numbers
abbrev pub reporter_in : (t : ℕ) → State → Reporter
reporter_in t state = reporter_by state.setup state.own (state.reports + 1) t

abbrev pub rows_in : (t : ℕ) → State → List EntryRow
rows_in t state = reported_rows (reporter_in t state) state.setup.limit state.cursor state.table

abbrev pub octets_in : (t : ℕ) → State → List ℕ
octets_in t state = written_all (report_of (reporter_in t state) state.setup.limit t state.cursor state.table)

timestamps_agree : (rate t : ℕ) (own : List OwnStep) →
    timestamp_from rate t (newest_packet own) ≡ timestamp_at rate t own
timestamps_agree rate t [] = refl
timestamps_agree rate t (packet_sent moment timestamp octets ∷ earlier) = refl
timestamps_agree rate t (check_passed idle ∷ earlier) = timestamps_agree rate t earlier
timestamps_agree rate t (report_sent ∷ earlier) = timestamps_agree rate t earlier
timestamps_agree rate t (counts_anew ∷ earlier) = timestamps_agree rate t earlier

reporters_agree : (s : State) (o : Outcome) (t : ℕ) → Agrees s o → reporter_in t s ≡ reporter_at s.setup t o
reporters_agree s o t a = (λ i. reporter_by s.setup (a.still.own i) (a.still.reports i + 1) t)
    ∙ rw (timestamps_agree s.setup.settings.rate t o.own) refl

pending_agree : (s : State) (o : Outcome) → Agrees s o →
    pending s.cursor s.table ≡ pending_rows_at (last_reported_in o.trace) s.setup.capacity o.trace
pending_agree s o a =
    ap (λ (c : Option ℕ). pending c s.table) a.still.cursor
    ∙ tables.turns_follow_traces-rows (last_reported_in o.trace) s.table o.trace a.still.table
    ∙ ap (λ (c : ℕ). pending_rows_at (last_reported_in o.trace) c o.trace) a.still.capacity

-- They are the rows of those by the trace, as many as fit.
rows_agree : (s : State) (o : Outcome) (t : ℕ) → Agrees s o → rows_in t s
    ≡ fitting (reporter_at s.setup t o) s.setup.limit
    (pending_rows_at (last_reported_in o.trace) s.setup.capacity o.trace)
rows_agree s o t a =
    ap (λ (r : Reporter). fitting r s.setup.limit (pending s.cursor s.table)) (reporters_agree s o t a)
    ∙ ap (λ (rows : List EntryRow). fitting (reporter_at s.setup t o) s.setup.limit rows) (pending_agree s o a)

abbrev ssrcs_of : List EntryRow → List ℕ
ssrcs_of rows = map (λ (row : EntryRow). row.0) rows

sources_agree : (s : State) (o : Outcome) (t : ℕ) → Agrees s o → ssrcs_of (rows_in t s) ≡ reported_at s.setup t o
sources_agree s o t a =
    ap ssrcs_of (rows_agree s o t a)
    ∙ reports.reports_are_of_stays-sources (reporter_at s.setup t o) s.setup.limit (last_reported_in o.trace)
    s.setup.capacity o.trace

blocks_agree : (s : State) (o : Outcome) (t : ℕ) → Agrees s o → blocks_of t (rows_in t s)
    ≡ blocks_at t s.setup.capacity o.trace (reported_at s.setup t o)
blocks_agree s o t a =
    ap (blocks_of t) (rows_agree s o t a)
    ∙ reports.reports_are_of_stays-blocks (reporter_at s.setup t o) s.setup.limit t (last_reported_in o.trace)
    s.setup.capacity o.trace

pub octets_agree : (s : State) (o : Outcome) (t : ℕ) → Agrees s o → octets_in t s ≡ report_octets s.setup t o
octets_agree s o t a =
    ap (λ (r : Reporter). written_all (packets_with r (blocks_of t (rows_in t s)))) (reporters_agree s o t a)
    ∙ ap (λ (blocks : List ReportBlock). written_all (packets_with (reporter_at s.setup t o) blocks))
    (blocks_agree s o t a)

pub sent_reports_agree : (s : State) (o : Outcome) (t : ℕ) (own : OwnValue) → Adds s.own own report_sent → Agrees s o →
    Agrees (record s {
      table = after_blocks (rows_in t s) s.table;
      own = own;
      average = moved_average s.average (length (octets_in t s));
      cursor = last_reported s.cursor (rows_in t s);
      reports = s.reports + 1;
    }) (ticks.with_report s.setup t o)
sent_reports_agree s o t own adds a =
    let sources = sources_agree s o t a in
    let kept = tables.bounds_are_kept-blocks s.table (rows_in t s) in
    record {
      timing = a.timing;
      average = ap (λ (n : ℕ). moved_average n (length (octets_in t s))) a.average
          ∙ ap (λ (octets : List ℕ). moved_average (Rattle.rtcp_engine.specs.answers.Outcomes.average_size s.setup o)
          (length octets)) (octets_agree s o t a);
      pace = a.pace;
      still = record {
        table = subst (λ (ssrcs : List ℕ). IsTableAt (after_blocks (rows_in t s) s.table) (with_blocks ssrcs o.trace))
            sources
            (reports.tables_follow_reports-stands (reporter_in t s) s.setup.limit s.cursor s.table o.trace
            a.still.table);
        capacity = kept.capacity ∙ a.still.capacity;
        own = adds o.own a.still.own;
        cursor = ap (λ (c : Option ℕ). last_reported c (rows_in t s)) a.still.cursor
            ∙ sym (last_block_is_newest (rows_in t s) o.trace)
            ∙ ap (λ (ssrcs : List ℕ). last_reported_in (with_blocks ssrcs o.trace)) sources;
        reports = omega (arith, a.still.reports);
      };
    }
