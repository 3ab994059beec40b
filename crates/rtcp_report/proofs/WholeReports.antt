-- The parts of a report, put together.
use Rattle.std.proofs.Common.{◌≡◌, ℕ, ◌+◌, ◌<◌, ◌≤◌, List, [], ◌∷◌, All, length, take, Option, Some, None, arith, refl, sym, ap, subst, ◌∙◌}
use Rattle.std.specs.Option.{ForSome, option_to_list}
use Rattle.std.proofs.lemmas.List.{length-take}
use Rattle.std.proofs.lemmas.List.Elements.{All-cons, All-nil}
use Rattle.rtcp_wire.specs.Values.{ItemValue}
use Rattle.rtcp_wire.specs.Writing.{written_all, IsWritableItem}
use Rattle.rtcp_members.specs.Tables.{TableValue}
use Rattle.rtcp_members.specs.Pending.{EntryRow, pending, blocks_of}
use Rattle.rtcp_report.specs.Gathered.{IsReport, IsTakenFrom, PutsPackets}
use Rattle.rtcp_report.specs.Reports.{Reporter, cname_item, description_of, packets_with, items_of, report_size}
use Rattle.rtcp_report.specs.Sizes.{reported_rows, report_of}
use Rattle.rtcp_report.proofs.PutReports.{octets_are, read_back, begins}
use Rattle.rtcp_report.proofs.ReportSizes.{packets_length}
use Rattle.rtcp_report.proofs.Prefixes.{size_rises, front_is}

pub items_writable : (cname : List ℕ) (extra : Option ItemValue) → length cname ≤ 255 → ForSome extra IsWritableItem →
    All IsWritableItem (items_of cname extra)
items_writable cname extra short can =
    All-cons IsWritableItem (cname_item cname) (option_to_list extra) (omega arith, omega arith, short)
    (extra_writable extra can)
  where
    extra_writable : (extra : Option ItemValue) → ForSome extra IsWritableItem →
        All IsWritableItem (option_to_list extra)
    extra_writable None can = All-nil IsWritableItem
    extra_writable (Some item) can = All-cons IsWritableItem item [] (can item refl) (All-nil IsWritableItem)

-- The sources are those that fit the limit, where so many blocks fit and no more.
pub whole_report : {old new : List ℕ} {end : ℕ} {after : TableValue} {cursor : Option ℕ} (limit most t : ℕ)
    (last : Option ℕ) (table : TableValue) (reporter : Reporter) → report_size reporter most ≤ limit →
    limit < report_size reporter (most + 1) → limit ≤ 1472 →
    PutsPackets (packets_with reporter (blocks_of t (take most (pending last table)))) old new 0 end →
    IsTakenFrom t (take most (pending last table)) last table cursor after →
    IsReport reporter limit t last table (take end new) after cursor
whole_report {old} {new} {end} {after} {cursor} limit most t last table reporter fits greatest small put taken =
    let rows : List EntryRow = reported_rows reporter limit last table in
    let same : take most (pending last table) ≡ rows =
    sym (front_is reporter limit most fits greatest (pending last table)) in
    let puts : PutsPackets (report_of reporter limit t last table) old new 0 end =
    subst (λ (r : List EntryRow). PutsPackets (packets_with reporter (blocks_of t r)) old new 0 end) same put in
    let made : IsTakenFrom t rows last table cursor after =
    subst (λ (r : List EntryRow). IsTakenFrom t r last table cursor after) same taken in
    let octets : take end new ≡ written_all (report_of reporter limit t last table) =
    octets_are (report_of reporter limit t last table) puts in
    let count : length (written_all (report_of reporter limit t last table)) ≡ report_size reporter (length rows) =
    packets_length reporter (blocks_of t rows) ∙ ap (report_size reporter) made.count in
    let few : length rows ≤ most =
    omega (arith, ap (λ (r : List EntryRow). length r) same, length-take most (pending last table)) in
    let within : report_size reporter (length rows) ≤ limit =
    omega (arith, fits, size_rises reporter (length rows) most few) in
    let size : length (take end new) ≡ report_size reporter (length rows) =
    ap (λ (o : List ℕ). length o) octets ∙ count in
    record {
      octets = octets;
      within = omega (arith, size, within);
      size = size;
      reads_back = read_back (report_of reporter limit t last table) puts
          (begins reporter.ssrc reporter.sent (blocks_of t rows) (description_of reporter ∷ []))
          (omega (arith, puts.put.ends, count, within, small));
      content = made.content;
      cursor = made.cursor_is;
    }
