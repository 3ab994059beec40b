-- Each report gives the CNAME of its source.
use Rattle.std.proofs.Common.{ℕ, ◌+◌, Bool, true, false, List, [], ◌∷◌, map, length, All, Contains, Option, Some, None, if◌then◌else◌, option_map, refl, sym, arith, subst}
use Rattle.std.proofs.lemmas.List.Concat.{flat_map-append}
use Rattle.std.proofs.lemmas.List.Elements.{All-nil, All-cons, All-append, Contains-append_right}
use Rattle.rtcp_wire.specs.declared.fact.Fact.{Fact}
use Rattle.rtcp_wire.specs.declared.fact.Fact.TheVariants.{Named}
use Rattle.rtcp_wire.specs.Values.{ItemValue, ReportBlock, RtcpPacket}
use Rattle.rtcp_wire.specs.Facts.{facts_of, facts_of_packet}
use Rattle.rtcp_members.specs.News.{blocks_at}
use Rattle.rtcp_report.specs.Reports.{SentValue, Reporter, reports_with, description_of, packets_with, items_of}
use Rattle.rtcp_engine.specs.declared.changes.IdentifierChange.{IdentifierChange}
use Rattle.rtcp_engine.specs.answers.Setups.{Setup}
use Rattle.rtcp_engine.specs.answers.Acts.{Act, ticked}
use Rattle.rtcp_engine.specs.answers.Outcomes.{Outcome, interval_at}
use Rattle.rtcp_engine.specs.answers.Ticks.{checked, is_report_due}
use Rattle.rtcp_engine.specs.answers.Reporting.{extra_item, reporter_at, reported_at, report_packets, report_octets}
use Rattle.rtcp_engine.specs.answers.Leaving.{Life, present}
use Rattle.rtcp_engine.specs.answers.Lives.{report_out}
use Rattle.rtcp_engine.specs.answers.Histories.{History, session_of}
use Rattle.rtcp_engine.specs.bounds.Sent.{Sent, reports_in, sent_with}
use Rattle.rtcp_session.specs.Windows.{decided_by, decided_over, decided_at}
use Rattle.rtcp_session.specs.Deliveries.{NamesItsSource}
use Rattle.rtcp_session.proofs.Deciding.{decided_as}

names_itself : (ssrc : ℕ) (sent : Option SentValue) (cname : List ℕ) (extra : Option ItemValue)
    (blocks : List ReportBlock) →
    Contains (facts_of (packets_with (record { ssrc = ssrc; sent = sent; items = items_of cname extra }) blocks))
    (Named ssrc)
names_itself ssrc sent cname extra blocks =
    let reporter : Reporter = record { ssrc = ssrc; sent = sent; items = items_of cname extra } in
    let reports : List RtcpPacket = reports_with ssrc sent blocks in
    subst (λ (facts : List Fact). Contains facts (Named ssrc))
    (sym (flat_map-append facts_of_packet reports (description_of reporter ∷ [])))
    (Contains-append_right (facts_of reports) (facts_of (description_of reporter ∷ [])) (Named ssrc)
    (1, omega arith, refl))

one_names : (setup : Setup) (t interval : ℕ) (outcome : Outcome) (due : Bool) →
    All NamesItsSource (map (decided_as setup outcome) (reports_in (sent_with t interval false
    (option_map report_out (if due then Some (report_octets setup t outcome) else None)))))
one_names setup t interval outcome false = All-nil NamesItsSource
one_names setup t interval outcome true =
    let report : Sent = record {
      moment = t;
      interval = interval;
      out = report_out (report_octets setup t outcome);
      changes = false;
    } in
    All-cons NamesItsSource (decided_as setup outcome report) []
    (record {
      packets = report_packets setup t outcome;
      written = refl;
      named = names_itself setup.ssrc (reporter_at setup t outcome).sent setup.cname
          (extra_item setup.settings.extras (outcome.reports + 1))
          (blocks_at t setup.capacity outcome.trace (reported_at setup t outcome));
    }) (All-nil NamesItsSource)

names_by : (setup : Setup) (changes : List IdentifierChange) (act : Act) (life : Life) →
    All NamesItsSource (decided_by (record { setup = setup; changes = changes; life = life }) act)
names_by setup changes (ticked moment first_word second_word) (present outcome) =
    let now = checked setup moment outcome in
    one_names setup moment (interval_at setup now) now (is_report_due setup moment first_word now)
names_by setup changes act life = All-nil NamesItsSource

names_over : (setup : Setup) (word : ℕ) (acts : List Act) → All NamesItsSource (decided_over setup word acts)
names_over setup word [] = All-nil NamesItsSource
names_over setup word (act ∷ earlier) =
    let before = session_of setup word earlier in
    All-append NamesItsSource (decided_by before act) (decided_over setup word earlier)
    (names_by before.setup before.changes act before.life) (names_over setup word earlier)

pub reports_name_their_source : (history : History) → All NamesItsSource (decided_at history)
reports_name_their_source history = names_over history.setup history.word history.acts
