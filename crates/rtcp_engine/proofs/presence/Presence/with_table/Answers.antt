use Rattle.std.proofs.Common.{◌≡◌, ℕ, List, [], ◌∷◌, length, None, ap, ◌∙◌}
use Rattle.rtcp_clock.specs.Intervals.{drawn_interval}
use Rattle.rtcp_wire.specs.Writing.{written_all}
use Rattle.rtcp_report.specs.Reports.{Reporter, packets_with, items_of}
use Rattle.rtcp_timer.specs.Schedules.{transmitted, schedule_at}
use Rattle.rtcp_timer.specs.Loads.{interval_of}
use Rattle.rtcp_engine.specs.answers.Setups.{IsUsable}
use Rattle.rtcp_engine.specs.state.Views.{setup_of}
use Rattle.rtcp_engine.proofs.Usable.{usable_of_unrefused}
use Rattle.rtcp_engine.proofs.Beginning.{IsStart, first_load, start_is_sound, start_stands, first_average}
use Rattle.rtcp_engine.proofs.presence.Presence.with_table.Given as given
use Rattle.rtcp_engine.proofs.presence.Presence.with_table.Goals as goal

usable : (g : given.Over) (c : goal.After-new g) → IsUsable (setup_of c.args.config)
usable g c = usable_of_unrefused (setup_of c.args.config) c.requires.usable

started : (g : given.Over) (c : goal.After-new g) →
    IsStart (setup_of c.args.config) c.args.word (g.T.MemberTable.content c.args.table) c.begin.result
    c.start-average.result c.new.result
started g c =
    let setup = setup_of c.args.config in
    let size : (ssrc : ℕ) → let reporter : Reporter =
    record { ssrc = ssrc; sent = None; items = items_of setup.cname None } in
    c.first_size.result ≡ length (written_all (packets_with reporter [])) =
    λ ssrc. c.first_size.ensures.exact ssrc
    ∙ ap (λ (cname : List ℕ). length
    (written_all (packets_with (record { ssrc = ssrc; sent = None; items = items_of cname None }) [])))
    c.deref.ensures.0 in
    let interval : c.interval.result ≡ interval_of
    (first_load c.start-average.result setup.settings.sender_bw setup.settings.receiver_bw) = c.interval.ensures.exact
    ∙ ap (λ (a : ℕ). interval_of (first_load a setup.settings.sender_bw setup.settings.receiver_bw))
    c.value.ensures.exact in
    record {
      is_table = c.requires.vacant;
      is_average = first_average setup c.first_size.result c.start-average.result size c.start-average.ensures;
      is_timing = c.begin.ensures ∙ ap (λ (td : ℕ). schedule_at (transmitted 0 (drawn_interval td c.args.word) 1 ∷ []))
          interval;
      is_own = c.new.ensures;
    }

pub invariant_of-result : goal.invariant_of-result
invariant_of-result g c =
    start_is_sound (setup_of c.args.config) c.args.word (g.T.MemberTable.content c.args.table) c.begin.result
    c.start-average.result c.new.result (usable g c) (started g c)

pub returns-clause-begins : goal.returns-clause-begins
returns-clause-begins g c =
    start_stands (setup_of c.args.config) c.args.word (g.T.MemberTable.content c.args.table) c.begin.result
    c.start-average.result c.new.result (usable g c) c.ranges.word.fits (started g c)

pub returns-clause-within : goal.returns-clause-within
returns-clause-within g c = (invariant_of-result g c).room
