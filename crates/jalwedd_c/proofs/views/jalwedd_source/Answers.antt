-- The source given is the one that the history tells of, and its moments are those of taken calls.
use Rattle.rtcp_engine.specs.answers.Histories.{life_at, setup_at}
use Rattle.jalwedd_host.specs.Sources.{after_of}
use Rattle.jalwedd_host.proofs.LawLemmas.{history_of, start_of}
use Rattle.jalwedd_host.proofs.LawLemmas.{shows_left, shows_this, shows_report}
use Rattle.jalwedd_c.proofs.views.jalwedd_source.Goals as goal

pub returns-in-Some-clause-never_left : goal.returns-in-Some-clause-never_left
returns-in-Some-clause-never_left c start history state leads tells =
    let held = c.args.handle.now.owned.held in
    let after = after_of c.args.from in
    let shown = c.in-Some.shown in
    let told = c.in-Some.ensures.listed start history leads in
    let shows = shows_this (setup_at history) after (life_at history) told.0 state start shown told.1 told.2 tells in
    let low = start_of held start history leads in
    shows_left history (history_of held start history leads) after state tells start low shown shows

pub returns-in-Some-clause-never_reported : goal.returns-in-Some-clause-never_reported
returns-in-Some-clause-never_reported c start history state leads tells =
    let held = c.args.handle.now.owned.held in
    let after = after_of c.args.from in
    let shown = c.in-Some.shown in
    let told = c.in-Some.ensures.listed start history leads in
    let shows = shows_this (setup_at history) after (life_at history) told.0 state start shown told.1 told.2 tells in
    let low = start_of held start history leads in
    shows_report history (history_of held start history leads) after state tells start low shown shows
