use Rattle.std.proofs.Common.{◌≡◌, ℕ}
use Rattle.rtcp_engine.specs.answers.Histories.{History}
use Rattle.rtcp_engine.specs.state.States.{StandsAt}
use Rattle.rtcp_show.specs.Listings.{if_listed, lists}
use Rattle.rtcp_show.specs.Notes.{noted_in, with_trips}
use Rattle.rtcp_show.proofs.notes.BySource+Note.note_trips.Given as goal

-- what is noted, and then the blocks that are left
abbrev pub invariant-loop-reported : goal.invariant-loop-reported
invariant-loop-reported g l = (history : History) → StandsAt l.participant history → (ssrc : ℕ) →
    if_listed (lists history ssrc) (with_trips l.arrived l.reported-iterator ssrc) (noted_in l.self ssrc)
    ≡ if_listed (lists history ssrc) (with_trips l.arrived l.initial.reported-iterator ssrc)
    (noted_in l.initial.self ssrc)
