-- What would be wrong: a law with a premise left out, and an event of which it does not hold.
use Rattle.std.proofs.Common.{◌≡◌, ◌<◌, Ok, arith}
use Rattle.rtcp_engine.specs.answers.Acts.{EventValue, leave_asked}
use Rattle.rtcp_text.specs.EventLines.{event_in, event_text}
use Rattle.rtcp_text.proofs.LawLemmas.{events_are_read_back-callable}

abbrev too_late : EventValue
too_late = leave_asked 18446744073709551616 0

-- Whatever is read has a moment of 64 bits.
any_event_is_read_back : ((event : EventValue) → event_in (event_text event) ≡ Ok event) → ⊥
any_event_is_read_back law =
    let below : 18446744073709551616 < 18446744073709551616 =
    (events_are_read_back-callable (event_text too_late) too_late (law too_late)).0 in
    omega (arith, below)
