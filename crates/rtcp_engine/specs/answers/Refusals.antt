-- Parts of why an act is refused, by names of their own.
use Rattle.std.specs.Prelude.{Bool, length, if◌then◌else◌, Option, Some, None}
use Rattle.std.specs.Option.{option_or}
use Rattle.rtcp_engine.specs.declared.refusal.Refusal.{Refusal}
use Rattle.rtcp_engine.specs.answers.Acts.{Act, moment_of}
use Rattle.rtcp_engine.specs.answers.Histories.{History, last_moment, session_at}
use Rattle.rtcp_engine.specs.answers.Answers.{call_refusal, refusal_of_content}

abbrev pub refusal_if : Bool → Refusal → Option Refusal
refusal_if b refusal = if b then Some refusal else None

-- why an act is refused by one that is not gone
abbrev pub refusal_of : History → Act → Option Refusal
refusal_of history act =
    option_or (call_refusal (moment_of act) (last_moment history.acts) (length history.acts))
    (refusal_of_content (session_at history) act)
