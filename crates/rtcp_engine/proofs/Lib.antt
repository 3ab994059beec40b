-- `StepLemmas` has a lemma for each kind of step, by what the layers below say of their parts. `Agreeing` has lemmas on
-- `Agrees`, and `RolesChanged` on what changes the roles of others; `Soundness` shows that a state stays sound.
-- `ActLemmas` leads from `Does` to `Acts`, by phase, and from `Acts` to `Takes`, with `AnswerLemmas` and `LifeLemmas`.
-- `Changing`, `ChangeRest` and `ChangeLemmas` cover a change of SSRC, in a session and in a participant, `Arriving`
-- datagrams, `Inspecting` those that are yet to be taken, and `Hearing` and `Sighting` who is a member since a datagram
-- named it. `Pacing` and `PaceEnds` cover what checks go by after a change of bandwidths. `Saying` covers facts that
-- are
-- applied part by part, and `OneSource` those of one source.
-- That the search for a new SSRC ends with a free one is proved by counting those in its way (`NewIdentifiers`,
-- `IdentifierSearch`, `Marking`).
--
-- The bounds on what is sent: `Sending` proves them by induction on the acts, with the timer's law
-- `never_due_too_soon`, and `Windows` counts; `Waiting` proves the other side, with `due_in_time`.
mod ActLemmas
mod Agreeing
mod Among
mod Arriving
mod Beginning
mod examples
mod Changing
mod NewIdentifiers
mod Counting
mod StepLemmas
mod Quiet
mod Following
mod Inspecting
mod Keeping
mod LifeLemmas
mod Marking
mod RolesChanged
mod OneMore
mod OneSource
mod HandingOver
mod Pacing
mod PaceEnds
mod Past
pub mod Hearing
mod Sighting
mod OneClock
mod ChangeLemmas
mod ChangeRest
mod Saying
mod Sending
mod Soundness
mod AnswerLemmas
mod IdentifierSearch
mod Usable
mod Waiting
mod Windows
pub mod LawLemmas
