-- Why a call is refused, whatever it tells.
use Rattle.rtcp_engine.specs.declared.refusal.Refusal.{Refusal}
use Rattle.rtcp_engine.specs.declared.refusal.Refusal.TheVariants as refusal
use Rattle.rtcp_engine.specs.declared.presence.Untimely.{Untimely}
use Rattle.rtcp_engine.specs.declared.presence.Untimely.TheVariants.{Backwards, TooFar, TooMany}

abbrev pub refusal_of_moment : Untimely → Refusal
refusal_of_moment Backwards = refusal.Backwards
refusal_of_moment TooFar = refusal.TooFar
refusal_of_moment TooMany = refusal.TooMany
