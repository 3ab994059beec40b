use Rattle.std.proofs.Common.{◌∙◌, length, Ok, Err, refl, ap, sym}
use Rattle.rtcp_engine.specs.answers.Acts.{moment_of, rtcp}
use Rattle.rtcp_engine.proofs.ActLemmas.{call_refused, leaves_all, refused, replied}
use Rattle.rtcp_engine.proofs.Arriving.{as_compound, fault_answered}
use Rattle.rtcp_engine.proofs.Following.{few_named}
use Rattle.rtcp_engine.proofs.participant.Participant.arrive_rtcp_into.Goals as goal

pub returns-in-Some : goal.returns-in-Some
returns-in-Some g c =
    call_refused (λ act is. ap moment_of is) (sym c.refusal.ensures.exact ∙ c.in-Some.is) c.refusal.ensures.within

pub returns-in-Err : goal.returns-in-Err
returns-in-Err g c =
    let fault = c.in-Err.fault in
    refused (as_compound c.args.bytes.now (Err fault) (c.in-Err.ensures.refused fault refl)
    (fault_answered c.args.now c.args.peer c.args.w (rtcp (length c.args.bytes.now) (Err fault))
    (sym c.refusal.ensures.exact ∙ c.in_default.is) refl)) c.refusal.ensures.within

pub arrive_as_own-requires-clause-few : goal.arrive_as_own-requires-clause-few
arrive_as_own-requires-clause-few g c = few_named c.args.bytes.now c.in-Ok.compound c.in-Ok.ensures.accepted

pub returns-then-is_named_by : goal.returns-then-is_named_by
returns-then-is_named_by g c = record {
  takes = as_compound c.args.bytes.now (Ok c.in-Ok.compound) c.in-Ok.ensures.accepted c.arrive_as_own.ensures.takes;
  spares = c.arrive_as_own.ensures.spares;
  writes = c.arrive_as_own.ensures.writes;
}

pub returns : goal.returns
returns g c =
    let other = c.arrive_as_other.ensures in
    replied (as_compound c.args.bytes.now (Ok c.in-Ok.compound) c.in-Ok.ensures.accepted
    (other.takes c.args.peer c.args.w c.args.octets.now c.ranges.w.fits)) other.within other.standing other.empty
    leaves_all
