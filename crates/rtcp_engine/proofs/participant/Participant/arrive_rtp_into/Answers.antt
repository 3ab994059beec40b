use Rattle.std.proofs.Common.{◌∙◌, Ok, Err, refl, ap, sym}
use Rattle.rtcp_engine.specs.answers.Acts.{moment_of, rtp}
use Rattle.rtcp_engine.proofs.ActLemmas.{call_refused, leaves_all, refused, replied}
use Rattle.rtcp_engine.proofs.Arriving.{as_packet, fault_answered}
use Rattle.rtcp_engine.proofs.participant.Participant.arrive_rtp_into.Goals as goal

pub returns-in-Some : goal.returns-in-Some
returns-in-Some g c =
    call_refused (λ act is. ap moment_of is) (sym c.refusal.ensures.exact ∙ c.in-Some.is) c.refusal.ensures.within

pub returns-in-Err : goal.returns-in-Err
returns-in-Err g c =
    let fault = c.in-Err.fault in
    refused (as_packet c.args.bytes.now (Err fault) (c.in-Err.ensures.refused fault refl)
    (fault_answered c.args.now c.args.peer c.args.w (rtp (Err fault)) (sym c.refusal.ensures.exact ∙ c.in_default.is)
    refl)) c.refusal.ensures.within

pub returns-then-is_named_by : goal.returns-then-is_named_by
returns-then-is_named_by g c = record {
  takes = as_packet c.args.bytes.now (Ok c.in-Ok.head) c.in-Ok.ensures.accepted c.arrive_as_own.ensures.takes;
  spares = c.arrive_as_own.ensures.spares;
  writes = c.arrive_as_own.ensures.writes;
}

pub returns : goal.returns
returns g c =
    let other = c.arrive_as_other.ensures in
    replied (as_packet c.args.bytes.now (Ok c.in-Ok.head) c.in-Ok.ensures.accepted
    (other.takes c.args.peer c.args.w c.args.octets.now c.ranges.w.fits)) other.within other.standing other.empty
    leaves_all
