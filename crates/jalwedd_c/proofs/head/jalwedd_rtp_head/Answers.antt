-- Octets have one head, or a first fault.
use Rattle.std.proofs.Common.{refl, subst}
use Rattle.rtcp_wire.specs.RtpHeads.{IsRtpHead}
use Rattle.jalwedd_host.specs.Heads.{ShowsHead}
use Rattle.rtcp_wire.specs.Values.{RtpValue}
use Rattle.jalwedd_c.proofs.head.jalwedd_rtp_head.Goals as goal

pub returns-in-Ok-clause-read : goal.returns-in-Ok-clause-read
returns-in-Ok-clause-read c = λ value spelled fits. (
  refl,
  subst (λ (head : RtpValue). (spelled : IsRtpHead c.args.datagram.now head) →
      ShowsHead c.args.datagram.now head spelled c.head_place.result) (c.in-Ok.ensures.reads value spelled)
      c.head_place.ensures spelled,
)

pub returns-in-Err-clause-read : goal.returns-in-Err-clause-read
returns-in-Err-clause-read c = λ value spelled fits. absurd (c.in-Err.ensures.reads value spelled)
