use Rattle.std.proofs.Common.{◌∙◌, refl, sym}
use Rattle.rtcp_engine.specs.answers.Acts.{rtp_arrived}
use Rattle.rtcp_guarded.specs.Views.{both}
use Rattle.rtcp_guarded.proofs.Calling.{held_packet, passed_packet, refused_reply}
use Rattle.rtcp_guarded.proofs.apart.admit_rtp.Goals as goal

pub returns-in-Err-clause-held : goal.returns-in-Err-clause-held
returns-in-Err-clause-held g c octets =
    refused_reply {old = both c.args.participant.now c.args.guard.now}
    (rtp_arrived c.args.now c.args.peer c.args.w c.args.bytes.now) c.in-Err.refusal c.in-Err.ensures.foretold

pub returns-in-Some-clause-held : goal.returns-in-Some-clause-held
returns-in-Some-clause-held g c octets =
    held_packet {old = both c.args.participant.now c.args.guard.now}
    {new = both c.args.participant.now c.arrive_rtp-verdict.new.self} c.in-Ok.inspected.head c.in-Ok.ensures.read
    c.in-Ok.ensures.foretold (record {
      origin = c.origin.result;
      its = c.origin.ensures;
      verdict_is = c.arrive_rtp-verdict.ensures.verdict;
      content = c.arrive_rtp-verdict.ensures.content;
    }) (sym c.reason_of.ensures ∙ c.in-Some.is) refl

pub returns-in-None-clause-passes : goal.returns-in-None-clause-passes
returns-in-None-clause-passes g c before after reply later replies =
    passed_packet {old = both c.args.participant.now c.args.guard.now}
    {new = both later c.arrive_rtp-verdict.new.self} c.in-Ok.inspected.head reply c.in-Ok.ensures.read
    c.in-Ok.ensures.foretold (record {
      origin = c.origin.result;
      its = c.origin.ensures;
      verdict_is = c.arrive_rtp-verdict.ensures.verdict;
      content = c.arrive_rtp-verdict.ensures.content;
    }) (sym c.reason_of.ensures ∙ c.in-None.is) replies
