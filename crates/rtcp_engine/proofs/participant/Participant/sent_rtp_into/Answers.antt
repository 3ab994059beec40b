use Rattle.std.proofs.Common.{◌∙◌, refl, ap, sym}
use Rattle.rtcp_engine.specs.answers.Acts.{moment_of, rtp_sent}
use Rattle.rtcp_engine.proofs.ActLemmas.{alone, call_refused, leaves_all, outside, plain_call, replied, takes}
use Rattle.rtcp_engine.proofs.participant.Participant.sent_rtp_into.Goals as goal

pub returns-in-Some-clause-replies : goal.returns-in-Some-clause-replies
returns-in-Some-clause-replies g c =
    call_refused (λ act is. ap moment_of is) (sym c.refusal.ensures.exact ∙ c.in-Some.is) c.refusal.ensures.within

pub returns-clause-replies : goal.returns-clause-replies
returns-clause-replies g c =
    let act = rtp_sent c.args.now c.args.rtp_ts c.args.size in
    replied (alone (takes _ (plain_call c.args.self.now act (sym c.refusal.ensures.exact ∙ c.in_default.is)
    (λ session. refl) (λ session. refl)) (outside c.take_call.ensures.new c.take_sent.ensures.new)
    (c.written_step.ensures.exact c.args.octets.now) (c.ranges.rtp_ts.fits, c.ranges.size.fits)))
    c.take_sent.ensures.within c.written_step.ensures.standing c.written_step.ensures.out leaves_all
