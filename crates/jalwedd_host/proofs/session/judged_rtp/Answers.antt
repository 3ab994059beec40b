use Rattle.jalwedd_host.proofs.session.judged_rtp.Goals as goal

pub returns : goal.returns
returns c = record {
  untaken = c.judge_rtp.result;
  told = c.of_judged.ensures;
  held = c.judge_rtp.ensures.held;
  passes = c.judge_rtp.ensures.passes;
}
