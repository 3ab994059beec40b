use Rattle.jalwedd_host.proofs.session.judged_rtcp.Goals as goal

pub returns : goal.returns
returns c = record {
  untaken = c.judge_rtcp.result;
  told = c.of_judged.ensures;
  held = c.judge_rtcp.ensures.held;
  passes = c.judge_rtcp.ensures.passes;
}
