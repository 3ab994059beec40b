use Rattle.std.proofs.Common.{sym, ap, ◌∙◌}
use Rattle.rtcp_serve.proofs.LinkCalls.{one_growth}
use Rattle.rtcp_serve.specs.Serving.{at_the_start_of, going, after_calls}
use Rattle.rtcp_serve.proofs.serve_laws.a_log_determines_the_session.Goals as goal

pub returns : goal.returns
returns c = record {
  calls = λ reader history words turns further calls others s t before after log told one other.
      let same = one_growth calls others before.log after.log log told one.called.log other.called.log in (
        same,
        one.reached ∙ ap (λ calls. going reader further (after_calls reader further
            (at_the_start_of history words turns) calls))
            same ∙ sym other.reached,
      );
}
