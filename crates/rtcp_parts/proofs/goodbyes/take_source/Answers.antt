use Rattle.std.proofs.Common.{length, ◌-◌, [], refl, arith}
use Rattle.std.proofs.lemmas.Bool.Decides.{nat_tests}
use Rattle.rtcp_parts.proofs.Calls.{none_taken, within_is}
use Rattle.rtcp_parts.proofs.GoodbyeWalks.{source_taken, sources_fit}
use Rattle.rtcp_parts.proofs.goodbyes.take_source.Goals as goal

pub returns-in_err-ids-clause-takes : goal.returns-in_err-ids-clause-takes
returns-in_err-ids-clause-takes c =
    none_taken c.args.datagram.now c.args.cursor.now c.from_residual.result c.requires c.from_residual.ensures
    (λ parts h. absurd (omega (
      arith,
      sources_fit c.args.datagram.now c.args.cursor.now parts c.rest-rest.result.now [] [] c.requires
          c.if-cursor-eq0.false c.rest-rest.ensures.rest h,
      c.in_err-ids.ensures.cases,
    )))

pub returns-clause-takes : goal.returns-clause-takes
returns-clause-takes c =
    let w = within_is (length c.args.datagram.now) c.args.cursor.now c.requires in
    let ids = c.in_ok-ids.ensures.cases in
    record {
      takes = λ parts h.
          source_taken c.args.datagram.now c.args.cursor.now parts c.rest-rest.result.now c.in_ok-ids.ids.now
          c.in_ok-ids.ends.now c.requires c.if-cursor-eq0.false c.rest-rest.ensures.rest h _ c.u32_at.result
          c.reason_in-reason.result (c.args.cursor.now.end - length c.in_ok-ids.ends.now) ids.1 ids.2
          (omega (arith, ids.4, c.rest-rest.ensures.size)) c.u32_at.ensures c.reason_in-reason.ensures.reason refl refl
          refl refl;
      none = λ none. absurd cc;
      within = grind (arith, nat_tests);
      next = refl;
      further = (c.if-cursor-eq0.false, omega arith);
    }
