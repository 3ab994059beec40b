use Rattle.std.proofs.Common.{refl, arith}
use Rattle.std.proofs.lemmas.Bool.Decides.{nat_tests}
use Rattle.rtcp_parts.proofs.ItemWalks.{chunk_begins, opens}
use Rattle.rtcp_parts.proofs.items.opened.Goals as goal

pub returns-then-rest-lt-ID_SIZE : goal.returns-then-rest-lt-ID_SIZE
returns-then-rest-lt-ID_SIZE c = record {
  items = λ chunks h pos counted. absurd (omega (
    arith,
    chunk_begins c.args.datagram.now c.args.chunks.now c.ended.result c.rest-rest.result.now c.requires
        c.rest-rest.ensures.rest chunks h (omega (arith, counted, pos)),
  ));
  within = grind (arith, nat_tests);
  further = grind arith;
  ended = grind arith;
}

pub returns : goal.returns
returns c =
    opens c.args.datagram.now c.args.chunks.now _ c.rest-rest.result.now c.requires c.rest-rest.ensures.rest
    c.if-rest-lt-ID_SIZE.false refl refl refl refl c.u32_at.ensures
