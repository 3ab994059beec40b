-- The block is the first of those that are left.
use Rattle.std.proofs.Common.{◌+◌, ◌-◌, length, take, refl, ap, ◌∙◌, arith}
use Rattle.rtcp_wire.specs.Readings.{block_in}
use Rattle.rtcp_parts.specs.declared.cursor.Cursor.{Cursor}
use Rattle.rtcp_parts.proofs.BlockWalks.{block_room, takes_block}
use Rattle.rtcp_parts.proofs.Calls.{is_within_by, none_taken, within_is}
use Rattle.rtcp_parts.proofs.blocks.take_block.Goals as goal

pub returns-in_err-octets : goal.returns-in_err-octets
returns-in_err-octets c =
    none_taken c.args.datagram.now c.args.cursor.now c.from_residual.result c.requires c.from_residual.ensures
    (λ parts leaves. absurd (omega (
      arith,
      block_room c.args.datagram.now c.args.cursor.now parts leaves c.if-cursor-eq0.false,
      c.in_err-octets.ensures.cases,
      ap length c.rest.ensures.rest,
    )))

pub returns : goal.returns
returns c =
    let within = within_is _ c.args.cursor.now c.requires in
    let split = c.in_ok-octets.ensures.cases in
    let was = c.args.cursor.now in
    let now : Cursor = record {
      next = was.next;
      place = was.place + 24;
      end = was.end;
      left = was.left - 1;
      ssrc = was.ssrc;
    } in
    let own = c.block_from.ensures ∙ ap block_in (split.1 ∙ ap (take 24) c.rest.ensures.rest) in
    record {
      takes = λ parts leaves. takes_block c.args.datagram.now was now c.block_from.result refl refl refl
          (omega (arith, c.if-cursor-eq0.false)) refl own parts leaves;
      none = λ nothing. absurd (cc nothing);
      within = is_within_by _ now (omega (arith, c.rest.ensures.size, split.0)) within.1 within.2;
      next = refl;
      further = (c.if-cursor-eq0.false, omega arith);
    }
