-- A block gives no packet.
use Rattle.std.proofs.Common.{◌≡◌, ℕ, Option, Some, None, MatchOption, subst, sym}
use Rattle.rtcp_wire.specs.declared.block.Block.{Block}
use Rattle.rtcp_members.specs.Pending.{after_block}
use Rattle.rtcp_members.specs.Tables.{HasFew, TableValue}
use Rattle.rtcp_members.proofs.LawLemmas.{packets_are_few-block}
use Rattle.rtcp_members_tests.proofs.members.session.Session.block.Goals as goal

few_after : (packets : ℕ) (old new : TableValue) (made : Option Block) →
    MatchOption made (new ≡ old) (λ (block : Block). new ≡ after_block block.ssrc old) → HasFew packets old →
    HasFew packets new
few_after packets old new None same few = subst (HasFew packets) (sym same) few
few_after packets old new (Some block) moved few =
    subst (HasFew packets) (sym moved) (packets_are_few-block packets old block.ssrc few)

pub invariant_of-self : goal.invariant_of-self
invariant_of-self g c =
    record {
      few = few_after c.args.self.now.facts (g.T.MemberTable.content c.args.self.now.table)
          (g.T.MemberTable.content c.next_block.new.self) c.next_block.result c.next_block.ensures.content
          c.args.self.now.few;
    }
