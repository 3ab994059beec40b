use Rattle.std.proofs.Common.{ℕ, ◌+◌, ◌∙◌, ap, arith}
use Rattle.rtcp_members.specs.Tables.{senders_in}
use Rattle.rtcp_members.proofs.LawLemmas.{counts_are_ordered-senders, counts_are_ordered-members}
use Rattle.rtcp_engine.proofs.Agreeing.{senders_agree}
use Rattle.rtcp_engine.proofs.StepLemmas.{of_view}
use Rattle.rtcp_engine.proofs.presence.Presence.sender_count.Goals as goal

pub overflow_add-result : goal.overflow_add-result
overflow_add-result g c =
    let table = g.T.MemberTable.content c.self.inside.table in
    let fewer = counts_are_ordered-senders table in
    let few = counts_are_ordered-members table in
    omega (
      arith,
      fewer,
      few,
      c.self.invariant.room,
      c.self.invariant.usable.capacity.1,
      c.senders.ensures,
      c.one_if_sending.ensures.few,
    )

pub returns : goal.returns
returns g c =
    let count = ap (λ (n : ℕ). n + c.one_if_sending.result) c.senders.ensures
    ∙ ap (λ (n : ℕ). senders_in (g.T.MemberTable.content c.self.inside.table) + n) c.one_if_sending.ensures.exact in
    of_view c.self.view_is (λ setup outcome. Rattle.rtcp_engine.specs.answers.Outcomes.sender_count setup outcome)
    (λ outcome agrees. count ∙ senders_agree _ outcome agrees)
