use Rattle.std.proofs.Common.{◌<◌, ◌-◌, length, sym, ap, ◌∙◌, arith}
use Rattle.rtcp_wire.specs.Walks.{chunks_in}
use Rattle.rtcp_wire.proofs.ChunkSteps.{chunk_step, chunks_step}
use Rattle.rtcp_wire.proofs.sdes.chunks.ChunksIterator.next.Goals as goal

pub split_at-requires : goal.split_at-requires
split_at-requires c = (chunk_step _ _ c.self.invariant c.if-self-eq0.false).begun

pub size_with_items-requires : goal.size_with_items-requires
size_with_items-requires c = rw c.split_at.ensures.back (chunk_step _ _ c.self.invariant c.if-self-eq0.false).items

pub split_at-requires-2 : goal.split_at-requires-2
split_at-requires-2 c = rw (c.size_with_items.ensures, c.split_at.ensures.back)
    (chunk_step _ _ c.self.invariant c.if-self-eq0.false).room

pub invariant_of-result : goal.invariant_of-result
invariant_of-result c = rw c.split_at.ensures.back (chunk_step _ _ c.self.invariant c.if-self-eq0.false).items

pub invariant_of-self : goal.invariant_of-self
invariant_of-self c = rw (c.split_at-2.ensures.back, c.size_with_items.ensures, c.split_at.ensures.back)
    (chunk_step _ _ c.self.invariant c.if-self-eq0.false).more

pub returns-clause-steps : goal.returns-clause-steps
returns-clause-steps c =
    sym c.self.view_is ∙ chunks_step c.self.inside.count c.self.inside.octets.now c.split_at.result.0.now
    c.split_at.result.1.now c.split_at-2.result.1.now c.read_u32.result _
    c.if-self-eq0.false c.split_at.ensures.front c.split_at.ensures.back c.read_u32.ensures c.size_with_items.ensures
    c.split_at-2.ensures.back

pub returns-clause-goes : goal.returns-clause-goes
returns-clause-goes c =
    let step = chunks_step c.self.inside.count c.self.inside.octets.now c.split_at.result.0.now c.split_at.result.1.now
    c.split_at-2.result.1.now c.read_u32.result _
    c.if-self-eq0.false c.split_at.ensures.front c.split_at.ensures.back c.read_u32.ensures c.size_with_items.ensures
    c.split_at-2.ensures.back in
    let falls : length (chunks_in (c.self.inside.count - 1) c.split_at-2.result.1.now) < length c.args.self.now =
    omega (arith, ap length c.self.view_is, ap length step) in
    record { on = λ f. (tt, tt, falls); keeps = tt; rests = λ f. tt }
