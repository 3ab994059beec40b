use Rattle.std.proofs.Common.{◌≡◌, ◌<◌, ◌^◌, ◌++◌, All, take}
use Rattle.std.specs.List.{flat_map}
use Rattle.rtcp_wire.specs.Writing.{written_word}
use Rattle.rtcp_wire.proofs.writer.goodbyes.append_ids.Given as goal

abbrev pub invariant-loop-id : goal.invariant-loop-id
invariant-loop-id l =
    (l.buffer.items ≡ l.initial.buffer.items ++ flat_map written_word (take l.id-index l.ids))
    × All (λ id. id < 2 ^ 32) (take l.id-index l.ids)
