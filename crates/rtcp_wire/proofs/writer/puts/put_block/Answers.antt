-- Six words, one after the other.
use Rattle.std.proofs.Common.{List, ℕ, ◌≡◌, negsuc, ◌≤ℤ◌, subst, ap, ◌∙◌, rules, arith, w32}
use Rattle.std.proofs.lemmas.Int.{ints}
use Rattle.std.specs.Int.{cast_unsigned, cast_signed}
use Rattle.rtcp_wire.specs.Puts.{IsPut}
use Rattle.rtcp_wire.proofs.Putting.{put_after, lost_word}
use Rattle.rtcp_wire.proofs.writer.puts.put_block.Goals as goal

pub returns-clause-put : goal.returns-clause-put
returns-clause-put c =
    let block = c.args.block.now in
    let same : cast_signed w32 (cast_unsigned w32 block.lost) ≡ block.lost = search rules in
    let least : negsuc 2147483647 ≤ℤ block.lost = first_of (search rules, omega (arith, ints), grind (arith, ints)) in
    let second = subst (λ (part : List ℕ). IsPut c.put_word-end.new.octets c.put_word-end-2.new.octets
    c.put_word-end.result part c.put_word-end-2.result) (lost_word block.fraction c.from.result
    c.cast_unsigned-lost.result block.lost (omega arith) least c.from.ensures
    (c.cast_unsigned-lost.ensures ∙ ap (cast_unsigned w32) same))
    c.put_word-end-2.ensures.put in
    put_after c.put_word-end.ensures.put
    (put_after second
    (put_after c.put_word-end-3.ensures.put
    (put_after c.put_word-end-4.ensures.put
    (put_after c.put_word-end-5.ensures.put c.put_word.ensures.put))))
