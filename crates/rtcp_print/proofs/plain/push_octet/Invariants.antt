use Rattle.std.proofs.Common.{◌≡◌}
use Rattle.core.specs.Char.Escape.{escape_ascii}
use Rattle.core.specs.Char.Iter.{escape_byte_rest}
use Rattle.rtcp_print.proofs.PageLemmas.{Brings}
use Rattle.rtcp_print.proofs.plain.push_octet.Given as goal

-- what is shown, and then what is left of the escape
abbrev pub invariant-loop-part : goal.invariant-loop-part
invariant-loop-part l = record {
  same : l.page.room.ghost_name ≡ l.initial.page.room.ghost_name;
  brings : Brings l.initial.page l.page (escape_byte_rest l.part-iterator) (escape_ascii l.fn.octet);
  can : (goal.iterator-loop-part).can_next l.part-iterator;
}
