use Rattle.std.proofs.Common.{◌≡◌, ◌++◌}
use Rattle.core.specs.Char.Escape.{escape_ascii}
use Rattle.core.specs.Char.Iter.{escape_byte_rest}
use Rattle.rtcp_plain.proofs.numbers.push_octet.Given as goal

-- what is written, and then what is left of the escape
abbrev pub invariant-loop-part : goal.invariant-loop-part
invariant-loop-part l = record {
  written : l.out.items ++ escape_byte_rest l.part-iterator ≡ l.fn.out.items ++ escape_ascii l.fn.octet;
  can : (goal.iterator-loop-part).can_next l.part-iterator;
}
