-- The first cells stay.
use Rattle.std.proofs.Common.{◌≡◌, ◌+◌, take, vec_capacity, vec_len}
use Rattle.rtcp_guard.proofs.merging.lengthen.Given as goal

abbrev pub invariant-names : goal.invariant-names
invariant-names l = record {
  first : take (vec_len l.initial.cells) l.cells.items ≡ l.initial.cells.items;
  len : vec_len l.cells ≡ vec_len l.initial.cells + l.name-index;
  capacity : vec_capacity l.cells ≡ vec_capacity l.initial.cells;
}
