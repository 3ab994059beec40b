-- Rising names fall into the lesser ones and the others.
use Rattle.std.proofs.Common.{◌≡◌, ℕ, nat_lt, true, false, arith, rules}
use Rattle.std.proofs.lemmas.Bool.Decides.{nat_tests}
use Rattle.std.proofs.lemmas.List.Sorted.{IsPartitionPoint-from_clause, IsPartitionedBy-ltb}
use Rattle.std.specs.List.Sorted.{IsPartitionPoint}
use Rattle.rtcp_guard.proofs.Newcomers.{falls_nowhere}
use Rattle.rtcp_guard.proofs.merging.rank_of.Goals as goal

pub returns : goal.returns
returns c =
    let names = c.args.names.now in
    let at = c.partition_point.result in
    let parted : IsPartitionPoint (λ (y : ℕ). nat_lt y c.args.name ≡ true) (λ y. nat_lt y c.args.name ≡ false) names
    at =
    IsPartitionPoint-from_clause (λ (y : ℕ). nat_lt y c.args.name) names at
    c.partition_point.ensures.partitioned
    (IsPartitionedBy-ltb (λ (y : ℕ). y) names c.args.name (falls_nowhere names c.requires))
    (λ a r f called. (search rules, search rules)) in
    let within = c.partition_point.ensures.bound in
    record {
      within = within;
      lesser = λ k early. let is = parted.0 k 0 (omega arith) early in grind (arith, nat_tests, is);
      rest = λ k late inside. let is = parted.1 k 0 late inside in grind (arith, nat_tests, is);
    }
