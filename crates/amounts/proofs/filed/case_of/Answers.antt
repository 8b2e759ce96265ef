use Rattle.std.proofs.Common.{rules, refl}
use Rattle.std.proofs.lemmas.List.Sorted.{IsPartitionPoint-from_clause}
use Rattle.amounts.specs.Filed.{rows}
use Rattle.amounts.proofs.filed.Rows.{reached, parted, paired, found}
use Rattle.amounts.specs.declared.filed.TheConstants.{BOUNDS}
use Rattle.amounts.proofs.filed.case_of.Goals as goal

pub returns : goal.returns
unfolding rows paired
returns c =
    let point = IsPartitionPoint-from_clause (reached c.args.amount) BOUNDS _ c.partition_point-number.ensures.partitioned (parted c.args.amount) (λ a r f k. search rules) in
    found c.args.amount refl _ _ c.partition_point-number.ensures.bound point
