-- `rows::lead` meets its contract: in row order no point before row y stands behind one that is not. Assumes nothing.
use Rattle.std.proofs.Common.{◌≡◌, ◌≤◌, arith, List, length, ℤ, subst, sym, true, false}
use Rattle.std.specs.List.Sorted.{IsPartitionedBy, IsPartitionPoint}
use Rattle.std.proofs.lemmas.Int.{to_z-of_z}
use Rattle.std.proofs.lemmas.List.Sorted.{IsPartitionPoint-from_clause}
use Rattle.packed.proofs.Tests.{read_back}
use Rattle.rows.proofs.RowLaws.{before, parted, leads}
use Rattle.rows.proofs.lead.Goals as goal

pub returns : goal.returns
returns c =
    let list = c.args.list.now in
    let e = c.pairs.ensures in
    let y = read_back c.args.y c.ranges.y in
    leads list c.requires c.args.y c.partition_point.result
    (subst (λ (p : List (List ℤ)). IsPartitionPoint (λ x. before c.args.y x ≡ true) (λ x. before c.args.y x ≡ false) p c.partition_point.result) e
    (IsPartitionPoint-from_clause (before c.args.y) c.pairs.result.now c.partition_point.result c.partition_point.ensures.partitioned
    (subst (λ (p : List (List ℤ)). IsPartitionedBy (before c.args.y) p) (sym e) (parted list c.requires c.args.y))
    (λ a r f' k. grind (arith, to_z-of_z))))
    (subst (λ (p : List (List ℤ)). c.partition_point.result ≤ length p) e c.partition_point.ensures.bound)
