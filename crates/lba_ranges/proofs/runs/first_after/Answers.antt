use Rattle.std.proofs.Common.{leb, leb-true, leb-false, arith, rules}
use Rattle.std.proofs.lemmas.List.Sorted.{IsPartitionPoint-from_clause, IsPartitionedBy-leb}
use Rattle.lba_ranges.specs.declared.runs.PlacedPiece.{PlacedPiece}
use Rattle.lba_ranges.proofs.runs.first_after.Goals as goal

pub returns-clause-first : goal.returns-clause-first
returns-clause-first c =
    let parted = IsPartitionedBy-leb (λ (r : PlacedPiece). r.end) _ c.args.place c.requires in
    let point = IsPartitionPoint-from_clause (λ (r : PlacedPiece). leb r.end c.args.place) _ _ c.partition_point.ensures.partitioned parted (λ a r q k. search rules) in
    record {
      before = λ i d h. leb-true _ _ (point.0 i d (omega arith) h);
      after = λ d h. leb-false _ _ (point.1 c.partition_point.result d (omega arith) h);
    }
