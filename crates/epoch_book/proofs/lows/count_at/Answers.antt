use Rattle.std.proofs.Common.{leb, rules}
use Rattle.std.proofs.lemmas.List.Sorted.{IsPartitionedBy-leb, IsPartitionPoint-from_clause}
use Rattle.redo_core.specs.Data.{CutData}
use Rattle.redo_core.proofs.Rising.{rising_by}
use Rattle.epoch_book.specs.Lows.{LowBefore}
use Rattle.epoch_book.proofs.Least.{parted_by}
use Rattle.epoch_book.proofs.lows.count_at.Goals as goal

pub returns-clause-parted : goal.returns-clause-parted
returns-clause-parted c =
    let lows = c.args.lows.now in let number = c.args.number in let i = c.partition_point.result in
    parted_by (λ y. y.lo) lows number i
    (IsPartitionPoint-from_clause (λ (y : CutData). leb y.lo number) lows i c.partition_point.ensures.partitioned
    (IsPartitionedBy-leb (λ (y : CutData). y.lo) lows number (rising_by LowBefore (λ y. y.lo) lows (λ x y b. b.1) c.requires))
    (λ a r q k. search rules))
