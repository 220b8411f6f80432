use Rattle.std.proofs.Common.{◌<◌, leb, arith, rules}
use Rattle.std.proofs.lemmas.List.Sorted.{IsPartitionedBy-leb, IsPartitionPoint-from_clause}
use Rattle.redo_core.specs.Data.{CutData}
use Rattle.redo_core.proofs.Rising.{rising_by}
use Rattle.epoch_book.specs.Lows.{LowBefore}
use Rattle.epoch_book.proofs.Least.{parted_by}
use Rattle.epoch_book.proofs.lows.count_to.Goals as goal

pub returns-clause-parted : goal.returns-clause-parted
returns-clause-parted c =
    let lows = c.args.lows.now in let epoch = c.args.epoch in let i = c.partition_point.result in
    parted_by (λ y. y.epoch) lows epoch i
    (IsPartitionPoint-from_clause (λ (y : CutData). leb y.epoch epoch) lows i c.partition_point.ensures.partitioned
    (IsPartitionedBy-leb (λ (y : CutData). y.epoch) lows epoch (rising_by LowBefore (λ y. y.epoch) lows (λ x y b. let t : x.epoch < y.epoch = b.0 in omega arith) c.requires))
    (λ a r q k. search rules))
