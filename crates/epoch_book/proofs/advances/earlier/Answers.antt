use Rattle.std.proofs.Common.{ltb, rules}
use Rattle.std.proofs.lemmas.List.Sorted.{IsPartitionedBy-ltb, IsPartitionPoint-from_clause}
use Rattle.redo_core.specs.Data.{AdvanceData}
use Rattle.redo_core.specs.Order.{AdvanceBefore}
use Rattle.redo_core.proofs.Rising.{rising_by}
use Rattle.epoch_book.proofs.Earlier.{before_epoch, front_passes}
use Rattle.epoch_book.proofs.advances.earlier.Goals as goal

pub returns : goal.returns
returns c =
    let ws = c.args.waits.now in let epoch = c.args.epoch in let i = c.partition_point-count.result in
    front_passes (λ (a : AdvanceData). ltb a.epoch epoch) ws i
    (IsPartitionPoint-from_clause (λ (a : AdvanceData). ltb a.epoch epoch) ws i c.partition_point-count.ensures.partitioned
    (IsPartitionedBy-ltb (λ (a : AdvanceData). a.epoch) ws epoch (rising_by AdvanceBefore (λ a. a.epoch) ws before_epoch c.requires))
    (λ a r q k. search rules))
