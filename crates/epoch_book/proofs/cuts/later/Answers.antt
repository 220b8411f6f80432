use Rattle.std.proofs.Common.{◌-◌, leb, ltb, length, drop, ◌∙◌, arith, rules}
use Rattle.std.proofs.lemmas.List.{take_all, length-drop}
use Rattle.std.proofs.lemmas.Bool.Decides.{nat_tests}
use Rattle.std.proofs.lemmas.List.Sorted.{IsPartitionedBy-leb, IsPartitionPoint-from_clause}
use Rattle.redo_core.specs.Data.{CutData}
use Rattle.redo_core.specs.Order.{CutBefore}
use Rattle.redo_core.proofs.Rising.{rising_by}
use Rattle.epoch_book.proofs.Earlier.{rest_passes}
use Rattle.epoch_book.proofs.cuts.later.Goals as goal

pub returns : goal.returns
returns c =
    let cs = c.args.cuts.now in let epoch = c.args.epoch in let i = c.partition_point-count.result in
    take_all (length cs - i) (drop i cs) (omega (arith, length-drop i cs))
    ∙ rest_passes CutBefore (λ (x : CutData). leb x.epoch epoch) (λ x. ltb epoch x.epoch) cs i
    (λ x y before off. grind (arith, nat_tests))
    (λ x on. grind (arith, nat_tests))
    (λ x off. grind (arith, nat_tests))
    c.requires
    c.partition_point-count.ensures.bound
    (IsPartitionPoint-from_clause (λ (x : CutData). leb x.epoch epoch) cs i c.partition_point-count.ensures.partitioned
    (IsPartitionedBy-leb (λ (x : CutData). x.epoch) cs epoch (rising_by CutBefore (λ x. x.epoch) cs (λ x y b. omega (arith, b)) c.requires))
    (λ a r q k. search rules))
