use Rattle.std.proofs.Common.{rules, nat_le}
use Rattle.std.proofs.lemmas.List.Sorted.{IsPartitionPoint-from_clause}
use Rattle.redo_core.specs.Store.{StoredImage}
use Rattle.segment_core.proofs.NextPage.{parted, begins_above}
use Rattle.segment_core.proofs.exported_pages.place_above.Goals as goal

pub returns : goal.returns
returns c =
    let page = c.args.page in let images = c.args.images.now in
    let point = IsPartitionPoint-from_clause (λ (i : StoredImage). nat_le i.page page) images c.partition_point.result c.partition_point.ensures.partitioned
    (parted page images c.requires) (λ a r q k. search rules) in
    begins_above page images c.partition_point.result c.partition_point.ensures.bound point
