use Rattle.std.proofs.lemmas.Grind.{common_steps}
use Rattle.std.proofs.Common.{subst, arith}
use Rattle.page_base.specs.Stored.{store_of}
use Rattle.page_base.specs.Merging.{Merges}
use Rattle.page_base.proofs.Merged.{merges_of}
use Rattle.page_base.proofs.merging.merge.Goals as goal

pub returns-clause-merges : goal.returns-clause-merges
returns-clause-merges c =
    subst (λ images. Merges (store_of images c.args.own) c.args.floor c.args.given.items (store_of c.raise_floor.new.images.items c.raise_floor.result))
    c.reserve.ensures.items
    (merges_of c.args.floor c.args.given.items (store_of c.reserve.new.self.items c.args.own) (store_of c.raise_all.new.images.items c.args.own)
    (store_of c.raise_floor.new.images.items c.raise_floor.result) c.raise_all.ensures.raises c.raise_floor.ensures.adopts c.raise_floor.ensures.listed)

pub raise_all-requires-clause-stored : goal.raise_all-requires-clause-stored
raise_all-requires-clause-stored c = grind (arith, common_steps)

pub raise_all-requires-clause-room : goal.raise_all-requires-clause-room
raise_all-requires-clause-room c = grind (arith, common_steps)
