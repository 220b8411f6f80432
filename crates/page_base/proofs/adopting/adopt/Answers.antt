use Rattle.std.proofs.lemmas.Grind.{common_steps}
use Rattle.std.proofs.Common.{subst, arith}
use Rattle.page_base.specs.Stored.{store_of}
use Rattle.page_base.specs.Adopting.{StoresJust}
use Rattle.page_base.proofs.Merged.{adopts_just}
use Rattle.page_base.proofs.adopting.adopt.Goals as goal

pub returns-clause-listed : goal.returns-clause-listed
returns-clause-listed c =
    subst (λ images. StoresJust (store_of images c.args.floor) c.args.base c.args.pages.items (store_of c.raise_floor.new.images.items c.raise_floor.result))
    c.reserve.ensures.items
    (adopts_just c.args.base c.args.pages.items (store_of c.reserve.new.self.items c.args.floor) (store_of c.raise_each.new.images.items c.args.floor)
    (store_of c.raise_floor.new.images.items c.raise_floor.result) c.raise_each.ensures.each c.raise_floor.ensures.listed)

pub raise_each-requires-clause-stored : goal.raise_each-requires-clause-stored
raise_each-requires-clause-stored c = grind (arith, common_steps)

pub raise_each-requires-clause-room : goal.raise_each-requires-clause-room
raise_each-requires-clause-room c = grind (arith, common_steps)
