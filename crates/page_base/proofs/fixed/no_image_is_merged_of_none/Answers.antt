use Rattle.std.proofs.Common.{arith}
use Rattle.std.proofs.lemmas.Grind.{common_steps}
use Rattle.page_base.proofs.Stores.{none_merged}
use Rattle.page_base.proofs.fixed.no_image_is_merged_of_none.Goals as goal

pub returns : goal.returns
returns c = grind (arith, common_steps, none_merged c.args.store.now.images c.args.images.items c.merge.new.self.images)
