use Rattle.std.proofs.Common.{rules}
use Rattle.std.proofs.lemmas.Fn.{filter_same}
use Rattle.page_base.proofs.Adoption.{is_new, floor_adopts, floor_stores, floor_keeps}
use Rattle.page_base.proofs.adopting.raise_floor.Goals as goal

pub returns-clause-adopts : goal.returns-clause-adopts
returns-clause-adopts c =
    floor_adopts c.args.images.now.items c.retain.new.self.items c.args.floor c.args.base c.max.result c.requires
    (filter_same _ (is_new c.args.base) _ (λ x r f' k. search rules) _ _ c.retain.ensures.filtered) c.max.ensures

pub returns-clause-form : goal.returns-clause-form
returns-clause-form c =
    floor_keeps c.args.images.now.items c.retain.new.self.items c.args.floor c.args.base c.max.result c.requires
    (filter_same _ (is_new c.args.base) _ (λ x r f' k. search rules) _ _ c.retain.ensures.filtered) c.max.ensures

pub returns-clause-listed : goal.returns-clause-listed
returns-clause-listed c =
    floor_stores c.args.images.now.items c.retain.new.self.items c.args.floor c.args.base c.max.result
    (filter_same _ (is_new c.args.base) _ (λ x r f' k. search rules) _ _ c.retain.ensures.filtered)
