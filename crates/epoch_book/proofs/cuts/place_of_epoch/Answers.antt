use Rattle.std.proofs.Common.{rules}
use Rattle.std.proofs.lemmas.List.Sorted.{answers_always}
use Rattle.epoch_book.proofs.Places.{epoch_found, epoch_absent}
use Rattle.epoch_book.proofs.cuts.place_of_epoch.Goals as goal

pub returns-clause-found : goal.returns-clause-found
returns-clause-found c = epoch_found c.args.cuts.now c.args.epoch c.binary_search_by_key.result c.binary_search_by_key.ensures.bound
    (c.binary_search_by_key.ensures.position (λ cut. cut.epoch) (answers_always _ _ _ (λ f a r g called. search rules)))

pub returns-clause-absent : goal.returns-clause-absent
returns-clause-absent c = epoch_absent c.args.cuts.now c.args.epoch c.binary_search_by_key.result c.requires c.binary_search_by_key.ensures.bound
    (c.binary_search_by_key.ensures.position (λ cut. cut.epoch) (answers_always _ _ _ (λ f a r g called. search rules)))
