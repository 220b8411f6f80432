use Rattle.std.proofs.Common.{rules}
use Rattle.std.proofs.lemmas.List.Sorted.{answers_always}
use Rattle.log_law.proofs.Least.{reordered}
use Rattle.log_law.proofs.Judging.{key_order}
use Rattle.log_law.proofs.links.sort_by_key.Goals as goal

pub returns-clause-order : goal.returns-clause-order
returns-clause-order c = key_order c.sort_by_key.new.self.items
    (c.in_ok-sort_by_key.ensures.sorted (λ t. (t.epoch, t.number)) (answers_always _ _ _ (λ f a r g h. search rules)))

pub returns-clause-same : goal.returns-clause-same
returns-clause-same c log a = reordered log c.args.items.now.items c.sort_by_key.new.self.items c.sort_by_key.ensures.permutation a
