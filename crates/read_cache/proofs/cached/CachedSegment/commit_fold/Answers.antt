use Rattle.std.proofs.Common.{arith}
use Rattle.std.proofs.lemmas.Grind.{common_steps}
use Rattle.read_cache.proofs.Current.{after_commit}
use Rattle.read_cache.proofs.cached.CachedSegment.commit_fold.Goals as goal

pub invariant_of-self : goal.invariant_of-self
invariant_of-self c = let i = c.self.inside in
    after_commit i.segment c.commit_fold.new.self c.args.folded i.top i.images c.forget.new.self c.in-Ok.ensures.commits c.forget.ensures.forgets c.self.invariant

pub returns-in-Ok-clause-commits : goal.returns-in-Ok-clause-commits
returns-in-Ok-clause-commits c = rw (← c.self.view_is) c.in-Ok.ensures.commits

pub returns-in-Ok-clause-keeps : goal.returns-in-Ok-clause-keeps
returns-in-Ok-clause-keeps c = rw (← c.self.view_is) c.in-Ok.ensures.keeps

pub invariant_of-self-in-Err : goal.invariant_of-self-in-Err
invariant_of-self-in-Err c = rw c.in-Err.ensures.unchanged c.self.invariant

pub returns-in-Err-clause-refused : goal.returns-in-Err-clause-refused
returns-in-Err-clause-refused c = grind (arith, common_steps)

pub returns-in-Ok-clause-ahead : goal.returns-in-Ok-clause-ahead
returns-in-Ok-clause-ahead c = grind (arith, common_steps)
