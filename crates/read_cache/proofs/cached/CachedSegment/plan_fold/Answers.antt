use Rattle.read_cache.proofs.cached.CachedSegment.plan_fold.Goals as goal

pub returns-clause-result : goal.returns-clause-result
returns-clause-result c = rw (← c.self.view_is) c.plan_fold.ensures.result
