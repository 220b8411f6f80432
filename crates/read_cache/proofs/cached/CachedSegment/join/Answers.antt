use Rattle.read_cache.proofs.cached.CachedSegment.join.Goals as goal

pub returns-in-Err-clause-refused : goal.returns-in-Err-clause-refused
returns-in-Err-clause-refused c = rw (← c.self.view_is) c.in-Err.ensures.refused
