use Rattle.read_cache.proofs.cached.CachedSegment.front.Goals as goal

pub returns-clause-front : goal.returns-clause-front
returns-clause-front c = rw (← c.self.view_is) c.front.ensures.front

pub returns-clause-own : goal.returns-clause-own
returns-clause-own c = rw (← c.self.view_is) c.front.ensures.own
