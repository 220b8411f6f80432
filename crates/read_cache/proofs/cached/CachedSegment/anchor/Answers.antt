use Rattle.read_cache.proofs.cached.CachedSegment.anchor.Goals as goal

pub returns-clause-anchor : goal.returns-clause-anchor
returns-clause-anchor c = rw (← c.self.view_is) c.anchor.ensures.anchor
