use Rattle.read_cache.proofs.cached.CachedSegment.absorb.Goals as goal

pub returns-in-Ok-clause-means : goal.returns-in-Ok-clause-means
returns-in-Ok-clause-means c = rw (← c.self.view_is) c.in-Ok.ensures.means

pub returns-in-Ok-clause-answers : goal.returns-in-Ok-clause-answers
returns-in-Ok-clause-answers c = rw (← c.self.view_is) c.in-Ok.ensures.answers
