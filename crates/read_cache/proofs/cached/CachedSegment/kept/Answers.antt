use Rattle.read_cache.proofs.Current.{is_shown}
use Rattle.read_cache.proofs.cached.CachedSegment.kept.Goals as goal

pub returns-clause-form : goal.returns-clause-form
returns-clause-form c = rw (← c.self.view_is) (record {
  within = c.len.ensures.within;
  one = c.len.ensures.one;
  shown = is_shown c.self.inside.segment c.self.inside.top c.self.inside.images.entries c.self.invariant;
})
