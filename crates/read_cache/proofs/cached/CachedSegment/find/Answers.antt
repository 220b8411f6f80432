use Rattle.std.proofs.Common.{rules}
use Rattle.read_cache.proofs.Current.{after_find, is_shown}
use Rattle.read_cache.proofs.Hits.{hit_of}
use Rattle.read_cache.proofs.cached.CachedSegment.find.Goals.{in-Some, in-None}
use Rattle.read_cache.proofs.cached.CachedSegment.find.Goals as goal

pub invariant_of-self : goal.invariant_of-self
invariant_of-self c = search (rules, after_find)

pub returns-clause-hit : goal.returns-clause-hit
returns-clause-hit c = elim c.match-find.branch [
  | in-Some w ↦ let i = c.self.inside in rw (← c.self.view_is, w.result-is)
      (hit_of _ c.args.page c.args.point w.in-Some.copied w.served.result
      (rw (← c.points.ensures.own) (c.is_reached.ensures c.if-not-is_reached.false))
      w.in-Some.ensures.found (is_shown i.segment i.top i.images.entries c.self.invariant c.args.page w.in-Some.ensures.found.0 w.in-Some.ensures.found.1)
      w.served.ensures.page w.served.ensures.memory)
  | in-None w ↦ rw w.result-is tt
]
