use Rattle.read_cache.proofs.Hits.{covered_by}
use Rattle.read_cache.proofs.cached.CachedSegment.read_anew.Goals as goal

pub keep-requires : goal.keep-requires
keep-requires c = rw (← c.self.view_is) (record {
  shown = record {
    shown = rw c.in-Ok.is at c.read-answer.ensures.own;
    covered = covered_by c.self.inside.segment c.args.point c.in-Ok.image c.read-answer.result c.in-Ok.is c.read-answer.ensures.outside;
  };
})

pub returns-in-Ok-clause-result : goal.returns-in-Ok-clause-result
returns-in-Ok-clause-result c = rw (← c.self.view_is) c.read-answer.ensures.result

pub returns-in-Ok-clause-outside : goal.returns-in-Ok-clause-outside
returns-in-Ok-clause-outside c = rw (← c.self.view_is) c.read-answer.ensures.outside

pub returns-in-Ok-clause-broken : goal.returns-in-Ok-clause-broken
returns-in-Ok-clause-broken c = rw (← c.self.view_is) c.read-answer.ensures.broken

pub returns-in_default-clause-result : goal.returns-in_default-clause-result
returns-in_default-clause-result c = rw (← c.self.view_is) c.read-answer.ensures.result

pub returns-in_default-clause-outside : goal.returns-in_default-clause-outside
returns-in_default-clause-outside c = rw (← c.self.view_is) c.read-answer.ensures.outside

pub returns-in_default-clause-broken : goal.returns-in_default-clause-broken
returns-in_default-clause-broken c = rw (← c.self.view_is) c.read-answer.ensures.broken
