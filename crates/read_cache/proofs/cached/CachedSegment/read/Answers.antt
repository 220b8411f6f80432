use Rattle.std.proofs.Common.{rules}
use Rattle.read_cache.proofs.Hits.{hit_result, hit_outside, hit_broken}
use Rattle.read_cache.proofs.cached.CachedSegment.read.Goals as goal

pub returns-in-Some-clause-result : goal.returns-in-Some-clause-result
returns-in-Some-clause-result c = hit_result c.args.self.now c.args.page c.args.point c.in-Some.answer c.in-Some.ensures.hit

pub returns-in-Some-clause-outside : goal.returns-in-Some-clause-outside
returns-in-Some-clause-outside c = hit_outside c.args.self.now c.args.page c.args.point c.in-Some.answer c.in-Some.ensures.hit

pub returns-in-Some-clause-broken : goal.returns-in-Some-clause-broken
returns-in-Some-clause-broken c = hit_broken c.args.self.now c.args.page c.args.point c.in-Some.answer c.in-Some.ensures.hit

pub returns-in-None-clause-result : goal.returns-in-None-clause-result
returns-in-None-clause-result c = rw (← c.find.ensures.segment) c.read_anew.ensures.result

pub returns-in-None-clause-outside : goal.returns-in-None-clause-outside
returns-in-None-clause-outside c = rw (← c.find.ensures.segment) c.read_anew.ensures.outside

pub returns-in-None-clause-broken : goal.returns-in-None-clause-broken
returns-in-None-clause-broken c = rw (← c.find.ensures.segment) (record { only = λ g n. (c.read_anew.ensures.broken g n).0; unkept = λ _. c.read_anew.ensures.broken })

pub returns-in-None-clause-own : goal.returns-in-None-clause-own
returns-in-None-clause-own c = search rules
