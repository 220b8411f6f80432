use Rattle.std.proofs.Common.{arith}
use Rattle.std.proofs.lemmas.Grind.{common_steps}
use Rattle.read_cache.proofs.Current.{unless_stale, after_take}
use Rattle.read_cache.proofs.cached.CachedSegment.take.Goals as goal

pub invariant_of-self : goal.invariant_of-self
invariant_of-self c = let t = c.take-taken in
    unless_stale t.new.self c.is_stale-stale.result c.self.inside.images c.clear_if.new.images c.self.inside.top c.clear_if.new.top
    c.clear_if.ensures.cleared c.clear_if.ensures.same
    (λ fresh. after_take c.self.inside.segment t.new.self c.args.fact c.self.inside.top c.self.inside.images.entries c.touches-touched.result
    c.is_stale-stale.result t.result c.touches-touched.ensures c.is_stale-stale.ensures t.ensures.stores t.ensures.idle t.ensures.unchanged fresh c.self.invariant)

pub returns-clause-takes : goal.returns-clause-takes
returns-clause-takes c =
    rw (← c.self.view_is) (let e = c.take-taken.ensures in record {
      means = e.means;
      known = e.known;
      stores = e.stores;
      idle = e.idle;
      refuses = e.refuses;
      refused = e.refused;
      memory = e.memory;
      back = e.back;
      unchanged = e.unchanged;
    })

pub returns-clause-sound : goal.returns-clause-sound
returns-clause-sound c = grind (arith, common_steps)

pub returns-clause-drops : goal.returns-clause-drops
returns-clause-drops c = grind (arith, common_steps)

pub returns-clause-idle : goal.returns-clause-idle
returns-clause-idle c = grind (arith, common_steps)

pub returns-clause-pages : goal.returns-clause-pages
returns-clause-pages c = grind (arith, common_steps)

pub returns-clause-tells : goal.returns-clause-tells
returns-clause-tells c = grind (arith, common_steps)
