use Rattle.std.proofs.lemmas.Bool.{ltb-false}
use Rattle.std.proofs.Math.Dec.{ltb}
use Rattle.read_cache.proofs.Current.{unless_stale, after_discard}
use Rattle.read_cache.proofs.cached.CachedSegment.discard.Goals as goal

pub invariant_of-self : goal.invariant_of-self
invariant_of-self c = let i = c.self.inside in
    unless_stale c.discard.new.self (ltb c.front.result.complete i.top) i.images c.clear_if.new.images i.top c.clear_if.new.top
    c.clear_if.ensures.cleared c.clear_if.ensures.same
    (λ fresh. after_discard i.segment c.discard.new.self i.top c.front.result.complete i.images.entries c.discard.ensures.discards
    c.front.ensures.own.complete (ltb-false c.front.result.complete i.top fresh) c.self.invariant)

pub returns-clause-discards : goal.returns-clause-discards
returns-clause-discards c = rw (← c.self.view_is) c.discard.ensures.discards

pub returns-clause-keeps : goal.returns-clause-keeps
returns-clause-keeps c = rw (← c.self.view_is) c.discard.ensures.keeps
