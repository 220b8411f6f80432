use Rattle.segment_theorems.proofs.Knowing.{unchanged_exactly, no_conflict}
use Rattle.segment_core.proofs.Taking.{take_tells, take_sound}
use Rattle.segment_core.proofs.segment.Segment.take.Goals as goal

pub returns-clause-tells : goal.returns-clause-tells
returns-clause-tells c = take_tells unchanged_exactly c.args.self.now c.args.fact c.take_fact.result c.take_fact.ensures.known

pub returns-clause-sound : goal.returns-clause-sound
returns-clause-sound c = take_sound no_conflict c.args.self.now c.args.fact c.take_fact.result c.take_fact.ensures.refused

pub returns-clause-known : goal.returns-clause-known
returns-clause-known c = c.take_fact.ensures.known

pub returns-clause-stores : goal.returns-clause-stores
returns-clause-stores c = c.take_fact.ensures.stores
