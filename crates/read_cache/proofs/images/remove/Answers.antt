use Rattle.read_cache.proofs.Entries.{forgets}
use Rattle.read_cache.proofs.images.remove.Goals as goal

pub returns-clause-forgets : goal.returns-clause-forgets
returns-clause-forgets c = λ e at.
    forgets c.args.page c.args.cache.now.entries c.len-length.ensures.valid.0 e (rw c.pop.ensures.entries at at)
