use Rattle.read_cache.proofs.Entries.{keeps}
use Rattle.read_cache.proofs.images.put.Goals as goal

pub returns-clause-keeps : goal.returns-clause-keeps
returns-clause-keeps c = keeps c.put.result c.args.cache.now c.put.new.self c.args.page c.args.kept c.put.ensures.entries c.put.ensures.err
