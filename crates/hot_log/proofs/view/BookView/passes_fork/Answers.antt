use Rattle.std.proofs.Common.{rules}
use Rattle.hot_log.proofs.view.BookView.passes_fork.Goals as goal

pub returns-else-forked : goal.returns-else-forked
returns-else-forked c = search rules
