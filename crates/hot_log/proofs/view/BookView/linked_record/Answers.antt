use Rattle.std.proofs.Common.{rules}
use Rattle.hot_log.proofs.Chain.{only_linked}
use Rattle.hot_log.proofs.view.BookView.linked_record.Goals as goal

pub returns-then-is_linked : goal.returns-then-is_linked
returns-then-is_linked c = search (rules, only_linked)
