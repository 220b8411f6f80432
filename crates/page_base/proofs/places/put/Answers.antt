use Rattle.std.proofs.Common.{rules, arith}
use Rattle.std.proofs.lemmas.Grind.{common_steps}
use Rattle.page_base.proofs.Shown.{put_at, put_between}
use Rattle.page_base.proofs.places.put.Goals as goal

pub returns-in-Ok-clause-puts : goal.returns-in-Ok-clause-puts
returns-in-Ok-clause-puts c = grind (arith, common_steps, put_at)

pub returns-in-Ok-insert-clause-puts : goal.returns-in-Ok-insert-clause-puts
returns-in-Ok-insert-clause-puts c = search (rules, put_between)
