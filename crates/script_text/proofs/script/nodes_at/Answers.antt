use Rattle.std.proofs.Common.{refl}
use Rattle.script_text.proofs.LineWords.{nodes_explained}
use Rattle.script_text.proofs.script.nodes_at.Goals as goal

pub returns-in-Err-clause-reason : goal.returns-in-Err-clause-reason
returns-in-Err-clause-reason c = (refl, nodes_explained c.args.line.now c.in-Err.reason c.or_return.result c.in-Err.ensures.reason c.or_return.ensures)
