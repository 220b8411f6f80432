use Rattle.std.proofs.Common.{refl}
use Rattle.script_text.proofs.LineWords.{step_explained}
use Rattle.script_text.proofs.script.step_at.Goals as goal

pub returns-in-Err-clause-reason : goal.returns-in-Err-clause-reason
returns-in-Err-clause-reason c = (refl, step_explained c.args.facts c.args.line.now c.in-Err.reason c.or_return.result c.in-Err.ensures.reason c.or_return.ensures)
