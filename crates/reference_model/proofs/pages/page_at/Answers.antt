use Rattle.std.proofs.lemmas.Grind.{common_steps}
use Rattle.std.proofs.Common.{rules, arith}
use Rattle.reference_model.proofs.PageSteps.{page_step, page_end, once_if_sound}
use Rattle.reference_model.proofs.pages.page_at.Goals as goal

pub loop-redo-init : goal.loop-redo-init
loop-redo-init c once = search rules

pub loop-redo-smaller : goal.loop-redo-smaller
loop-redo-smaller c = search rules

pub loop-redo-preserved : goal.loop-redo-preserved
loop-redo-preserved c once = search (rules, page_step)

pub returns-clause-page : goal.returns-clause-page
returns-clause-page c once = grind (arith, common_steps, page_end)

pub returns-clause-sound : goal.returns-clause-sound
returns-clause-sound c roster log sound part has = page_end c.args.facts.now c.args.view c.args.page c.args.point c.loop-redo.from c.loop-redo.image
    c.in_default.ensures (c.loop-redo.invariant (once_if_sound roster log c.args.facts.now c.args.view c.args.page c.args.point sound part has))
