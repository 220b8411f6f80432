use Rattle.std.proofs.lemmas.Grind.{common_steps}
use Rattle.std.proofs.Common.{subst, arith}
use Rattle.redo_core.specs.Store.{PutsImage}
use Rattle.page_base.proofs.Shown.{above_from, put_raises, put_keeps}
use Rattle.page_base.proofs.places.raise.Goals as goal

pub returns-in-Ok-clause-raises : goal.returns-in-Ok-clause-raises
returns-in-Ok-clause-raises c = grind (arith, common_steps, put_raises)

pub returns-in-Ok-clause-form : goal.returns-in-Ok-clause-form
returns-in-Ok-clause-form c =
    let old = c.args.images.now.items in let new = c.put.new.images.items in
    put_keeps old new c.args.floor c.args.page c.args.version c.args.image c.requires
    (subst (λ image. PutsImage old image new) c.new.ensures c.in-Ok.ensures.puts)
    (above_from c.deref.result.now old c.args.floor c.args.page c.args.version c.version_in.result c.deref.ensures.value c.version_in.ensures
    c.if-version-version_in.false)

pub returns-then-version-version_in-clause-raises : goal.returns-then-version-version_in-clause-raises
returns-then-version-version_in-clause-raises c = grind (arith, common_steps)

pub returns-in-Err-clause-form : goal.returns-in-Err-clause-form
returns-in-Err-clause-form c = grind (arith, common_steps)
