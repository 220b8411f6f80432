use Rattle.std.proofs.lemmas.Grind.{common_steps}
use Rattle.std.proofs.Common.{subst, arith}
use Rattle.redo_core.specs.Store.{Store}
use Rattle.page_base.specs.Stored.{store_of}
use Rattle.page_base.specs.Adopting.{StoresJust}
use Rattle.page_base.proofs.store.BaseStore.adopt.Goals as goal

pub returns-in-Ok-clause-listed : goal.returns-in-Ok-clause-listed
returns-in-Ok-clause-listed c =
    subst (λ (s : Store). StoresJust s c.args.base c.args.pages.items (store_of c.adopt.new.images.items c.in-Ok.floor)) c.self.view_is c.in-Ok.ensures.listed

pub returns-in-Err-clause-form : goal.returns-in-Err-clause-form
returns-in-Err-clause-form c = grind (arith, common_steps)

pub invariant_of-self-in-Err : goal.invariant_of-self-in-Err
invariant_of-self-in-Err c = grind (arith, common_steps)
