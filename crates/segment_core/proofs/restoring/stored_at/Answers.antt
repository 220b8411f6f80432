use Rattle.std.proofs.Common.{subst}
use Rattle.page_base.specs.Adopting.{Adopts, StoresJust}
use Rattle.segment_theorems.specs.State.{Store}
use Rattle.segment_core.proofs.restoring.stored_at.Goals as goal

pub returns-in-Ok-clause-adopts : goal.returns-in-Ok-clause-adopts
returns-in-Ok-clause-adopts c = subst (λ (old : Store). Adopts old c.args.base c.args.pages.items c.adopt.new.self) c.new-store.ensures c.in-Ok.ensures.adopts

pub returns-in-Ok-clause-listed : goal.returns-in-Ok-clause-listed
returns-in-Ok-clause-listed c = subst (λ (old : Store). StoresJust old c.args.base c.args.pages.items c.adopt.new.self) c.new-store.ensures c.in-Ok.ensures.listed
