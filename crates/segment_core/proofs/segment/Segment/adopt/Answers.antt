use Rattle.std.proofs.lemmas.Grind.{common_steps}
use Rattle.std.proofs.Common.{sym, ◌∙◌, ap, subst, max, arith}
use Rattle.redo_core.specs.Store.{Store}
use Rattle.page_base.specs.Adopting.{Adopts, StoresJust}
use Rattle.segment_theorems.specs.State.{State}
use Rattle.segment_core.proofs.segment.Segment.adopt.Goals as goal

pub returns-in-Ok-clause-adopts : goal.returns-in-Ok-clause-adopts
returns-in-Ok-clause-adopts c =
    let raised = c.raise_base.ensures in
    let own = ap (λ (s : State). s.store) c.self.view_is in
    let stored = λ (P : Store → Store → Type 0) (h : P c.self.inside.store c.adopt.new.self).
    subst (P c.args.self.now.store) (sym raised.store) (subst (λ (st : Store). P st c.adopt.new.self) own h) in record {
      book = raised.book ∙ ap (λ (s : State). s.book) c.self.view_is;
      held = raised.held ∙ ap (λ (s : State). s.held) c.self.view_is;
      base_is = raised.base_is ∙ ap (λ (s : State). max s.base c.args.base) c.self.view_is;
      store = stored (λ old new. Adopts old c.args.base c.args.pages.items new) c.in-Ok.ensures.adopts;
      listed = stored (λ old new. StoresJust old c.args.base c.args.pages.items new) c.in-Ok.ensures.listed;
    }

pub raise_base-requires : goal.raise_base-requires
raise_base-requires c = grind (arith, common_steps)

pub invariant_of-self : goal.invariant_of-self
invariant_of-self c = grind (arith, common_steps)

pub invariant_of-self-in-Err : goal.invariant_of-self-in-Err
invariant_of-self-in-Err c = grind (arith, common_steps)
