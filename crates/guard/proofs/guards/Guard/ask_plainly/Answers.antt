use Rattle.std.proofs.Common.{◌≡◌, inr, false, true, ap, sym, subst, refl, ◌∙◌}
use Rattle.replica.specs.Machine.{IsReply}
use Rattle.guard.specs.Data.{GuardData, around}
use Rattle.guard.proofs.guards.Guard.ask_plainly.Goals as goal

pub returns-clause-replies : goal.returns-clause-replies
returns-clause-replies c =
    inr (
      (λ both. let clash : false ≡ true = sym c.if-loses_segment.false ∙ c.loses_segment.ensures.1 both in absurd cc),
      ap (λ (g : GuardData). around g c.step.new.self) c.self.view_is,
      (
        c.step.result,
        subst (λ (g : GuardData). IsReply g.replica c.args.request c.step.result c.step.new.self) c.self.view_is c.step.ensures.replies,
        refl,
      ),
    )
