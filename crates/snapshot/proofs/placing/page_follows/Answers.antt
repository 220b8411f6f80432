use Rattle.std.proofs.Common.{refl, sym, subst}
use Rattle.std.proofs.lemmas.Bool.{false≢true}
use Rattle.snapshot.specs.Placing.{PageFollows}
use Rattle.snapshot.proofs.placing.page_follows.Goals as goal

pub returns-in-Head : goal.returns-in-Head
returns-in-Head c = (λ _. subst (λ content. PageFollows content c.args.image.now) (sym c.in-Head.is) tt, λ _. refl)

pub returns-in-Records : goal.returns-in-Records
returns-in-Records c = (
  λ h. absurd (false≢true h),
  λ follows. absurd (subst (λ content. PageFollows content c.args.image.now) c.in-Records.is follows),
)
