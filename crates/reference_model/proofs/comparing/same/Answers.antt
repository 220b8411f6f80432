use Rattle.std.proofs.Common.{IsTrue, IfOk, Result, subst, rules}
use Rattle.log_theorems.specs.OrderOfMeanings.{Covers}
use Rattle.reference_model.proofs.Coverings.{one_meaning, covers_itself}
use Rattle.reference_model.proofs.comparing.same.Goals as goal

if_ok : {A E : Type 0} (P Q : A → Type 0) (r : Result A E) → ((a : A) → P a → Q a) → IfOk r P → IfOk r Q
if_ok P Q r h p = search rules

pub returns-then-not-branch : goal.returns-then-not-branch
returns-then-not-branch c = λ log x y sound part other means_x means_y. (
  λ h. absurd (cc),
  λ e. let up : Covers x y = subst (λ m. Covers x m) e (covers_itself c.args.roster log c.args.facts.now x sound part means_x) in
      let t : IsTrue c.in_ok-covers.field-0 = (c.in_ok-covers.ensures y x means_y means_x).1 up in cc,
)

pub returns : goal.returns
returns c = if_ok _ _ c.covers-2.result
    (λ one second log x y sound part other means_x means_y.
    let first : Covers x y = (c.in_ok-covers.ensures y x means_y means_x).0 (let t : IsTrue c.in_ok-covers.field-0 = cc in t) in (
      λ t. one_meaning c.args.roster log c.args.facts.now c.args.others.now x y sound part other means_x means_y first ((second x y means_x means_y).0 t),
      λ e. (second x y means_x means_y).1 (subst (λ m. Covers m x) e (covers_itself c.args.roster log c.args.facts.now x sound part means_x)),
    ))
    c.covers-2.ensures
