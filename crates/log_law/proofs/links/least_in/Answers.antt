use Rattle.std.proofs.Common.{◌++◌, ◌∷◌, [], take, get_or, sym, ◌∙◌, subst, refl, take_all}
use Rattle.log_law.specs.Alive.{stack_of}
use Rattle.log_law.specs.Links.{IsLeastBroken, JudgesItem, law_broken}
use Rattle.log_law.proofs.Least.{least_kept, zero_item, one_further, item_in}
use Rattle.log_law.proofs.links.least_in.Goals as goal
use Rattle.log_law.proofs.links.least_in.Goals.{in-Some, in_default}

pub loop-item-preserved : goal.loop-item-preserved
loop-item-preserved c log past h j =
    let xs = c.args.group.now in let i = c.loop-item.item-index in let t = get_or c.args.group.now c.loop-item.item-index zero_item in
    let more = one_further past xs i c.loop-item-test.true in
    let so_far = c.loop-item.invariant log past h j in
    let judged : JudgesItem log t (law_broken t (stack_of c.args.alive.now)) = j t (item_in xs i c.loop-item-test.true) in
    subst (λ ys. IsLeastBroken log ys c.match-broken_law.least) (sym more) (elim c.match-broken_law.branch [
      | in-Some w ↦ subst (IsLeastBroken log ((past ++ take i xs) ++ t ∷ [])) (sym w.least-is)
          (w.earlier-least.ensures log (past ++ take i xs) t refl so_far (subst (JudgesItem log t) (sym c.broken_law.ensures ∙ w.in-Some.is) judged))
      | in_default w ↦ subst (IsLeastBroken log ((past ++ take i xs) ++ t ∷ [])) (sym w.least-is)
          (least_kept log (past ++ take i xs) t c.loop-item.least so_far (subst (JudgesItem log t) (sym c.broken_law.ensures ∙ w.in_default.is) judged))
    ])

pub returns : goal.returns
returns c log past h j = subst (λ ys. IsLeastBroken log (past ++ ys) c.loop-item.least)
    (take_all c.loop-item.item-index c.args.group.now c.loop-item-test.false) (c.loop-item.invariant log past h j)
