use Rattle.std.proofs.Common.{◌≤◌, ◌<◌, ◌⊎◌, ⊎_elim, arith}
use Rattle.std.proofs.lemmas.Bool.Decides.{nat_tests}
use Rattle.reference_model.proofs.CountedCuts.{begun, not_begun}
use Rattle.reference_model.proofs.faults.is_begun.Goals as goal

pub returns : goal.returns
returns c =
    let log = c.args.log.now in let k = c.complete_epoch.result in let e = c.args.epoch in (
      λ t. begun log k e c.complete_epoch.ensures (let l : e ≤ k = grind (arith, nat_tests) in l),
      λ has. ⊎_elim (λ (l : e ≤ k). grind (arith, nat_tests)) (λ (l : k < e). absurd (not_begun log k e c.complete_epoch.ensures l has))
          (let s : (e ≤ k) ⊎ (k < e) = grind arith in s),
    )
