use Rattle.std.proofs.Common.{◌≡◌, ◌<◌, ◌∙◌, sym, arith}
use Rattle.std.proofs.lemmas.Bool.{ltb-true}
use Rattle.log_law.specs.Targets.{IsOfPage}
use Rattle.log_law.proofs.targets.is_candidate.Goals as goal
use Rattle.log_law.proofs.targets.is_candidate.Goals.{then-number, else-number}

pub returns-then-is_of_page : goal.returns-then-is_of_page
returns-then-is_of_page c log d b =
    let alive = c.is_alive.ensures log c.args.redo.now.epoch d b in
    let own : c.number.result ≡ c.args.other.now.number = c.number.ensures.value in
    let its : c.number-2.result ≡ c.args.redo.now.number = c.number-2.ensures.value in
    elim c.if-number.branch [
      | then-number w ↦
          (let page : IsOfPage c.args.page c.args.other.now = w.is_of_page.ensures.0 (sym w.value-is ∙ c.if-is_of_page.true) in
          let below = w.if-number.true in
          (λ t. (alive.0 t, page, omega arith), λ h. alive.1 h.0))
      | else-number w ↦ absurd (let l : c.number.result < c.number-2.result = ltb-true _ _ (sym w.value-is ∙ c.if-is_of_page.true) in let m = w.if-number.false in omega arith)
    ]
