use Rattle.std.proofs.Common.{◌≡◌, ◌<◌, ◌∙◌, None, Some, sym, refl, arith, true}
use Rattle.std.specs.Prelude.{nat_lt}
use Rattle.std.proofs.lemmas.Bool.{ltb-true, lt-ltb}
use Rattle.log_law.proofs.FirstCuts.{above_hi}
use Rattle.log_law.proofs.counted.CountedCuts.is_above_hi.Goals as goal

pub returns-in-Some : goal.returns-in-Some
returns-in-Some c log d =
    let cut = c.in-Some.cut in
    above_hi log c.args.epoch c.args.number (Some cut) (nat_lt c.hi.result c.args.number) (sym (d.table.at c.args.epoch) ∙ sym c.at.ensures ∙ c.in-Some.is) (
      λ t. (let l : c.hi.result < c.args.number = ltb-true _ _ t in let v : c.hi.result ≡ cut.hi = c.hi.ensures.value in omega arith),
      λ l. lt-ltb _ _
          (let v : c.hi.result ≡ cut.hi = c.hi.ensures.value in omega arith),
    )

pub returns-in-None : goal.returns-in-None
returns-in-None c log d = above_hi log c.args.epoch c.args.number None true (sym (d.table.at c.args.epoch) ∙ sym c.at.ensures ∙ c.in-None.is) refl
