use Rattle.std.proofs.Common.{◌≡◌, ◌+◌, ◌-◌, None, get_or, length, arith, sym, ◌∙◌, subst}
use Rattle.std.proofs.lemmas.Grind.{common_steps}
use Rattle.std.proofs.lemmas.List.{get_or_past}
use Rattle.log_law.specs.Counted.{first_cut}
use Rattle.log_law.proofs.FirstCuts.{is_begun, none_item}
use Rattle.log_law.proofs.counted.complete_epoch.Goals as goal

pub loop-epoch-preserved : goal.loop-epoch-preserved
loop-epoch-preserved c e l m q = grind (arith, common_steps)

pub returns-then-is_none : goal.returns-then-is_none
returns-then-is_none c log t =
    let none : get_or c.args.table.now c.loop-epoch.epoch None ≡ None = none_item c.args.table.now c.loop-epoch.epoch c.index-table-epoch.result
    (omega arith) c.index-table-epoch.is c.if-is_none.ensures in
    let back : c.loop-epoch.epoch ≡ c.loop-epoch.epoch - 1 + 1 = omega arith in
    is_begun log (c.loop-epoch.epoch - 1) (λ e l m q. c.loop-epoch.invariant e l (omega arith) (t.at e ∙ q))
    (subst (λ k. first_cut log k ≡ None) back (sym (t.at c.loop-epoch.epoch) ∙ none))

pub returns : goal.returns
returns c log t = is_begun log (length c.args.table.now - 1) (λ e l m q. c.loop-epoch.invariant e l (omega arith) (t.at e ∙ q))
    (sym (t.at (length c.args.table.now - 1 + 1)) ∙ get_or_past c.args.table.now (length c.args.table.now - 1 + 1) None (omega arith))
