use Rattle.std.proofs.Common.{◌≡◌, ◌++◌, take, get_or, sym, ◌∙◌, subst, refl, take_all}
use Rattle.std.specs.List.{Contains}
use Rattle.log_law.specs.Alive.{stack_of, page_top, HoldsAlive}
use Rattle.log_law.proofs.Entered.{holds_push, top_or_below}
use Rattle.log_law.proofs.Least.{zero_item, one_further, item_in}
use Rattle.redo_core.specs.Standing.{IsAlive}
use Rattle.redo_core.specs.Sound.{counted}
use Rattle.log_law.proofs.links.push_all.Goals as goal

pub loop-item-preserved : goal.loop-item-preserved
loop-item-preserved c =
    let xs = c.args.group.now in let i = c.loop-item.item-index in let t = get_or c.args.group.now c.loop-item.item-index zero_item in
    let view : c.loop-item.alive.view ≡ c.args.alive.now.view = c.loop-item.invariant.view in
    let among : Contains c.args.group.now t = item_in xs i c.loop-item-test.true in
    record {
      view = c.push.ensures.view ∙ c.loop-item.invariant.view;
      stack = c.in_ok-push.ensures.stack;
      holds = λ log past h f.
          subst (λ ys. HoldsAlive log ys c.push.new.self) (sym (one_further past xs i c.loop-item-test.true))
          (holds_push log (past ++ take i xs) c.loop-item.alive c.push.new.self t
          (record { number = t.number; page = t.page; beneath = page_top t.page (stack_of c.loop-item.alive) }) refl refl
          c.in_ok-push.ensures.stack c.push.ensures.view c.in_ok-push.ensures.top
          (subst (λ v. IsAlive (counted log) v t.epoch t.number) (sym view) (f.alive t among))
          (λ y m. c.loop-item.invariant.above log f t y among m)
          (c.loop-item.invariant.holds log past h f));
      above = λ log f u x hu hx. top_or_below log c.args.group.now c.args.alive.now f t u among hu
          (stack_of c.loop-item.alive) (stack_of c.push.new.self) (page_top t.page (stack_of c.loop-item.alive)) c.in_ok-push.ensures.top
          (λ y m. c.loop-item.invariant.above log f u y hu m) x hx;
    }

pub returns-clause-holds : goal.returns-clause-holds
returns-clause-holds c log past h f = subst (λ ys. HoldsAlive log (past ++ ys) c.loop-item.alive)
    (take_all c.loop-item.item-index c.args.group.now c.loop-item-test.false) (c.loop-item.invariant.holds log past h f)
