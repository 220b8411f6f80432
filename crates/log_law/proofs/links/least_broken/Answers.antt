use Rattle.std.proofs.Common.{◌≡◌, ◌<◌, ◌-◌, List, take, drop, get_or, length, arith, ◌∙◌, subst}
use Rattle.std.proofs.lemmas.List.{take_all}
use Rattle.redo_core.proofs.SoundFacts.{cut_facts}
use Rattle.log_law.specs.Alive.{HoldsAlive}
use Rattle.log_law.specs.Links.{IsLeastBroken}
use Rattle.log_law.specs.declared.links.Item.{Item}
use Rattle.log_law.proofs.Least.{zero_item}
use Rattle.log_law.proofs.Judging.{IsGroup, judged, can_push}
use Rattle.log_law.proofs.Walking.{is_group, walked_group}
use Rattle.log_law.proofs.links.least_broken.Goals as goal

pub loop-start-preserved : goal.loop-start-preserved
loop-start-preserved c = record {
  within = c.group_end-end.ensures.within;
  stack = c.in_ok-push_all.ensures.stack;
  walked = λ log d are order.
      let items = c.args.items.now in let start = c.loop-start.start in let stop = c.group_end-end.result in
      let past : List Item = take c.loop-start.start c.args.items.now in
      let group : List Item = take (c.group_end-end.result - c.loop-start.start) (drop c.loop-start.start c.args.items.now) in
      let w = c.loop-start.invariant.walked log d are order in
      let inside : c.loop-start.start < length c.args.items.now = c.loop-start-test.true in
      let view : c.enter.new.self.view ≡ (get_or c.args.items.now c.loop-start.start zero_item).epoch = c.enter.ensures.view
      (w.view start zero_item (omega arith) inside) in
      let holds : HoldsAlive log past c.enter.new.self = c.enter.ensures.holds log past d w.holds in
      let g : IsGroup log items past group c.enter.new.self = is_group log items start stop c.loop-start.alive c.enter.new.self c.loop-start.least
      (λ e m. (cut_facts e (d.table.shapes e m)).1) are order w inside c.group_end-end.ensures.after c.group_end-end.ensures.within
      c.group_end-end.ensures.same holds view in
      walked_group log items start stop c.loop-start.alive c.push_all.new.alive c.loop-start.least c.least_in-least.result order w inside
      c.group_end-end.ensures.after c.group_end-end.ensures.within c.group_end-end.ensures.same c.group_end-end.ensures.apart
      (c.in_ok-push_all.ensures.holds log past holds (can_push log items past group c.enter.new.self g))
      (c.push_all.ensures.view ∙ view)
      (c.least_in-least.ensures log past w.broken (λ t m. judged log items past group c.enter.new.self g t m));
}

pub returns : goal.returns
returns c log d are order =
    let w = c.loop-start.invariant.walked log d are order in
    subst (λ xs. IsLeastBroken log xs c.loop-start.least) (take_all c.loop-start.start c.args.items.now c.loop-start-test.false) w.broken
