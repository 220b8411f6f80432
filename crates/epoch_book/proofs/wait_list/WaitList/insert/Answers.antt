use Rattle.std.proofs.Common.{◌≡◌, drop, subst, OnOk}
use Rattle.std.specs.List.{insert}
use Rattle.epoch_book.proofs.Earlier.{inserted_behind}
use Rattle.epoch_book.proofs.wait_list.WaitList.insert.Goals as goal

pub returns-clause-ok : goal.returns-clause-ok
returns-clause-ok c =
    let n = c.self.inside.removed in let ys = c.put_in.new.list.items in
    subst (λ ws. OnOk c.put_in.result (drop n ys ≡ insert ws c.args.place c.args.advance)) c.self.view_is
    (inserted_behind c.put_in.result n c.self.inside.all.items ys c.args.place c.args.advance c.self.invariant c.put_in.ensures.items)
