use Rattle.std.proofs.Common.{◌++◌, ◌∷◌, [], set, reverse, sym, ap, ◌∙◌}
use Rattle.log_law.specs.Alive.{stack_of, page_top}
use Rattle.log_law.specs.declared.alive.Entry.{Entry}
use Rattle.log_law.proofs.Tops.{on_top, stack_pushed}
use Rattle.log_law.proofs.alive.AliveRecords.push.Goals as goal

pub returns-clause-stack : goal.returns-clause-stack
returns-clause-stack c =
    let x : Entry = record { number = c.args.number; page = c.args.page; beneath = c.top_of-beneath.result } in
    let same = ap (λ v. v.items) c.in_ok-reach.ensures.entries in
    stack_pushed c.reach.new.self _ x c.in_ok-reach.ensures.stack c.in_ok-reach.ensures.reached
    (c.top_of-beneath.ensures ∙ sym (ap (λ v. page_top c.args.page (reverse v)) same)) c.in_ok-push.ensures.items
    (ap (λ i. set c.reach.new.self.page_tops.items i c.args.number) c.from.ensures)

pub returns-clause-top : goal.returns-clause-top
returns-clause-top c =
    let old = c.args.self.now.entries.items in
    let x : Entry = record { number = c.args.number; page = c.args.page; beneath = page_top c.args.page (stack_of c.args.self.now) } in
    on_top old c.push.new.self.items x (c.in_ok-push.ensures.items
    ∙ ap (λ v. v.items ++ record { number = c.args.number; page = c.args.page; beneath = c.top_of-beneath.result } ∷ []) c.in_ok-reach.ensures.entries
    ∙ ap (λ n. old ++ record { number = c.args.number; page = c.args.page; beneath = n } ∷ []) c.top_of-beneath.ensures)
