use Rattle.std.proofs.Common.{sym, ◌∙◌, subst, List, Option, Some, None}
use Rattle.hot_log.specs.Indexing.{IsLeastKey}
use Rattle.hot_log.proofs.Keyed.{Entry, none_above, next_above}
use Rattle.hot_log.proofs.key_records.KeyRecords.key_above.Goals as goal
use Rattle.redo_core.specs.declared.keys.Key.{Key}

pub returns-in_err-key : goal.returns-in_err-key
returns-in_err-key c =
    let P : List Entry → Type 0 = λ l. IsLeastKey l (Some c.args.after) None in
    subst (λ (o : Option Key). IsLeastKey c.args.self.now (Some c.args.after) o) (sym c.from_residual.ensures)
    (subst P c.self.view_is (none_above c.self.inside.map c.args.after (c.above.ensures.above ∙ c.in_err-key.ensures.steps.0)))

pub returns : goal.returns
returns c =
    let P : List Entry → Type 0 = λ l. IsLeastKey l (Some c.args.after) (Some c.in_ok-key.key.now) in
    subst P c.self.view_is (next_above c.self.inside.map c.args.after (c.in_ok-key.key.now, c.in_ok-key.field-0-1.now) c.next.new.self c.self.invariant (c.above.ensures.above ∙ c.in_ok-key.ensures.steps))
