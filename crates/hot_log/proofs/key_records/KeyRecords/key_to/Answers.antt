use Rattle.std.proofs.Common.{sym, ◌∙◌, subst, List, Option, Some, None}
use Rattle.hot_log.specs.Indexing.{IsGreatestKey}
use Rattle.hot_log.proofs.Keyed.{Entry, none_to, last_to}
use Rattle.hot_log.proofs.key_records.KeyRecords.key_to.Goals as goal
use Rattle.redo_core.specs.declared.keys.Key.{Key}

pub returns-in_err-key : goal.returns-in_err-key
returns-in_err-key c =
    let P : List Entry → Type 0 = λ l. IsGreatestKey l c.args.to None in
    subst (λ (o : Option Key). IsGreatestKey c.args.self.now c.args.to o) (sym c.from_residual.ensures)
    (subst P c.self.view_is (none_to c.self.inside.map c.args.to (c.up_to.ensures.up_to ∙ c.in_err-key.ensures.steps.0)))

pub returns : goal.returns
returns c =
    let P : List Entry → Type 0 = λ l. IsGreatestKey l c.args.to (Some c.in_ok-key.key.now) in
    subst P c.self.view_is (last_to c.self.inside.map c.args.to (c.in_ok-key.key.now, c.in_ok-key.field-0-1.now) c.next_back.new.self c.self.invariant (c.up_to.ensures.up_to ∙ c.in_ok-key.ensures.steps))
