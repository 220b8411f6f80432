use Rattle.std.proofs.Common.{sym, ◌∙◌, subst, List, Option, Some, None}
use Rattle.hot_log.specs.Indexing.{IsLeastKey}
use Rattle.hot_log.proofs.Keyed.{Entry, first_of, no_first}
use Rattle.hot_log.proofs.key_records.KeyRecords.first_key.Goals as goal
use Rattle.redo_core.specs.declared.keys.Key.{Key}

pub returns-in_err-key : goal.returns-in_err-key
returns-in_err-key c =
    let P : List Entry → Type 0 = λ l. IsLeastKey l None None in
    subst (λ (o : Option Key). IsLeastKey c.args.self.now None o) (sym c.from_residual.ensures)
    (subst P c.self.view_is (no_first c.self.inside.map (sym c.iter.ensures.rest ∙ c.in_err-key.ensures.steps.0)))

pub returns : goal.returns
returns c =
    let P : List Entry → Type 0 = λ l. IsLeastKey l None (Some c.in_ok-key.key.now) in
    subst P c.self.view_is (first_of c.self.inside.map (c.in_ok-key.key.now, c.in_ok-key.field-0-1.now) c.next.new.self c.self.invariant (sym c.iter.ensures.rest ∙ c.in_ok-key.ensures.steps))
