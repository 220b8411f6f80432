use Rattle.std.proofs.Common.{sym, ◌∙◌, subst, List, Some, None}
use Rattle.std.specs.Option.{option_copied}
use Rattle.redo_core.specs.Data.{RecordData}
use Rattle.hot_log.specs.Held.{IsHeld}
use Rattle.hot_log.specs.Indexing.{IsNextRecord}
use Rattle.hot_log.proofs.Paged.{Entry, held_of}
use Rattle.hot_log.proofs.Ranges.{no_next, next_is, next_elsewhere}
use Rattle.hot_log.proofs.records.PagedRecords.next.Goals as goal

pub returns-in_err-place : goal.returns-in_err-place
returns-in_err-place c = record {
  next =
      let P : List RecordData → Type 0 = λ l. IsNextRecord l c.args.page c.args.after None in
      subst (λ o. IsNextRecord c.args.self.now c.args.page c.args.after (option_copied o)) (sym c.from_residual.ensures)
      (subst P c.self.view_is (no_next c.self.inside.map c.args.page c.args.after c.self.invariant (c.above.ensures.above ∙ c.in_err-place.ensures.steps.0)));
  form = subst IsHeld c.self.view_is (held_of c.self.inside.map c.self.invariant);
}

pub returns-then-place-page-clause-next : goal.returns-then-place-page-clause-next
returns-then-place-page-clause-next c =
    let x : Entry = (c.in_ok-place.place.now, c.in_ok-place.redo.now) in
    subst (λ (l : List RecordData). IsNextRecord l c.args.page c.args.after (Some x.1)) c.self.view_is
    (next_is c.self.inside.map c.args.page c.args.after x c.next.new.self c.self.invariant (c.above.ensures.above ∙ c.in_ok-place.ensures.steps) c.if-place-page.true)

pub returns-then-place-page-clause-form : goal.returns-then-place-page-clause-form
returns-then-place-page-clause-form c = subst IsHeld c.self.view_is (held_of c.self.inside.map c.self.invariant)

pub returns-else-place-page-clause-next : goal.returns-else-place-page-clause-next
returns-else-place-page-clause-next c =
    let x : Entry = (c.in_ok-place.place.now, c.in_ok-place.redo.now) in
    subst (λ (l : List RecordData). IsNextRecord l c.args.page c.args.after None) c.self.view_is
    (next_elsewhere c.self.inside.map c.args.page c.args.after x c.next.new.self c.self.invariant (c.above.ensures.above ∙ c.in_ok-place.ensures.steps) c.if-place-page.false)

pub returns-else-place-page-clause-form : goal.returns-else-place-page-clause-form
returns-else-place-page-clause-form c = subst IsHeld c.self.view_is (held_of c.self.inside.map c.self.invariant)
