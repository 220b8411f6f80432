use Rattle.std.proofs.Common.{sym, ◌∙◌, subst, List, Some, None}
use Rattle.std.specs.Option.{option_copied}
use Rattle.redo_core.specs.Data.{RecordData}
use Rattle.hot_log.specs.Held.{IsHeld}
use Rattle.hot_log.specs.Indexing.{IsLastRecord}
use Rattle.hot_log.proofs.Paged.{Entry, held_of}
use Rattle.hot_log.proofs.Ranges.{no_last, last_is, last_elsewhere}
use Rattle.hot_log.proofs.records.PagedRecords.last.Goals as goal

pub returns-in_err-place : goal.returns-in_err-place
returns-in_err-place c = record {
  last =
      let P : List RecordData → Type 0 = λ l. IsLastRecord l c.args.page c.args.to None in
      subst (λ o. IsLastRecord c.args.self.now c.args.page c.args.to (option_copied o)) (sym c.from_residual.ensures)
      (subst P c.self.view_is (no_last c.self.inside.map c.args.page c.args.to c.self.invariant (c.up_to.ensures.up_to ∙ c.in_err-place.ensures.steps.0)));
  form = subst IsHeld c.self.view_is (held_of c.self.inside.map c.self.invariant);
}

pub returns-then-place-page-clause-last : goal.returns-then-place-page-clause-last
returns-then-place-page-clause-last c =
    let x : Entry = (c.in_ok-place.place.now, c.in_ok-place.redo.now) in
    subst (λ (l : List RecordData). IsLastRecord l c.args.page c.args.to (Some x.1)) c.self.view_is
    (last_is c.self.inside.map c.args.page c.args.to x c.next_back.new.self c.self.invariant (c.up_to.ensures.up_to ∙ c.in_ok-place.ensures.steps) c.if-place-page.true)

pub returns-then-place-page-clause-form : goal.returns-then-place-page-clause-form
returns-then-place-page-clause-form c = subst IsHeld c.self.view_is (held_of c.self.inside.map c.self.invariant)

pub returns-else-place-page-clause-last : goal.returns-else-place-page-clause-last
returns-else-place-page-clause-last c =
    let x : Entry = (c.in_ok-place.place.now, c.in_ok-place.redo.now) in
    subst (λ (l : List RecordData). IsLastRecord l c.args.page c.args.to None) c.self.view_is
    (last_elsewhere c.self.inside.map c.args.page c.args.to x c.next_back.new.self c.self.invariant (c.up_to.ensures.up_to ∙ c.in_ok-place.ensures.steps) c.if-place-page.false)

pub returns-else-place-page-clause-form : goal.returns-else-place-page-clause-form
returns-else-place-page-clause-form c = subst IsHeld c.self.view_is (held_of c.self.inside.map c.self.invariant)
