use Rattle.std.proofs.lemmas.Grind.{common_steps}
use Rattle.std.proofs.Common.{◌≡◌, ◌∙◌, ap, subst, map, List, IfOk, arith}
use Rattle.redo_core.specs.Data.{RecordData}
use Rattle.redo_core.specs.Writing.{after_records}
use Rattle.epoch_book.specs.Book.{IsBook}
use Rattle.hot_log.specs.Anew.{ListsAnew}
use Rattle.hot_log.specs.Held.{IsHeld}
use Rattle.segment_theorems.specs.State.{State, image_of}
use Rattle.segment_theorems.specs.Shows.{IsApplied}
use Rattle.segment_core.proofs.Anew.{anew_shows}
use Rattle.segment_core.proofs.segment.Segment.plan_with.Goals as goal

pub returns-clause-image : goal.returns-clause-image
returns-clause-image c =
    let s = c.args.self.now in
    let written : List RecordData = map (λ x. x.now) c.in_ok-held.held.items in
    let copied : c.in_ok-copies.field-0.items ≡ written = c.in_ok-copies.ensures ∙ ap (map (λ x. x.now)) c.deref.ensures.value in
    let image : c.in_ok-image.field-0 ≡ image_of s.store c.args.page = subst (λ (t : State). c.in_ok-image.field-0 ≡ image_of t.store c.args.page) c.self.view_is c.in_ok-image.ensures in
    let lists : ListsAnew (IsApplied s c.args.page c.args.point) written =
    subst (λ r. IfOk r (λ v. ListsAnew (IsApplied s c.args.page c.args.point) (map (λ x. x.now) v.items))) c.in_ok-held.was c.requires in
    anew_shows s c.args.page c.args.point (after_records c.in_ok-image.field-0 c.in_ok-copies.field-0.items) written
    (subst (λ (t : State). IsBook t.book) c.self.view_is c.self.invariant.0) (subst (λ (t : State). IsHeld t.held) c.self.view_is c.self.invariant.1) lists
    (ap (λ i. after_records i c.in_ok-copies.field-0.items) image ∙ ap (after_records (image_of s.store c.args.page)) copied)

pub returns-clause-version : goal.returns-clause-version
returns-clause-version c = grind (arith, common_steps)

pub returns-clause-page : goal.returns-clause-page
returns-clause-page c = grind (arith, common_steps)
