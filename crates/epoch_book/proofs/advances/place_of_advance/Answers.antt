use Rattle.std.proofs.Common.{◌≡◌, ◌<◌, ◌≤◌, length, rules, subst, IfOk, IfErr}
use Rattle.std.specs.List.{Contains, HoldsAt}
use Rattle.std.specs.List.Sorted.{IsPartitionPoint}
use Rattle.std.proofs.lemmas.List.Sorted.{answers_always}
use Rattle.redo_core.specs.Data.{advance_of}
use Rattle.redo_core.specs.Order.{AdvanceBefore}
use Rattle.redo_core.proofs.Pairs.{same_advance}
use Rattle.epoch_book.proofs.Places.{advance_found, advance_at, advance_absent}
use Rattle.epoch_book.proofs.advances.place_of_advance.Goals as goal

pub returns-clause-found : goal.returns-clause-found
returns-clause-found c =
    let key : advance_of c.epoch.result c.reader.result c.point.result ≡ c.args.advance = same_advance
    (advance_of c.epoch.result c.reader.result c.point.result) c.args.advance c.epoch.ensures.value c.reader.ensures.value c.point.ensures.value in
    subst (λ x. IfOk c.binary_search_by_key.result (λ i. Contains c.args.waits.now x)) key
    (advance_found c.args.waits.now (advance_of c.epoch.result c.reader.result c.point.result) c.binary_search_by_key.result
    c.binary_search_by_key.ensures.bound
    (c.binary_search_by_key.ensures.position (λ a. (a.epoch, a.reader, a.point)) (answers_always _ _ _ (λ f a r g called. search rules))))

pub returns-clause-place : goal.returns-clause-place
returns-clause-place c =
    let key : advance_of c.epoch.result c.reader.result c.point.result ≡ c.args.advance = same_advance
    (advance_of c.epoch.result c.reader.result c.point.result) c.args.advance c.epoch.ensures.value c.reader.ensures.value c.point.ensures.value in
    subst (λ x. IfOk c.binary_search_by_key.result (λ i. (i < length c.args.waits.now) × HoldsAt (λ a. a ≡ x) c.args.waits.now i)) key
    (advance_at c.args.waits.now (advance_of c.epoch.result c.reader.result c.point.result) c.binary_search_by_key.result c.binary_search_by_key.ensures.bound
    (c.binary_search_by_key.ensures.position (λ a. (a.epoch, a.reader, a.point)) (answers_always _ _ _ (λ f a r g called. search rules))))

pub returns-clause-absent : goal.returns-clause-absent
returns-clause-absent c =
    let key : advance_of c.epoch.result c.reader.result c.point.result ≡ c.args.advance = same_advance
    (advance_of c.epoch.result c.reader.result c.point.result) c.args.advance c.epoch.ensures.value c.reader.ensures.value c.point.ensures.value in
    subst (λ x. IfErr c.binary_search_by_key.result
    (λ i. (i ≤ length c.args.waits.now) × IsPartitionPoint (λ a. AdvanceBefore a x) (λ a. AdvanceBefore x a) c.args.waits.now i)) key
    (advance_absent c.args.waits.now (advance_of c.epoch.result c.reader.result c.point.result) c.binary_search_by_key.result c.requires
    c.binary_search_by_key.ensures.bound
    (c.binary_search_by_key.ensures.position (λ a. (a.epoch, a.reader, a.point)) (answers_always _ _ _ (λ f a r g called. search rules))))
