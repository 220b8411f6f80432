use Rattle.std.proofs.Common.{sym, ◌∙◌, subst, [], Bool, Option, Some, None}
use Rattle.std.specs.Map.{keys_of}
use Rattle.std.specs.BTreeMap.Range.{range_contains}
use Rattle.std.specs.declared.ops.Bound.TheVariants.{Excluded, Unbounded}
use Rattle.hot_log.proofs.Maps.{keys_range}
use Rattle.hot_log.specs.Indexing.{IndexData, IsNextKey}
use Rattle.hot_log.specs.Paged.{place_cmp}
use Rattle.hot_log.proofs.Orders.{rises}
use Rattle.hot_log.proofs.Places.{Place, next_none, next_some, next_other}
use Rattle.hot_log.proofs.index.KeyIndex.next.Goals as goal
use Rattle.redo_core.specs.declared.keys.Key.{Key}

pub returns-in_err-place : goal.returns-in_err-place
returns-in_err-place c =
    let test : Place → Bool = range_contains place_cmp (Excluded (c.args.group, c.args.after)) Unbounded in
    let P : IndexData → Type 0 = λ i. IsNextKey i.keys c.args.group c.args.after c.from_residual.result in
    let Q : Option Key → Type 0 = λ o. IsNextKey (keys_of c.self.inside.keys) c.args.group c.args.after o in
    subst P c.self.view_is (subst Q (sym c.from_residual.ensures) (next_none (keys_of c.self.inside.keys) c.args.group c.args.after (keys_range test c.self.inside.keys [] (c.above.ensures.above ∙ c.in_err-place.ensures.steps.0))))

pub returns-then-place-group : goal.returns-then-place-group
returns-then-place-group c =
    let test : Place → Bool = range_contains place_cmp (Excluded (c.args.group, c.args.after)) Unbounded in
    let x = c.in_ok-place.place.now in
    let P : IndexData → Type 0 = λ i. IsNextKey i.keys c.args.group c.args.after (Some x.1) in
    subst P c.self.view_is (next_some (keys_of c.self.inside.keys) c.args.group c.args.after x (keys_of c.next.new.self) (rises place_cmp (keys_of c.self.inside.keys) c.above.ensures.ordered) (keys_range test c.self.inside.keys _ (c.above.ensures.above ∙ c.in_ok-place.ensures.steps)) c.if-place-group.true)

pub returns-else-place-group : goal.returns-else-place-group
returns-else-place-group c =
    let test : Place → Bool = range_contains place_cmp (Excluded (c.args.group, c.args.after)) Unbounded in
    let x = c.in_ok-place.place.now in
    let P : IndexData → Type 0 = λ i. IsNextKey i.keys c.args.group c.args.after None in
    subst P c.self.view_is (next_other (keys_of c.self.inside.keys) c.args.group c.args.after x (keys_of c.next.new.self) (rises place_cmp (keys_of c.self.inside.keys) c.above.ensures.ordered) (keys_range test c.self.inside.keys _ (c.above.ensures.above ∙ c.in_ok-place.ensures.steps)) c.if-place-group.false)
