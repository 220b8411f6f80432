use Rattle.std.proofs.Common.{◌≡◌, ap, ◌∙◌, subst, [], ◌∷◌, Bool, Some, None}
use Rattle.std.specs.Map.{keys_of}
use Rattle.std.specs.BTreeMap.Range.{range_contains}
use Rattle.std.specs.declared.ops.Bound.TheVariants.{Excluded, Unbounded}
use Rattle.hot_log.specs.Indexing.{IndexData, IsNextKey}
use Rattle.hot_log.specs.Paged.{place_cmp}
use Rattle.hot_log.proofs.Maps.{keys_range}
use Rattle.hot_log.proofs.Orders.{rises}
use Rattle.hot_log.proofs.Places.{Place, next_none, next_some, next_other, second_none, second_some, second_other}
use Rattle.hot_log.proofs.index.KeyIndex.next_two.Goals.{in_default-via-in-Some+else-second-group, in_default-via-in_default}
use Rattle.hot_log.proofs.index.KeyIndex.next_two.Goals as goal

pub returns-in_err-place-clause-none : goal.returns-in_err-place-clause-none
returns-in_err-place-clause-none c = λ _.
    let test : Place → Bool = range_contains place_cmp (Excluded (c.args.group, c.args.after)) Unbounded in
    let P : IndexData → Type 0 = λ i. IsNextKey i.keys c.args.group c.args.after None in
    subst P c.self.view_is (next_none (keys_of c.self.inside.keys) c.args.group c.args.after (keys_range test c.self.inside.keys [] (c.above-rest.ensures.above ∙ c.in_err-place.ensures.steps.0)))

pub returns-then-place-group-clause-none : goal.returns-then-place-group-clause-none
returns-then-place-group-clause-none c = λ _.
    let test : Place → Bool = range_contains place_cmp (Excluded (c.args.group, c.args.after)) Unbounded in
    let x = c.in_ok-place.place.now in
    let P : IndexData → Type 0 = λ i. IsNextKey i.keys c.args.group c.args.after None in
    subst P c.self.view_is (next_other (keys_of c.self.inside.keys) c.args.group c.args.after x (keys_of c.next.new.self) (rises place_cmp (keys_of c.self.inside.keys) c.above-rest.ensures.ordered) (keys_range test c.self.inside.keys _ (c.above-rest.ensures.above ∙ c.in_ok-place.ensures.steps)) c.if-place-group.true)

pub returns-in-Some-clause-some : goal.returns-in-Some-clause-some
returns-in-Some-clause-some c =
    let test : Place → Bool = range_contains place_cmp (Excluded (c.args.group, c.args.after)) Unbounded in
    let keys = keys_of c.self.inside.keys in let x = c.in_ok-place.place.now in let y = c.in-Some.second.now in
    let rising = rises place_cmp keys c.above-rest.ensures.ordered in
    let is = keys_range test c.self.inside.keys _ (c.above-rest.ensures.above ∙ c.in_ok-place.ensures.steps) in
    let next : keys_of c.next.new.self ≡ y ∷ keys_of c.next-2.new.self = ap keys_of c.in-Some.ensures.steps in
    let P : IndexData → Type 0 = λ i. IsNextKey i.keys c.args.group c.args.after (Some x.1) × IsNextKey i.keys c.args.group x.1 (Some y.1) in
    subst P c.self.view_is (
      next_some keys c.args.group c.args.after x (keys_of c.next.new.self) rising is c.if-place-group.false,
      second_some keys c.args.group c.args.after x (keys_of c.next.new.self) rising is c.if-place-group.false y (keys_of c.next-2.new.self) next c.if-second-group.true,
    )

pub returns-in_default-clause-some : goal.returns-in_default-clause-some
returns-in_default-clause-some c =
    let test : Place → Bool = range_contains place_cmp (Excluded (c.args.group, c.args.after)) Unbounded in
    let keys = keys_of c.self.inside.keys in let x = c.in_ok-place.place.now in
    let rising = rises place_cmp keys c.above-rest.ensures.ordered in
    let is = keys_range test c.self.inside.keys _ (c.above-rest.ensures.above ∙ c.in_ok-place.ensures.steps) in
    let P : IndexData → Type 0 = λ i. IsNextKey i.keys c.args.group c.args.after (Some x.1) × IsNextKey i.keys c.args.group x.1 None in
    subst P c.self.view_is (
      next_some keys c.args.group c.args.after x (keys_of c.next.new.self) rising is c.if-place-group.false,
      elim c.in_default.branch [
        | in_default-via-in-Some+else-second-group w ↦ second_other keys c.args.group c.args.after x (keys_of c.next.new.self) rising is c.if-place-group.false w.in-Some.second.now (keys_of c.next-2.new.self) (ap keys_of w.in-Some.ensures.steps) w.if-second-group.false
        | in_default-via-in_default w ↦ second_none keys c.args.group c.args.after x (keys_of c.next.new.self) rising is c.if-place-group.false (ap keys_of w.in_default.ensures.steps.0)
      ],
    )
