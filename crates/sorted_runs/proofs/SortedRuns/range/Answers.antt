use Rattle.std.proofs.lemmas.Grind.{common_steps}
use Rattle.std.proofs.Common.{sym, ap, ◌∙◌, subst, take, drop, ◌≡◌, ◌<◌, ◌≤◌, length, get_or, arith, List}
use Rattle.std.specs.List.{filter}
use Rattle.std.specs.BTreeMap.Range.{range_contains, is_from_start, is_past_end}
use Rattle.sorted_runs.specs.Rows.{entries}
use Rattle.sorted_runs.specs.Edits.{offset}
use Rattle.sorted_runs.specs.Places.{IsCut}
use Rattle.std.proofs.lemmas.Bool.Decides.{nat_tests}
use Rattle.std.specs.Global.{Vec}
use Rattle.sorted_runs.proofs.Placed.{as_read, in_order, passes_none}
use Rattle.sorted_runs.proofs.Cuts.{between_cuts}
use Rattle.sorted_runs.proofs.SortedRuns.range.Goals as goal

pub returns-clause-between : goal.returns-clause-between
returns-clause-between g c =
    let from = c.start_of-begin.result in
    let to = c.end_of-end.result in
    let low = subst (λ l. IsCut (is_from_start g.K.Ord.cmp c.args.from) (entries l) (offset l from.run from.at)) c.deref-3.ensures.value c.start_of-begin.ensures.cut in
    let high = subst (λ l. IsCut (is_past_end g.K.Ord.cmp c.args.to) (entries l) (offset l to.run to.at)) c.deref-5.ensures.value c.end_of-end.ensures.cut in
    let runs = c.self.inside.runs.items in
    ap (λ es. filter (λ e. range_contains g.K.Ord.cmp c.args.from c.args.to e.0) es) (sym c.self.view_is)
    ∙ between_cuts (is_from_start g.K.Ord.cmp c.args.from) (is_past_end g.K.Ord.cmp c.args.to) (entries runs) (offset runs from.run from.at) (offset runs to.run to.at) low high
    ∙ sym (ap (λ l. drop (offset l from.run from.at) (take (offset l to.run to.at) (entries l))) c.deref-6.ensures.value)
    ∙ sym c.between.ensures

pub returns-then-is_empty-clause-between : goal.returns-then-is_empty-clause-between
returns-then-is_empty-clause-between g c =
    let z : length c.self.inside.firsts.items ≡ 0 = grind (arith, nat_tests) in
    passes_none g.K.Ord.cmp c.self.invariant z _ c.self.view_is (λ e. range_contains g.K.Ord.cmp c.args.from c.args.to e.0) _ (c.all.ensures ∙ ap (λ l. entries l) c.deref.ensures.value)

pub returns-then-is_empty-clause-ordered : goal.returns-then-is_empty-clause-ordered
returns-then-is_empty-clause-ordered g c = in_order g.K.Ord.cmp c.self.invariant _ c.self.view_is

pub start_of-begin-requires-clause-whole : goal.start_of-begin-requires-clause-whole
start_of-begin-requires-clause-whole g c = as_read g.K.Ord.cmp c.self.invariant c.deref-2.ensures.value c.deref-3.ensures.value

pub end_of-end-requires-clause-whole : goal.end_of-end-requires-clause-whole
end_of-end-requires-clause-whole g c = as_read g.K.Ord.cmp c.self.invariant c.deref-4.ensures.value c.deref-5.ensures.value

pub between-requires-clause-from_within : goal.between-requires-clause-from_within
between-requires-clause-from_within g c =
    let from = c.start_of-begin.result in
    subst (λ (l : List (Vec _)). from.run < length l) (c.deref-3.ensures.value ∙ sym c.deref-6.ensures.value) c.start_of-begin.ensures.within

pub between-requires-clause-from_place : goal.between-requires-clause-from_place
between-requires-clause-from_place g c d =
    let from = c.start_of-begin.result in
    subst (λ (l : List (Vec _)). from.at ≤ length (get_or l from.run d).items) (c.deref-3.ensures.value ∙ sym c.deref-6.ensures.value) (c.start_of-begin.ensures.place d)

pub between-requires-clause-to_within : goal.between-requires-clause-to_within
between-requires-clause-to_within g c =
    let to = c.end_of-end.result in
    subst (λ (l : List (Vec _)). to.run < length l) (c.deref-5.ensures.value ∙ sym c.deref-6.ensures.value) c.end_of-end.ensures.within

pub between-requires-clause-to_place : goal.between-requires-clause-to_place
between-requires-clause-to_place g c d =
    let to = c.end_of-end.result in
    subst (λ (l : List (Vec _)). to.at ≤ length (get_or l to.run d).items) (c.deref-5.ensures.value ∙ sym c.deref-6.ensures.value) (c.end_of-end.ensures.place d)

pub returns-clause-ordered : goal.returns-clause-ordered
returns-clause-ordered g c = in_order g.K.Ord.cmp c.self.invariant _ c.self.view_is

pub start_of-begin-requires-clause-some : goal.start_of-begin-requires-clause-some
start_of-begin-requires-clause-some g c = grind (arith, common_steps)

pub end_of-end-requires-clause-some : goal.end_of-end-requires-clause-some
end_of-end-requires-clause-some g c = grind (arith, common_steps)
