use Rattle.std.proofs.lemmas.Grind.{common_steps}
use Rattle.std.proofs.Common.{ap, ◌∙◌, subst, not, List, ◌≡◌, ◌<◌, ◌≤◌, length, get_or, arith}
use Rattle.std.specs.List.{filter}
use Rattle.std.specs.BTreeMap.Range.{range_contains, is_from_start, is_past_end}
use Rattle.sorted_runs.specs.Rows.{entries}
use Rattle.sorted_runs.specs.Edits.{offset}
use Rattle.sorted_runs.specs.Places.{IsCut}
use Rattle.std.proofs.lemmas.Bool.Decides.{nat_tests}
use Rattle.std.specs.Global.{Vec}
use Rattle.sorted_runs.proofs.Placed.{as_read, in_order, keeps_none}
use Rattle.sorted_runs.proofs.Outside.{outside_is, outside_runs}
use Rattle.sorted_runs.proofs.SortedRuns.remove_range.Goals as goal

pub invariant_of-self : goal.invariant_of-self
invariant_of-self g c =
    let runs = c.self.inside.runs.items in
    let from = c.start_of-begin.result in
    let to = c.end_of-end.result in
    let low = subst (λ l. IsCut (is_from_start g.K.Ord.cmp c.args.from) (entries l) (offset l from.run from.at)) c.deref-2.ensures.value c.start_of-begin.ensures.cut in
    let high = subst (λ l. IsCut (is_past_end g.K.Ord.cmp c.args.to) (entries l) (offset l to.run to.at)) c.deref-4.ensures.value c.end_of-end.ensures.cut in
    let gone = c.cut_out-self-inside in
    outside_runs (is_from_start g.K.Ord.cmp c.args.from) (is_past_end g.K.Ord.cmp c.args.to) c.self.inside.firsts.items runs c.self.inside.len c.self.invariant (offset runs from.run from.at) (offset runs to.run to.at) low high gone.new.runs.items gone.ensures.loses gone.new.firsts.items gone.result gone.ensures.shaped gone.ensures.counted

pub returns-clause-loses : goal.returns-clause-loses
returns-clause-loses g c =
    let runs = c.self.inside.runs.items in
    let from = c.start_of-begin.result in
    let to = c.end_of-end.result in
    let low = subst (λ l. IsCut (is_from_start g.K.Ord.cmp c.args.from) (entries l) (offset l from.run from.at)) c.deref-2.ensures.value c.start_of-begin.ensures.cut in
    let high = subst (λ l. IsCut (is_past_end g.K.Ord.cmp c.args.to) (entries l) (offset l to.run to.at)) c.deref-4.ensures.value c.end_of-end.ensures.cut in
    let gone = c.cut_out-self-inside in
    outside_is (is_from_start g.K.Ord.cmp c.args.from) (is_past_end g.K.Ord.cmp c.args.to) c.self.inside.firsts.items runs c.self.inside.len c.self.invariant (offset runs from.run from.at) (offset runs to.run to.at) low high gone.new.runs.items gone.ensures.loses
    ∙ ap (λ es. filter (λ e. not (range_contains g.K.Ord.cmp c.args.from c.args.to e.0)) es) c.self.view_is

pub returns-clause-ordered : goal.returns-clause-ordered
returns-clause-ordered g c = (invariant_of-self g c).rising

pub returns-then-is_empty-clause-loses : goal.returns-then-is_empty-clause-loses
returns-then-is_empty-clause-loses g c =
    let z : length c.self.inside.firsts.items ≡ 0 = grind (arith, nat_tests) in
    keeps_none g.K.Ord.cmp c.self.invariant z _ c.self.view_is (λ e. not (range_contains g.K.Ord.cmp c.args.from c.args.to e.0))

pub returns-then-is_empty-clause-was_ordered : goal.returns-then-is_empty-clause-was_ordered
returns-then-is_empty-clause-was_ordered g c = in_order g.K.Ord.cmp c.self.invariant _ c.self.view_is

pub returns-then-is_empty-clause-ordered : goal.returns-then-is_empty-clause-ordered
returns-then-is_empty-clause-ordered g c = in_order g.K.Ord.cmp c.self.invariant _ c.self.view_is

pub start_of-begin-requires-clause-whole : goal.start_of-begin-requires-clause-whole
start_of-begin-requires-clause-whole g c = as_read g.K.Ord.cmp c.self.invariant c.deref.ensures.value c.deref-2.ensures.value

pub end_of-end-requires-clause-whole : goal.end_of-end-requires-clause-whole
end_of-end-requires-clause-whole g c = as_read g.K.Ord.cmp c.self.invariant c.deref-3.ensures.value c.deref-4.ensures.value

pub cut_out-self-inside-requires-clause-from_within : goal.cut_out-self-inside-requires-clause-from_within
cut_out-self-inside-requires-clause-from_within g c =
    let from = c.start_of-begin.result in
    subst (λ (l : List (Vec _)). from.run < length l) c.deref-2.ensures.value c.start_of-begin.ensures.within

pub cut_out-self-inside-requires-clause-from_place : goal.cut_out-self-inside-requires-clause-from_place
cut_out-self-inside-requires-clause-from_place g c d =
    let from = c.start_of-begin.result in
    subst (λ (l : List (Vec _)). from.at ≤ length (get_or l from.run d).items) c.deref-2.ensures.value (c.start_of-begin.ensures.place d)

pub cut_out-self-inside-requires-clause-to_within : goal.cut_out-self-inside-requires-clause-to_within
cut_out-self-inside-requires-clause-to_within g c =
    let to = c.end_of-end.result in
    subst (λ (l : List (Vec _)). to.run < length l) c.deref-4.ensures.value c.end_of-end.ensures.within

pub cut_out-self-inside-requires-clause-to_place : goal.cut_out-self-inside-requires-clause-to_place
cut_out-self-inside-requires-clause-to_place g c d =
    let to = c.end_of-end.result in
    subst (λ (l : List (Vec _)). to.at ≤ length (get_or l to.run d).items) c.deref-4.ensures.value (c.end_of-end.ensures.place d)

pub cut_out-self-inside-requires-clause-counted : goal.cut_out-self-inside-requires-clause-counted
cut_out-self-inside-requires-clause-counted g c = c.self.invariant.counted

pub returns-clause-was_ordered : goal.returns-clause-was_ordered
returns-clause-was_ordered g c = in_order g.K.Ord.cmp c.self.invariant _ c.self.view_is

pub end_of-end-requires-clause-some : goal.end_of-end-requires-clause-some
end_of-end-requires-clause-some g c = grind (arith, common_steps)

pub start_of-begin-requires-clause-some : goal.start_of-begin-requires-clause-some
start_of-begin-requires-clause-some g c = grind (arith, common_steps)
