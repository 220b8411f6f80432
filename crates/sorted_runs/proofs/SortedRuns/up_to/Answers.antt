use Rattle.std.proofs.Common.{sym, ap, ◌∙◌, subst, refl, take, List, ◌≡◌, ◌<◌, ◌≤◌, length, get_or, arith}
use Rattle.std.specs.List.{filter}
use Rattle.std.specs.BTreeMap.Range.{range_contains, is_from_start, is_past_end}
use Rattle.std.specs.declared.ops.Bound.TheVariants.{Included, Unbounded}
use Rattle.std.proofs.lemmas.Bool.Decides.{nat_tests}
use Rattle.std.specs.Global.{Vec}
use Rattle.sorted_runs.proofs.Placed.{as_read, in_order, passes_none}
use Rattle.sorted_runs.specs.Rows.{entries}
use Rattle.sorted_runs.specs.Edits.{offset}
use Rattle.sorted_runs.specs.Places.{IsCut}
use Rattle.sorted_runs.proofs.Cuts.{to_cut}
use Rattle.sorted_runs.proofs.SortedRuns.up_to.Goals as goal

pub returns-clause-up_to : goal.returns-clause-up_to
returns-clause-up_to g c =
    let to = c.end_of-end.result in
    let cut = subst (λ l. IsCut (is_past_end g.K.Ord.cmp (Included c.args.key)) (entries l) (offset l to.run to.at)) c.deref-3.ensures.value c.end_of-end.ensures.cut in
    let runs = c.self.inside.runs.items in
    ap (λ es. filter (λ e. range_contains g.K.Ord.cmp Unbounded (Included c.args.key) e.0) es) (sym c.self.view_is)
    ∙ to_cut (is_from_start g.K.Ord.cmp Unbounded) (is_past_end g.K.Ord.cmp (Included c.args.key)) (entries runs) (offset runs to.run to.at) (λ k. refl) cut
    ∙ sym (ap (λ l. take (offset l to.run to.at) (entries l)) c.deref-4.ensures.value)
    ∙ sym c.up_to.ensures

pub returns-then-is_empty-clause-up_to : goal.returns-then-is_empty-clause-up_to
returns-then-is_empty-clause-up_to g c =
    let z : length c.self.inside.firsts.items ≡ 0 = grind (arith, nat_tests) in
    passes_none g.K.Ord.cmp c.self.invariant z _ c.self.view_is (λ e. range_contains g.K.Ord.cmp Unbounded (Included c.args.key) e.0) _ (c.all.ensures ∙ ap (λ l. entries l) c.deref.ensures.value)

pub returns-then-is_empty-clause-ordered : goal.returns-then-is_empty-clause-ordered
returns-then-is_empty-clause-ordered g c = in_order g.K.Ord.cmp c.self.invariant _ c.self.view_is

pub end_of-end-requires-clause-whole : goal.end_of-end-requires-clause-whole
end_of-end-requires-clause-whole g c = as_read g.K.Ord.cmp c.self.invariant c.deref-2.ensures.value c.deref-3.ensures.value

pub up_to-requires-clause-within : goal.up_to-requires-clause-within
up_to-requires-clause-within g c =
    let to = c.end_of-end.result in
    subst (λ (l : List (Vec _)). to.run < length l) (c.deref-3.ensures.value ∙ sym c.deref-4.ensures.value) c.end_of-end.ensures.within

pub up_to-requires-clause-place : goal.up_to-requires-clause-place
up_to-requires-clause-place g c d =
    let to = c.end_of-end.result in
    subst (λ (l : List (Vec _)). to.at ≤ length (get_or l to.run d).items) (c.deref-3.ensures.value ∙ sym c.deref-4.ensures.value) (c.end_of-end.ensures.place d)

pub returns-clause-ordered : goal.returns-clause-ordered
returns-clause-ordered g c = in_order g.K.Ord.cmp c.self.invariant _ c.self.view_is
