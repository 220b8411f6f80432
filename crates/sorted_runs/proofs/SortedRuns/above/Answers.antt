use Rattle.std.proofs.Common.{sym, ap, ◌∙◌, subst, refl, drop, List, ◌≡◌, ◌<◌, ◌≤◌, length, get_or, arith}
use Rattle.std.specs.List.{filter}
use Rattle.std.specs.BTreeMap.Range.{range_contains, is_from_start, is_past_end}
use Rattle.std.specs.declared.ops.Bound.TheVariants.{Excluded, Unbounded}
use Rattle.sorted_runs.specs.Rows.{entries}
use Rattle.sorted_runs.specs.Edits.{offset}
use Rattle.sorted_runs.specs.Places.{IsCut}
use Rattle.std.proofs.lemmas.Bool.Decides.{nat_tests}
use Rattle.std.specs.Global.{Vec}
use Rattle.sorted_runs.proofs.Placed.{as_read, in_order, passes_none}
use Rattle.sorted_runs.proofs.Cuts.{from_cut}
use Rattle.sorted_runs.proofs.SortedRuns.above.Goals as goal

pub returns-clause-above : goal.returns-clause-above
returns-clause-above g c =
    let from = c.start_of-begin.result in
    let cut = subst (λ l. IsCut (is_from_start g.K.Ord.cmp (Excluded c.args.key)) (entries l) (offset l from.run from.at)) c.deref-3.ensures.value c.start_of-begin.ensures.cut in
    let runs = c.self.inside.runs.items in
    ap (λ es. filter (λ e. range_contains g.K.Ord.cmp (Excluded c.args.key) Unbounded e.0) es) (sym c.self.view_is)
    ∙ from_cut (is_from_start g.K.Ord.cmp (Excluded c.args.key)) (is_past_end g.K.Ord.cmp Unbounded) (entries runs) (offset runs from.run from.at) (λ k. refl) cut
    ∙ sym (ap (λ l. drop (offset l from.run from.at) (entries l)) c.deref-4.ensures.value)
    ∙ sym c.on_from.ensures

pub returns-then-is_empty-clause-above : goal.returns-then-is_empty-clause-above
returns-then-is_empty-clause-above g c =
    let z : length c.self.inside.firsts.items ≡ 0 = grind (arith, nat_tests) in
    passes_none g.K.Ord.cmp c.self.invariant z _ c.self.view_is (λ e. range_contains g.K.Ord.cmp (Excluded c.args.key) Unbounded e.0) _ (c.all.ensures ∙ ap (λ l. entries l) c.deref.ensures.value)

pub returns-then-is_empty-clause-ordered : goal.returns-then-is_empty-clause-ordered
returns-then-is_empty-clause-ordered g c = in_order g.K.Ord.cmp c.self.invariant _ c.self.view_is

pub start_of-begin-requires-clause-whole : goal.start_of-begin-requires-clause-whole
start_of-begin-requires-clause-whole g c = as_read g.K.Ord.cmp c.self.invariant c.deref-2.ensures.value c.deref-3.ensures.value

pub on_from-requires-clause-within : goal.on_from-requires-clause-within
on_from-requires-clause-within g c =
    let from = c.start_of-begin.result in
    subst (λ (l : List (Vec _)). from.run < length l) (c.deref-3.ensures.value ∙ sym c.deref-4.ensures.value) c.start_of-begin.ensures.within

pub on_from-requires-clause-place : goal.on_from-requires-clause-place
on_from-requires-clause-place g c d =
    let from = c.start_of-begin.result in
    subst (λ (l : List (Vec _)). from.at ≤ length (get_or l from.run d).items) (c.deref-3.ensures.value ∙ sym c.deref-4.ensures.value) (c.start_of-begin.ensures.place d)

pub returns-clause-ordered : goal.returns-clause-ordered
returns-clause-ordered g c = in_order g.K.Ord.cmp c.self.invariant _ c.self.view_is
