use Rattle.std.proofs.Common.{◌∙◌, subst, rules}
use Rattle.std.specs.List.{AllZip}
use Rattle.sorted_runs.specs.Copies.{IsRunCopy}
use Rattle.sorted_runs.proofs.Copied.{runs_copied, entries_copied}
use Rattle.sorted_runs.proofs.SortedRuns.copy.Goals as goal

pub invariant_of-result : goal.invariant_of-result
invariant_of-result g c =
    runs_copied g.V.Clone.is_clone g.K.Ord.cmp c.self.inside.firsts.items c.in_ok-copy_keys.field-0.items c.self.inside.runs.items c.in_ok-copy_runs.field-0.items c.self.inside.len c.self.invariant (c.in_ok-copy_keys.ensures ∙ c.deref.ensures.value)
    (subst (λ l. AllZip (IsRunCopy {K = g.row.K.Denot} g.V.Clone.is_clone) l c.in_ok-copy_runs.field-0.items) c.deref-2.ensures.value c.in_ok-copy_runs.ensures)

pub returns : goal.returns
returns g c = search (rules, entries_copied)
