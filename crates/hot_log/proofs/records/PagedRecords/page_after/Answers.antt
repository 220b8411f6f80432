use Rattle.std.proofs.Common.{◌≡◌, ℕ, ◌+◌, ◌<◌, ◌≤◌, sym, ◌∙◌, subst, arith, List, Option, Some, None}
use Rattle.redo_core.specs.Data.{RecordData}
use Rattle.std.specs.List.{filter}
use Rattle.std.specs.BTreeMap.Range.{range_contains}
use Rattle.std.specs.declared.ops.Bound.TheVariants.{Included, Unbounded}
use Rattle.redo_core.specs.declared.keys.Key.{Key}
use Rattle.hot_log.specs.Found.{IsPageAfter}
use Rattle.hot_log.specs.Paged.{place_cmp}
use Rattle.hot_log.proofs.Paged.{Entry}
use Rattle.hot_log.proofs.Ranges.{Above_from, no_page, page_is, past_pages}
use Rattle.hot_log.proofs.records.PagedRecords.page_after.Goals as goal
use Rattle.hot_log.proofs.records.PagedRecords.page_after.Goals.{in-Some+in_ok-from-in-Some, in-None}

pub returns-in_err-from-in-Some : goal.returns-in_err-from-in-Some
returns-in_err-from-in-Some c =
    let P : List RecordData → Type 0 = λ l. IsPageAfter l (Some c.in-Some.page) None in
    let found : IsPageAfter c.args.self.now (Some c.in-Some.page) None = subst P c.self.view_is (past_pages c.self.inside.map c.in-Some.page c.self.invariant c.in_err-from-in-Some.ensures) in
    subst (λ o. IsPageAfter c.args.self.now c.args.after o) (sym c.from_residual.ensures)
    (subst (λ o. IsPageAfter c.args.self.now o None) (sym c.in-Some.is) found)

some_from : (a from : ℕ) → from ≡ a + 1 → Above_from (Some a) from
some_from a from e p = (λ (h : a < p). let t : from ≤ p = omega arith in t, λ h. let t : a < p = omega arith in t)

none_from : (from : ℕ) → from ≡ 0 → Above_from None from
none_from from e p = (λ h. let t : from ≤ p = omega arith in t, λ h. tt)

pub returns-in_err-place : goal.returns-in_err-place
returns-in_err-place c =
    let from : Above_from c.args.after c.match-after.from = elim c.match-after.branch [
      | in-Some+in_ok-from-in-Some w ↦ subst (λ (o : Option ℕ). Above_from o c.match-after.from) (sym w.in-Some.is) (some_from w.in-Some.page c.match-after.from (w.from-is ∙ w.in_ok-from-in-Some.ensures.1))
      | in-None w ↦ subst (λ (o : Option ℕ). Above_from o c.match-after.from) (sym w.in-None.is) (none_from c.match-after.from w.from-is)
    ] in
    let between = subst (λ (k : Key). filter (λ (e : Entry). range_contains place_cmp (Included (c.match-after.from, k)) Unbounded e.0) c.self.inside.map ≡ c.range.result) c.least.ensures c.range.ensures.between in
    let P : List RecordData → Type 0 = λ l. IsPageAfter l c.args.after None in
    subst (λ o. IsPageAfter c.args.self.now c.args.after o) (sym c.from_residual-in_err-place.ensures)
    (subst P c.self.view_is (no_page c.self.inside.map c.args.after c.match-after.from c.self.invariant from (between ∙ c.in_err-place.ensures.steps.0)))

pub returns : goal.returns
returns c =
    let from : Above_from c.args.after c.match-after.from = elim c.match-after.branch [
      | in-Some+in_ok-from-in-Some w ↦ subst (λ (o : Option ℕ). Above_from o c.match-after.from) (sym w.in-Some.is) (some_from w.in-Some.page c.match-after.from (w.from-is ∙ w.in_ok-from-in-Some.ensures.1))
      | in-None w ↦ subst (λ (o : Option ℕ). Above_from o c.match-after.from) (sym w.in-None.is) (none_from c.match-after.from w.from-is)
    ] in
    let between = subst (λ (k : Key). filter (λ (e : Entry). range_contains place_cmp (Included (c.match-after.from, k)) Unbounded e.0) c.self.inside.map ≡ c.range.result) c.least.ensures c.range.ensures.between in
    let x : Entry = (c.in_ok-place.place.now, c.in_ok-place.field-0-1.now) in
    let P : List RecordData → Type 0 = λ l. IsPageAfter l c.args.after (Some x.0.0) in
    subst P c.self.view_is (page_is c.self.inside.map c.args.after c.match-after.from x c.next.new.self c.self.invariant from (between ∙ c.in_ok-place.ensures.steps))
