use Rattle.std.proofs.Common.{ℕ, Some, None, refl, subst}
use Rattle.hot_log.specs.Found.{IsPageAfter}
use Rattle.segment_theorems.specs.State.{State}
use Rattle.segment_core.specs.Forgetting.{IsWhole}
use Rattle.segment_core.proofs.FirstBreak.{IsWholeTo, whole_none, whole_more, whole_all, first_found, first_none}
use Rattle.segment_core.proofs.segment.Segment.first_break.Goals as goal

pub loop-next-init : goal.loop-next-init
loop-next-init c = record {
  own = c.anchor-point.ensures.own;
  whole = whole_none c.args.self.now c.page_after-next.result
      (subst (λ (s : State). IsPageAfter s.held None c.page_after-next.result) c.self.view_is c.page_after-next.ensures);
}

pub loop-next-preserved : goal.loop-next-preserved
loop-next-preserved c = record {
  own = c.loop-next.invariant.own;
  whole = whole_more c.args.self.now c.anchor-point.result c.in-Some.page c.page_after-next-in-Some.result c.broken_link.result c.loop-next.invariant.own
      (subst (λ (s : State). IsPageAfter s.held (Some c.in-Some.page) c.page_after-next-in-Some.result) c.self.view_is c.page_after-next-in-Some.ensures)
      c.broken_link.ensures.breaks c.in_default-broken_link.is
      (subst (IsWholeTo c.args.self.now) c.in-Some.is c.loop-next.invariant.whole);
}

pub returns-in-Some-broken_link-clause-first : goal.returns-in-Some-broken_link-clause-first
returns-in-Some-broken_link-clause-first c =
    let x : ℕ × ℕ = (c.in-Some.page, c.in-Some-broken_link.number) in
    first_found c.args.self.now c.anchor-point.result x c.broken_link.result c.loop-next.invariant.own c.broken_link.ensures.breaks c.in-Some-broken_link.is
    (subst (IsWholeTo c.args.self.now) c.in-Some.is c.loop-next.invariant.whole)

whole : (c : goal.In_default) → IsWhole c.args.self.now
whole c = whole_all c.args.self.now (subst (IsWholeTo c.args.self.now) c.in_default.is c.loop-next.invariant.whole)

pub returns-clause-first : goal.returns-clause-first
returns-clause-first c = first_none c.args.self.now None refl (whole c)

pub returns-clause-none : goal.returns-clause-none
returns-clause-none c = λ e. whole c
