use Rattle.std.proofs.Common.{ℕ, ◌++◌, Some, subst, rules}
use Rattle.segment_join.specs.Sameness.{ShowOne}
use Rattle.segment_join.proofs.Visiting.{IsWritten, HoldsBefore, written_next, holds_at_first, holds_of_one_more, fails_at}
use Rattle.segment_join.proofs.sameness.has_same_written.Goals as goal

pub loop-next-init : goal.loop-next-init
loop-next-init c = search (rules, written_next, holds_at_first)

pub loop-next-preserved : goal.loop-next-preserved
loop-next-preserved c = record {
  written = written_next (c.args.one.now.held ++ c.args.other.now.held) (Some c.in-Some.page) c.written_after-next-in-Some.result c.written_after-next-in-Some.ensures;
  same =
      let Shown : ℕ → Type 0 = ShowOne c.args.one.now c.args.point c.args.other.now c.args.other_point in
      holds_of_one_more Shown (c.args.one.now.held ++ c.args.other.now.held) c.in-Some.page c.written_after-next-in-Some.result c.written_after-next-in-Some.ensures
      (c.in_ok-has_same_page.ensures.0 c.if-not-branch.false)
      (subst (HoldsBefore Shown (c.args.one.now.held ++ c.args.other.now.held)) c.in-Some.is c.loop-next.invariant.same);
}

pub returns-then-not-branch : goal.returns-then-not-branch
returns-then-not-branch c =
    fails_at (ShowOne c.args.one.now c.args.point c.args.other.now c.args.other_point) (c.args.one.now.held ++ c.args.other.now.held) c.in-Some.page c.in_ok-has_same_page.field-0
    (subst (IsWritten (c.args.one.now.held ++ c.args.other.now.held)) c.in-Some.is c.loop-next.invariant.written) c.if-not-branch.true c.in_ok-has_same_page.ensures

pub returns : goal.returns
returns c = search rules
