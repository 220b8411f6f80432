use Rattle.std.proofs.Common.{Some, None, subst, rules}
use Rattle.hot_log.specs.Gaps.{IsGapAbove, IsAwaited}
use Rattle.segment_core.specs.Gaps.{IsGapOf}
use Rattle.segment_core.specs.declared.answers.Gap.TheVariants.{Record, Truncation}
use Rattle.segment_core.proofs.Ahead.{gap_law, gap_record, gap_truncation, gap_none}
use Rattle.segment_core.proofs.segment.Segment.gap.Goals as goal

some : (c : goal.In-Some) → IsGapOf c.args.self.now (Some (Record c.in-Some.number))
some c =
    gap_record c.args.self.now c.front-front.result.complete c.in-Some.number c.front-front.ensures.own.complete
    (subst (λ s. IsGapAbove s.book s.held c.front-front.result.complete (Some c.in-Some.number)) c.self.view_is c.in-Some.ensures)

pub returns-in-Some-clause-own : goal.returns-in-Some-clause-own
returns-in-Some-clause-own c = some c

pub returns-in-Some-clause-gap : goal.returns-in-Some-clause-gap
returns-in-Some-clause-gap c = gap_law c.args.self.now (Some (Record c.in-Some.number)) c.front-front.ensures.form (some c)

waited : (c : goal.In_ok-epoch-in-None) → IsGapOf c.args.self.now (Some (Truncation c.in_ok-epoch-in-None.epoch))
waited c =
    let top = c.front-front.result.complete in
    gap_truncation c.args.self.now top c.in_ok-epoch-in-None.epoch c.front-front.ensures.own.complete
    (subst (λ s. IsGapAbove s.book s.held top None) c.self.view_is c.in-None.ensures)
    (subst (λ s. IsAwaited s.book s.held (Some c.in_ok-epoch-in-None.epoch)) c.self.view_is c.in_ok-epoch-in-None.ensures)

pub returns-in_ok-epoch-in-None-clause-own : goal.returns-in_ok-epoch-in-None-clause-own
returns-in_ok-epoch-in-None-clause-own c = waited c

pub returns-in_ok-epoch-in-None-clause-gap : goal.returns-in_ok-epoch-in-None-clause-gap
returns-in_ok-epoch-in-None-clause-gap c = search (rules, gap_law, waited)

none : (c : goal.After-from_residual) → IsGapOf c.args.self.now None
none c =
    let top = c.front-front.result.complete in
    gap_none c.args.self.now top c.front-front.ensures.own.complete
    (subst (λ s. IsGapAbove s.book s.held top None) c.self.view_is c.in-None.ensures)
    (subst (λ s. IsAwaited s.book s.held None) c.self.view_is c.in_err-epoch-in-None.ensures)

pub returns-in_err-epoch-in-None-clause-own : goal.returns-in_err-epoch-in-None-clause-own
returns-in_err-epoch-in-None-clause-own c = rw c.from_residual.ensures (none c)

pub returns-in_err-epoch-in-None-clause-gap : goal.returns-in_err-epoch-in-None-clause-gap
returns-in_err-epoch-in-None-clause-gap c = rw c.from_residual.ensures (gap_law c.args.self.now None c.front-front.ensures.form (none c))
