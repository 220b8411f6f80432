use Rattle.std.proofs.Common.{◌≡◌, IfOk, IfErr, subst}
use Rattle.hot_log.specs.Putting.{Puts, RefusesPut}
use Rattle.segment_theorems.specs.State.{State}
use Rattle.segment_core.proofs.DuePages.{put_due}
use Rattle.segment_core.proofs.segment.Segment.put.Goals as goal

pub returns-clause-put : goal.returns-clause-put
returns-clause-put c =
    subst (λ (s : State). IfOk c.put_record.result (Puts s.held c.args.redo c.put_record.new.hot)) c.self.view_is c.put_record.ensures.put

pub returns-clause-refused : goal.returns-clause-refused
returns-clause-refused c =
    subst (λ (s : State). IfErr c.put_record.result (λ e. (e.value ≡ c.args.redo) × RefusesPut s.held c.args.redo e.fault)) c.self.view_is
    c.put_record.ensures.refused

pub invariant_of-self : goal.invariant_of-self
invariant_of-self c =
    let i = c.self.inside in (
      c.self.invariant.0,
      c.put_record.ensures.form,
      c.self.invariant.2,
      c.self.invariant.3,
      c.put_record.ensures.points,
      put_due i.book i.hot c.put_record.new.hot i.store i.due c.add_held.new.self c.args.redo c.put_record.result c.self.invariant.5 c.add_held.ensures.more
          c.add_held.ensures.looks c.put_record.ensures.put c.put_record.ensures.unchanged,
    )
