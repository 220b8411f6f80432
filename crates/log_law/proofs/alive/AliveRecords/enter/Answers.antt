use Rattle.std.proofs.Common.{◌≡◌, ◌+◌, Some, None, arith, sym, ◌∙◌, ap, refl}
use Rattle.log_law.specs.Alive.{stack_of, without_above}
use Rattle.log_law.proofs.Entered.{next_view, same_but_view, none_of}
use Rattle.log_law.proofs.alive.AliveRecords.enter.Goals as goal

pub loop-self-preserved-in-Some : goal.loop-self-preserved-in-Some
loop-self-preserved-in-Some c = record {
  stack = c.pop_above.ensures.stack;
  upper = λ h. let v : c.pop_above.new.self.view ≡ c.loop-self.self.view + 1 = c.pop_above.ensures.view in omega arith;
  holds = λ log past d h.
      next_view log past c.loop-self.self c.pop_above.new.self (Some c.in-Some.cut)
      (sym (d.table.at (c.loop-self.self.view + 1)) ∙ sym c.at.ensures ∙ c.in-Some.is)
      c.pop_above.ensures.stack c.pop_above.ensures.view (c.pop_above.ensures.rest ∙ ap (λ n. without_above n (stack_of c.loop-self.self)) c.lo.ensures.value)
      (c.loop-self.invariant.holds log past d h);
}

pub loop-self-preserved : goal.loop-self-preserved
loop-self-preserved c = record {
  stack = same_but_view c.loop-self.self _ c.loop-self.invariant.stack refl refl;
  upper = λ h. omega arith;
  holds = λ log past d h.
      next_view log past c.loop-self.self _ None
      (sym (d.table.at (c.loop-self.self.view + 1)) ∙ sym c.at.ensures ∙ none_of c.at.result c.in_default.not-Some)
      (same_but_view c.loop-self.self _ c.loop-self.invariant.stack refl refl) refl refl (c.loop-self.invariant.holds log past d h);
}
