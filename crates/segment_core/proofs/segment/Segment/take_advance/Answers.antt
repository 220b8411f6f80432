use Rattle.std.proofs.lemmas.Grind.{common_steps}
use Rattle.segment_theorems.specs.State.{state_of}
use Rattle.std.proofs.Common.{subst, rules, arith}
use Rattle.redo_core.specs.declared.facts.Fact.TheVariants.{Advance}
use Rattle.segment_theorems.proofs.Learnt.{takes_advance}
use Rattle.segment_core.specs.Exactly.{TakesExactly}
use Rattle.segment_core.proofs.Taking.{advance_exact, advance_bound}
use Rattle.segment_core.proofs.Following.{advance_lags}
use Rattle.segment_core.proofs.DuePages.{advance_due}
use Rattle.segment_core.proofs.segment.Segment.take_advance.Goals as goal

pub returns : goal.returns
returns c =
    let e = c.learn_advance-learnt.ensures in
    subst (λ s. TakesExactly s (Advance c.args.advance) c.book_answer.result
    (state_of c.learn_advance-learnt.new.self c.self.inside.hot c.self.inside.base c.self.inside.store)) c.self.view_is
    (advance_exact takes_advance c.self.inside.book c.learn_advance-learnt.new.self c.self.inside.hot c.self.inside.base c.self.inside.store c.args.advance
    c.learn_advance-learnt.result c.book_answer.result c.self.invariant.0 e.ok e.known e.unchanged e.err e.refuses e.refused e.memory c.book_answer.ensures)

pub invariant_of-self : goal.invariant_of-self
invariant_of-self c = search (rules, advance_bound, advance_due)

pub with_anchor-self-inside-requires : goal.with_anchor-self-inside-requires
with_anchor-self-inside-requires c = grind (arith, common_steps, advance_lags)
