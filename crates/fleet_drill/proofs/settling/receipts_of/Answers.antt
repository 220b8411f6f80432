use Rattle.std.proofs.lemmas.Grind.{common_steps}
use Rattle.std.proofs.Common.{◌∙◌, ◌∷◌, ap, arith, length}
use Rattle.node_threads.specs.Work.{receipts_in}
use Rattle.fleet_drill.proofs.Receipts.{one_receipt, one_refusal, all_receipts}
use Rattle.fleet_drill.proofs.settling.receipts_of.Goals as goal

pub loop-answer-preserved-in-Continue-branch-2 : goal.loop-answer-preserved-in-Continue-branch-2
loop-answer-preserved-in-Continue-branch-2 g c =
    let i = c.loop-answer.invariant in
    let s = c.in-Some.ensures.steps in
    let left = ap length s.0 in
    record {
      all = one_receipt c.loop-answer.receipts.items c.push.new.self.items c.in-Ok.receipt c.loop-answer.answer-iterator.rest.items c.next.new.self.rest.items (receipts_in c.args.answers.items)
          i.all (s.0 ∙ ap (λ a. a ∷ c.next.new.self.rest.items) c.in-Ok.is) c.in_ok-push-in-Ok.ensures.items;
      fits = omega (arith, left, s.1, i.fits);
    }

pub loop-answer-preserved-else-eq : goal.loop-answer-preserved-else-eq
loop-answer-preserved-else-eq g c =
    let i = c.loop-answer.invariant in
    let s = c.in-Some.ensures.steps in
    let left = ap length s.0 in
    record {
      all = one_refusal c.loop-answer.receipts.items c.in-Err.refused c.loop-answer.answer-iterator.rest.items c.next.new.self.rest.items (receipts_in c.args.answers.items)
          i.all (s.0 ∙ ap (λ a. a ∷ c.next.new.self.rest.items) c.in-Err.is);
      fits = omega (arith, left, s.1, i.fits);
    }

pub loop-answer-preserved : goal.loop-answer-preserved
loop-answer-preserved g c =
    let i = c.loop-answer.invariant in
    let s = c.in-Some.ensures.steps in
    let left = ap length s.0 in
    record {
      all = one_refusal c.loop-answer.receipts.items c.in-Err.refused c.loop-answer.answer-iterator.rest.items c.next.new.self.rest.items (receipts_in c.args.answers.items)
          i.all (s.0 ∙ ap (λ a. a ∷ c.next.new.self.rest.items) c.in-Err.is);
      fits = omega (arith, left, s.1, i.fits);
    }

pub returns : goal.returns
returns g c =
    let i = c.loop-answer.invariant in
    all_receipts c.loop-answer.receipts.items c.loop-answer.answer-iterator.rest.items (receipts_in c.args.answers.items) i.all (i.fits ∙ c.in-None.ensures.steps.0)

pub returns-in_err-push-in-Ok : goal.returns-in_err-push-in-Ok
returns-in_err-push-in-Ok g c = grind (arith, common_steps)

pub returns-then-eq : goal.returns-then-eq
returns-then-eq g c = grind (arith, common_steps)
