use Rattle.std.proofs.lemmas.Grind.{common_steps}
use Rattle.std.proofs.Common.{length, ap, ◌∙◌, arith}
use Rattle.sorted_runs.proofs.Parts.{walked_on, first_of_front, first_of_back, none_more, one_less}
use Rattle.sorted_runs.proofs.entries.EntriesIterator.next.Goals as goal

pub loop-entry-preserved : goal.loop-entry-preserved
loop-entry-preserved g c =
    let facts = c.in-Some-split_first.ensures.cases in
    walked_on c.loop-entry.self-inside.front.now c.loop-entry.self-inside.middle.now c.in-Some-split_first.rest.now c.in-Some-split_first.run'.now c.loop-entry.self-inside.back.now c.deref-self-inside.result.now _ facts.0 c.in_default.ensures.cases c.deref-self-inside.ensures.value c.loop-entry.invariant

pub returns-in-Some-clause-steps : goal.returns-in-Some-clause-steps
returns-in-Some-clause-steps g c =
    let here = c.loop-entry.self-inside in
    let facts = c.in-Some.ensures.cases in
    first_of_front here.front.now here.middle.now here.back.now c.in-Some.rest.now _ _ (c.loop-entry.invariant ∙ c.self.view_is) facts.0

pub returns-in-Some-clause-goes : goal.returns-in-Some-clause-goes
returns-in-Some-clause-goes g c = one_less _ _ _ (ap (λ l. length l) (returns-in-Some-clause-steps g c))

pub returns-in_err-entry-clause-goes : goal.returns-in_err-entry-clause-goes
returns-in_err-entry-clause-goes g c = none_more _ _ _ c.from_residual.ensures

pub returns-clause-steps : goal.returns-clause-steps
returns-clause-steps g c =
    let here = c.loop-entry.self-inside in
    let facts = c.in_ok-entry.ensures.cases in
    first_of_back here.front.now here.middle.now here.back.now c.in_ok-entry.rest.now _ _ (c.loop-entry.invariant ∙ c.self.view_is) c.in_default.ensures.cases c.in_default-split_first.ensures.cases facts.0

pub returns-clause-goes : goal.returns-clause-goes
returns-clause-goes g c = one_less _ _ _ (ap (λ l. length l) (returns-clause-steps g c))

pub returns-in_err-entry-clause-steps : goal.returns-in_err-entry-clause-steps
returns-in_err-entry-clause-steps g c = grind (arith, common_steps)
