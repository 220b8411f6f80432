use Rattle.std.proofs.Common.{◌∙◌, ap, arith}
use Rattle.std.specs.Prelude.{sum_by}
use Rattle.std.proofs.lemmas.List.Sums.{sum_by-cons}
use Rattle.node_threads.specs.Refusals.{most_listed}
use Rattle.node_threads.proofs.join_rounds.join_rounds.Goals as goal

pub joined-requires-clause-first : goal.joined-requires-clause-first
joined-requires-clause-first g c = λ all. c.requires.first (c.loop-rounder.invariant.told all)

pub joined-requires-clause-room : goal.joined-requires-clause-room
joined-requires-clause-room g c =
    let sum = ap (λ xs. sum_by (most_listed (λ h. h.promise.rounds)) xs) c.in-Some.ensures.steps.0 ∙ sum_by-cons (most_listed (λ h. h.promise.rounds)) c.in-Some.rounder c.next.new.self.rest.items in
    omega (arith, sum, c.loop-rounder.invariant.room)

pub loop-rounder-preserved : goal.loop-rounder-preserved
loop-rounder-preserved g c =
    let i = c.loop-rounder.invariant in
    let j = c.joined.ensures in
    let sum = ap (λ xs. sum_by (most_listed (λ h. h.promise.rounds)) xs) c.in-Some.ensures.steps.0 ∙ sum_by-cons (most_listed (λ h. h.promise.rounds)) c.in-Some.rounder c.next.new.self.rest.items in
    record {
      told = λ all. i.told (j.told all);
      room = omega (arith, sum, i.room, j.room.0, j.room.1);
    }
