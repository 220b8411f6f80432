use Rattle.std.proofs.Common.{◌+◌, ◌∙◌, ap, arith, length}
use Rattle.std.specs.Prelude.{sum_by}
use Rattle.std.proofs.lemmas.List.Sums.{sum_by-cons, sum_by_push}
use Rattle.node_threads.specs.Refusals.{most_listed}
use Rattle.node_threads.proofs.Refusals.{lists_most}
use Rattle.node_threads.proofs.start_rounds.start_rounders.Goals as goal

pub loop-work-preserved : goal.loop-work-preserved
loop-work-preserved g c =
    let i = c.loop-work.invariant in
    let p = c.push_reserved.ensures in
    let s = c.in-Some.ensures.steps in
    let left = ap (λ ws. sum_by (λ w. length w.rounds.now + 1) ws) s.0 ∙ sum_by-cons (λ w. length w.rounds.now + 1) c.in-Some.work c.next.new.self.rest.items in
    let more = ap (λ hs. sum_by (most_listed (λ h. h.promise.rounds)) hs) p.items ∙ sum_by_push (most_listed (λ h. h.promise.rounds)) c.loop-work.started.items c.start_one-handle.result in
    let one = lists_most (λ h. h.promise.rounds) c.start_one-handle.result (length c.in-Some.work.rounds.now) c.start_one-handle.ensures in
    record {
      count = omega (arith, i.count, p.len, s.1);
      room = p.capacity ∙ i.room;
      most = omega (arith, i.most, left, more, one);
    }

pub returns : goal.returns
returns g c =
    let none = ap (λ hs. sum_by (most_listed (λ h. h.promise.rounds)) hs) c.requires.none in
    record { most = omega (arith, none, c.loop-work.invariant.most) }
