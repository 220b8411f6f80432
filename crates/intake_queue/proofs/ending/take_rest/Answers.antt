use Rattle.std.proofs.Common.{◌++◌, sym, ap, ◌∙◌}
use Rattle.intake_queue.specs.Parcel.{sent_by}
use Rattle.intake_queue.proofs.ending.take_rest.Goals as goal

pub gather-requires-clause-own : goal.gather-requires-clause-own
gather-requires-clause-own g c =
    let id = ap (λ i. i.id) c.intake.view_is in (
      (ap (λ t. t.intake) c.taker.view_is ∙ (c.requires.taker ∙ sym id), c.taker.invariant.0),
      λ s h. c.requires.senders s h ∙ sym id,
    )

pub returns-clause-left : goal.returns-clause-left
returns-clause-left g c = λ s h.
    let taken = c.gather.ensures.taker.1 ∙ ap (λ t. t.taken) c.taker.view_is in
    ap (λ xs. sent_by s.number (xs ++ c.drain.result.items)) (sym taken) ∙ c.drain.ensures.whole s.number s.accepted (c.gather.ensures.ended s h)
