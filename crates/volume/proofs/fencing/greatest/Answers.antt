use Rattle.std.proofs.Common.{◌<◌, ◌≤◌, inl, inr, length, List, Option, subst, sym, ◌∙◌, arith}
use Rattle.std.proofs.lemmas.Bool.{false≢true}
use Rattle.std.proofs.lemmas.List.{take_all}
use Rattle.guard.specs.declared.requests.AcceptedCut.{AcceptedCut}
use Rattle.volume.specs.Fencing.{IsGreatestPair}
use Rattle.volume.proofs.Pairs.{one_pair_more}
use Rattle.volume.proofs.fencing.greatest.Goals as goal
use Rattle.volume.proofs.fencing.greatest.Goals.{then-is_later, else-is_later}

pub loop-pair-preserved : goal.loop-pair-preserved
loop-pair-preserved c =
    let pairs = c.args.pairs.now in let i = c.loop-pair.pair-index in
    let lt : i < length pairs = omega arith in
    elim c.if-is_later.branch [
      | then-is_later w ↦
          one_pair_more pairs i c.pair-item.result c.loop-pair.best c.if-is_later.best lt c.loop-pair.invariant
          (inl (c.is_later.ensures.0 w.if-is_later.true, w.best-is))
      | else-is_later w ↦
          one_pair_more pairs i c.pair-item.result c.loop-pair.best c.if-is_later.best lt c.loop-pair.invariant
          (inr (λ later. absurd (false≢true (sym w.if-is_later.false ∙ c.is_later.ensures.1 later)), w.best-is))
    ]

pub returns : goal.returns
returns c =
    let pairs = c.args.pairs.now in let i = c.loop-pair.pair-index in
    let all : length pairs ≤ i = omega arith in
    subst (λ (ps : List (Option AcceptedCut)). IsGreatestPair ps c.loop-pair.best) (take_all i pairs all) c.loop-pair.invariant
