use Rattle.std.proofs.Common.{◌≡◌, map, subst, arith}
use Rattle.segment_theorems.specs.State.{State, version_of}
use Rattle.segment_core.specs.BlockChain.{IsChained}
use Rattle.segment_core.proofs.BlockChain.{block_lower}
use Rattle.segment_core.proofs.Chained.{none_breaks_anew}
use Rattle.segment_core.proofs.segment.Segment.is_whole.Goals as goal

pub returns-then-point-sure_point : goal.returns-then-point-sure_point
returns-then-point-sure_point c =
    let s = c.args.self.now in
    let xs = map (λ x. x.now) c.args.records.now in
    let version = subst (λ (x : State). c.version.result ≡ version_of x.store c.args.page) c.self.view_is c.version.ensures in
    λ yes n. none_breaks_anew s c.args.page c.args.point n xs c.requires
    (subst (λ v. IsChained v xs) version (c.is_chained.ensures yes))
    (λ r among alive low. c.sure_point.ensures.linked r among alive (omega (arith, low, c.if-point-sure_point.true)))
    (λ r among. block_lower r (c.sure_point.ensures.form.held.shaped r among))
