use Rattle.std.proofs.Common.{◌≡◌, ◌≤◌, ◌⊎◌, ⊎_elim, get_or, take, sym, subst, arith}
use Rattle.std.specs.List.{Contains}
use Rattle.std.proofs.lemmas.List.Elements.{All-contains}
use Rattle.redo_core.proofs.Members.{item}
use Rattle.redo_core.proofs.Points.{least_is, get_or_any}
use Rattle.redo_core.proofs.Scans.{whole, one_more}
use Rattle.reference_model.proofs.readers.min_point.Goals as goal

pub loop-p-preserved : goal.loop-p-preserved
loop-p-preserved c =
    let ps = c.args.points.now in let i = c.loop-p.p-index in let p = get_or ps i 0 in let new = c.min-low.result in
    let at : p ≡ get_or ps i p = get_or_any ps i 0 p c.loop-p-test.true in
    let is = c.min-low.ensures in
    record {
      among = ⊎_elim
          (λ (e : c.min-low.result ≡ c.loop-p.low). subst (Contains c.args.points.now) (sym e) c.loop-p.invariant.among)
          (λ (e : c.min-low.result ≡ get_or c.args.points.now c.loop-p.p-index 0). subst (Contains c.args.points.now) (sym e)
          (item c.args.points.now c.loop-p.p-index (get_or c.args.points.now c.loop-p.p-index 0) c.loop-p-test.true at))
          (let t : (c.min-low.result ≡ c.loop-p.low) ⊎ (c.min-low.result ≡ get_or c.args.points.now c.loop-p.p-index 0) = grind (arith, is) in t);
      low = one_more (λ q. c.min-low.result ≤ q) c.args.points.now c.loop-p.p-index (get_or c.args.points.now c.loop-p.p-index 0) c.loop-p-test.true at
          (λ k d m. let t : c.loop-p.low ≤ get_or (take c.loop-p.p-index c.args.points.now) k d = c.loop-p.invariant.low k d m in omega (arith, is))
          (omega (arith, is));
    }

pub returns : goal.returns
returns c = least_is c.args.points.now c.loop-p.low c.loop-p.invariant.among
    (λ p h. All-contains (λ q. c.loop-p.low ≤ q) c.args.points.now p
    (whole (λ q. c.loop-p.low ≤ q) c.args.points.now c.loop-p.p-index c.loop-p-test.false c.loop-p.invariant.low) h)
