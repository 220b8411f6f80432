use Rattle.std.proofs.Common.{◌<◌, arith}
use Rattle.std.proofs.lemmas.List.Elements.{All-contains}
use Rattle.redo_core.specs.Data.{CutData}
use Rattle.redo_core.specs.Past.{OthersPast}
use Rattle.redo_core.proofs.Scans.{one_more, whole}
use Rattle.epoch_book.proofs.parts.is_contradicted.Goals as goal

pub loop-cut-preserved : goal.loop-cut-preserved
loop-cut-preserved c =
    let P : CutData → Type 0 = λ d. (c.args.complete < d.epoch) × OthersPast c.args.points.now c.args.waits.now d 0 → ⊥ in
    one_more P c.args.cuts.now c.loop-cut.cut-index c.cut-item.result c.loop-cut-test.true c.cut-item.is c.loop-cut.invariant
    (λ past. let t = c.is_cut_past.ensures.1 past in absurd (grind (arith, t, c.if-is_cut_past.false)))

pub returns : goal.returns
returns c =
    let P : CutData → Type 0 = λ d. (c.args.complete < d.epoch) × OthersPast c.args.points.now c.args.waits.now d 0 → ⊥ in (
      λ t. absurd (grind (arith, t)),
      λ one. absurd (All-contains P c.args.cuts.now one.0
          (whole P c.args.cuts.now c.loop-cut.cut-index c.loop-cut-test.false c.loop-cut.invariant) one.1 (one.2, one.3)),
    )
