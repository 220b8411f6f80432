use Rattle.std.proofs.Common.{◌+◌, ltb, length, sym, ap, ◌∙◌, subst}
use Rattle.std.specs.List.{All, filter}
use Rattle.std.proofs.lemmas.List.Elements.{All-filter}
use Rattle.redo_core.specs.Data.{AdvanceData}
use Rattle.redo_core.specs.Points.{RaisesPoints}
use Rattle.redo_core.specs.Roster.{IsReader}
use Rattle.epoch_book.proofs.Earlier.{raises_earlier}
use Rattle.epoch_book.proofs.points.raise_points.Goals as goal

pub raise_each-requires : goal.raise_each-requires
raise_each-requires c =
    let n = length c.args.points.now in
    subst (All (λ a. IsReader n a.reader)) (sym c.earlier.ensures)
    (All-filter (λ (a : AdvanceData). ltb a.epoch (c.from.result + 1)) (λ a. IsReader n a.reader) c.args.waits.now c.requires.readers)

pub returns : goal.returns
returns c =
    let k = c.args.complete in let old = c.args.points.now in let ws = c.args.waits.now in let new = c.raise_each.new.points in
    let begun = c.earlier.ensures ∙ ap (λ n. filter (λ (a : AdvanceData). ltb a.epoch (n + 1)) ws) c.from.ensures in
    raises_earlier k old ws new (subst (λ l. RaisesPoints k old l new) begun c.raise_each.ensures)
