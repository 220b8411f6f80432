use Rattle.std.proofs.Common.{◌∙◌, ap, arith, Bor, List, ℕ, length, take_all}
use Rattle.std.specs.List.{flat_map}
use Rattle.redo_core.specs.Data.{RecordData}
use Rattle.redo_wire.specs.Records.{record_bytes}
use Rattle.redo_wire.proofs.Lengths.{len_more, records_len}
use Rattle.redo_wire.proofs.sizes.records_size.Goals as goal

pub loop-redo-preserved : goal.loop-redo-preserved
loop-redo-preserved c =
    let bytes : Bor RecordData → List ℕ = λ r. record_bytes r.now in
    let more = len_more bytes c.args.records.now c.loop-redo.redo-index c.redo-item.result c.loop-redo-test.true c.redo-item.is in
    (omega (arith, more, c.loop-redo.invariant.0, c.record_size.ensures.size), omega (arith, c.loop-redo.invariant.1, c.record_size.ensures.small))

pub returns-clause-size : goal.returns-clause-size
returns-clause-size c =
    let bytes : Bor RecordData → List ℕ = λ r. record_bytes r.now in
    c.loop-redo.invariant.0 ∙ ap (λ rs. length (flat_map bytes rs)) (take_all c.loop-redo.redo-index c.args.records.now c.loop-redo-test.false)
    ∙ records_len c.args.records.now
