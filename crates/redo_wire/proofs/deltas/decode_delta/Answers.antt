use Rattle.std.proofs.Common.{arith}
use Rattle.redo_wire.specs.Deltas.{delta_bytes, IsWireDelta}
use Rattle.redo_wire.specs.DeltaReading.{delta_at}
use Rattle.redo_wire.proofs.DeltaReaders.{delta_reads}
use Rattle.redo_wire.proofs.Encodings.{answer_is_encoded, encoded_is_answer}
use Rattle.redo_wire.proofs.deltas.decode_delta.Goals as goal

pub returns-clause-found : goal.returns-clause-found
returns-clause-found c =
    answer_is_encoded delta_at delta_bytes IsWireDelta delta_reads c.args.bytes.now c.whole_delta.result (λ i. omega (arith, c.type_inv.bytes i))
    c.whole_delta.ensures

pub returns-clause-encoded : goal.returns-clause-encoded
returns-clause-encoded c = encoded_is_answer delta_at delta_bytes IsWireDelta delta_reads c.args.bytes.now c.whole_delta.result c.whole_delta.ensures
