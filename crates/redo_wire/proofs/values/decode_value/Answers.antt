use Rattle.std.proofs.Common.{arith}
use Rattle.redo_wire.proofs.ValueReaders.{value_is_encoded, encoded_is_value}
use Rattle.redo_wire.proofs.values.decode_value.Goals as goal

pub returns-clause-found : goal.returns-clause-found
returns-clause-found c = value_is_encoded c.args.bytes.now c.value_by_tag.result (λ i. omega (arith, c.type_inv.bytes i)) c.value_by_tag.ensures

pub returns-clause-encoded : goal.returns-clause-encoded
returns-clause-encoded c = encoded_is_value c.args.bytes.now c.value_by_tag.result c.value_by_tag.ensures
