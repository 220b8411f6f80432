use Rattle.std.proofs.Common.{arith}
use Rattle.redo_wire.specs.Facts.{fact_bytes, IsWireFact}
use Rattle.redo_wire.specs.FactReading.{fact_at}
use Rattle.redo_wire.proofs.FactReaders.{fact_reads}
use Rattle.redo_wire.proofs.Encodings.{answer_is_encoded, encoded_is_answer}
use Rattle.redo_wire.proofs.facts.decode_fact.Goals as goal

pub returns-clause-found : goal.returns-clause-found
returns-clause-found c =
    answer_is_encoded fact_at fact_bytes IsWireFact fact_reads c.args.bytes.now c.whole_fact.result (λ i. omega (arith, c.type_inv.bytes i))
    c.whole_fact.ensures

pub returns-clause-encoded : goal.returns-clause-encoded
returns-clause-encoded c = encoded_is_answer fact_at fact_bytes IsWireFact fact_reads c.args.bytes.now c.whole_fact.result c.whole_fact.ensures
