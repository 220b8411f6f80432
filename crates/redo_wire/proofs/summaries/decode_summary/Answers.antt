use Rattle.std.proofs.Common.{arith, rules}
use Rattle.redo_wire.specs.Summaries.{summary_bytes, IsWireSummary}
use Rattle.redo_wire.specs.SummaryReading.{summary_at}
use Rattle.redo_wire.proofs.SummaryReaders.{summary_reads}
use Rattle.redo_wire.proofs.Encodings.{answer_is_encoded}
use Rattle.redo_wire.proofs.summaries.decode_summary.Goals as goal

pub returns-clause-found : goal.returns-clause-found
returns-clause-found c =
    answer_is_encoded summary_at summary_bytes IsWireSummary summary_reads c.args.bytes.now c.whole_summary.result (λ i. omega (arith, c.type_inv.bytes i))
    c.whole_summary.ensures

pub returns-clause-encoded : goal.returns-clause-encoded
returns-clause-encoded c = search (rules, summary_reads)
