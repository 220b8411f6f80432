use Rattle.redo_wire.specs.Summaries.{summary_bytes, IsWireSummary}
use Rattle.redo_wire.specs.SummaryReading.{summary_at}
use Rattle.redo_wire.proofs.SummaryReaders.{summary_reads}
use Rattle.redo_wire.proofs.Encodings.{one_value, begins_no_other, reads_encodings}
use Rattle.redo_wire.proofs.Locality.{decoded_summary_reads, summary_faults_stay, summary_beginnings, summary_rest}
use Rattle.redo_wire.proofs.laws.summary_encodings.Goals as goal

pub returns-clause-one_value : goal.returns-clause-one_value
returns-clause-one_value c = one_value summary_at summary_bytes IsWireSummary summary_reads

pub returns-clause-none_begins : goal.returns-clause-none_begins
returns-clause-none_begins c = begins_no_other summary_at summary_bytes IsWireSummary summary_reads

pub returns-clause-reads : goal.returns-clause-reads
returns-clause-reads c = reads_encodings summary_at summary_bytes IsWireSummary summary_reads

pub returns-clause-never_too_long : goal.returns-clause-never_too_long
returns-clause-never_too_long c = decoded_summary_reads

pub returns-clause-stays : goal.returns-clause-stays
returns-clause-stays c = summary_faults_stay

pub returns-clause-short : goal.returns-clause-short
returns-clause-short c = summary_beginnings

pub returns-clause-rest : goal.returns-clause-rest
returns-clause-rest c = summary_rest
