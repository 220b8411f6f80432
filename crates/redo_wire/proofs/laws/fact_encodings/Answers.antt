use Rattle.redo_wire.specs.Facts.{fact_bytes, IsWireFact}
use Rattle.redo_wire.specs.FactReading.{fact_at}
use Rattle.redo_wire.proofs.FactReaders.{fact_reads}
use Rattle.redo_wire.proofs.Encodings.{one_value, begins_no_other, reads_encodings}
use Rattle.redo_wire.proofs.Locality.{decoded_fact_reads, fact_faults_stay, fact_beginnings, fact_rest}
use Rattle.redo_wire.proofs.laws.fact_encodings.Goals as goal

pub returns-clause-one_value : goal.returns-clause-one_value
returns-clause-one_value c = one_value fact_at fact_bytes IsWireFact fact_reads

pub returns-clause-none_begins : goal.returns-clause-none_begins
returns-clause-none_begins c = begins_no_other fact_at fact_bytes IsWireFact fact_reads

pub returns-clause-reads : goal.returns-clause-reads
returns-clause-reads c = reads_encodings fact_at fact_bytes IsWireFact fact_reads

pub returns-clause-never_too_long : goal.returns-clause-never_too_long
returns-clause-never_too_long c = decoded_fact_reads

pub returns-clause-stays : goal.returns-clause-stays
returns-clause-stays c = fact_faults_stay

pub returns-clause-short : goal.returns-clause-short
returns-clause-short c = fact_beginnings

pub returns-clause-rest : goal.returns-clause-rest
returns-clause-rest c = fact_rest
