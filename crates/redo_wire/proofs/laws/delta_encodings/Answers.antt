use Rattle.redo_wire.specs.Deltas.{delta_bytes, IsWireDelta}
use Rattle.redo_wire.specs.DeltaReading.{delta_at}
use Rattle.redo_wire.proofs.DeltaReaders.{delta_reads}
use Rattle.redo_wire.proofs.Encodings.{one_value, begins_no_other, reads_encodings}
use Rattle.redo_wire.proofs.Locality.{decoded_delta_reads, delta_faults_stay, delta_beginnings, delta_rest}
use Rattle.redo_wire.proofs.laws.delta_encodings.Goals as goal

pub returns-clause-one_value : goal.returns-clause-one_value
returns-clause-one_value c = one_value delta_at delta_bytes IsWireDelta delta_reads

pub returns-clause-none_begins : goal.returns-clause-none_begins
returns-clause-none_begins c = begins_no_other delta_at delta_bytes IsWireDelta delta_reads

pub returns-clause-reads : goal.returns-clause-reads
returns-clause-reads c = reads_encodings delta_at delta_bytes IsWireDelta delta_reads

pub returns-clause-never_too_long : goal.returns-clause-never_too_long
returns-clause-never_too_long c = decoded_delta_reads

pub returns-clause-stays : goal.returns-clause-stays
returns-clause-stays c = delta_faults_stay

pub returns-clause-short : goal.returns-clause-short
returns-clause-short c = delta_beginnings

pub returns-clause-rest : goal.returns-clause-rest
returns-clause-rest c = delta_rest
