use Rattle.std.proofs.Common.{rules}
use Rattle.redo_wire.proofs.Locality.{value_faults_stay, value_beginnings, value_rest}
use Rattle.redo_wire.proofs.ValueLaws.{value_one_encoding, value_one_value, value_begins_no_other, value_reads_encodings, value_never_too_long}
use Rattle.redo_wire.proofs.laws.value_encodings.Goals as goal

pub returns : goal.returns
returns c =
    search (rules, value_one_encoding, value_one_value, value_begins_no_other, value_reads_encodings, value_never_too_long, value_faults_stay, value_beginnings, value_rest)
