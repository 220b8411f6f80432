use Rattle.redo_wire.specs.Pieces.{piece_bytes, IsWirePiece}
use Rattle.redo_wire.specs.PieceReading.{piece_at}
use Rattle.redo_wire.proofs.PieceReaders.{piece_reads}
use Rattle.redo_wire.proofs.Encodings.{one_value, begins_no_other, reads_encodings}
use Rattle.redo_wire.proofs.Locality.{decoded_piece_reads, piece_faults_stay, piece_beginnings, piece_rest}
use Rattle.redo_wire.proofs.laws.piece_encodings.Goals as goal

pub returns-clause-one_value : goal.returns-clause-one_value
returns-clause-one_value c = one_value piece_at piece_bytes IsWirePiece piece_reads

pub returns-clause-none_begins : goal.returns-clause-none_begins
returns-clause-none_begins c = begins_no_other piece_at piece_bytes IsWirePiece piece_reads

pub returns-clause-reads : goal.returns-clause-reads
returns-clause-reads c = reads_encodings piece_at piece_bytes IsWirePiece piece_reads

pub returns-clause-never_too_long : goal.returns-clause-never_too_long
returns-clause-never_too_long c = decoded_piece_reads

pub returns-clause-stays : goal.returns-clause-stays
returns-clause-stays c = piece_faults_stay

pub returns-clause-short : goal.returns-clause-short
returns-clause-short c = piece_beginnings

pub returns-clause-rest : goal.returns-clause-rest
returns-clause-rest c = piece_rest
