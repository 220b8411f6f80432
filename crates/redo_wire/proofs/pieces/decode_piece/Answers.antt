use Rattle.std.proofs.Common.{arith}
use Rattle.redo_wire.specs.Pieces.{piece_bytes, IsWirePiece}
use Rattle.redo_wire.specs.PieceReading.{piece_at}
use Rattle.redo_wire.proofs.PieceReaders.{piece_reads}
use Rattle.redo_wire.proofs.Encodings.{answer_is_encoded, encoded_is_answer}
use Rattle.redo_wire.proofs.pieces.decode_piece.Goals as goal

pub returns-clause-found : goal.returns-clause-found
returns-clause-found c =
    answer_is_encoded piece_at piece_bytes IsWirePiece piece_reads c.args.bytes.now c.whole_piece.result (λ i. omega (arith, c.type_inv.bytes i))
    c.whole_piece.ensures

pub returns-clause-encoded : goal.returns-clause-encoded
returns-clause-encoded c = encoded_is_answer piece_at piece_bytes IsWirePiece piece_reads c.args.bytes.now c.whole_piece.result c.whole_piece.ensures
