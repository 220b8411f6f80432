use Rattle.std.proofs.Common.{◌≡◌, true, sym, ◌∙◌, arith}
use Rattle.redo_wire.specs.PieceReading.{is_in_place}
use Rattle.redo_wire.proofs.PieceReaders.{piece_steps}
use Rattle.redo_wire.proofs.pieces.read_piece_part.Goals as goal

-- what was judged on the way has the shape of a piece
pub new-requires : goal.new-requires
new-requires c =
    let place : is_in_place c.in_ok-index.index c.in_ok-kind.kind ≡ true = sym c.may_stand.ensures ∙ c.if-not-may_stand.false in
    (piece_steps c.args.has_many c.args.bytes.now (c.in_ok-name.name, c.in_ok-name.rest.now) (c.in_ok-index.index, c.in_ok-index.rest.now)
    (c.in_ok-total.total, c.in_ok-total.rest.now) (c.in_ok-kind.kind, c.in_ok-kind.rest.now) (c.in_ok-content.content, c.in_ok-content.rest.now)
    (λ i. omega (arith, c.type_inv.bytes i)) c.in_ok-name.ensures c.in_ok-index.ensures c.in_ok-total.ensures (omega arith) c.in_ok-kind.ensures
    place c.in_ok-content.ensures).1.0.shape
