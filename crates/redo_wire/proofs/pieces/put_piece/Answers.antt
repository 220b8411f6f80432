use Rattle.std.proofs.Common.{arith}
use Rattle.std.proofs.lemmas.Grind.{common_steps}
use Rattle.redo_wire.proofs.pieces.put_piece.Goals as goal

pub put_content-requires-clause-shape : goal.put_content-requires-clause-shape
put_content-requires-clause-shape c = rw c.content-content.ensures.content c.content-content.ensures.shape.content

pub returns-clause-ok : goal.returns-clause-ok
returns-clause-ok c = grind (arith, common_steps)

pub returns-clause-wire : goal.returns-clause-wire
returns-clause-wire c = record {
  shape = c.content-content.ensures.shape;
  name = rw c.name.ensures.name at c.name.type_inv;
  index = rw c.index.ensures.index at c.index.type_inv;
  total = rw c.total.ensures.total at c.total.type_inv;
  content = rw c.content-content.ensures.content at c.in_ok-put_content.ensures.wire;
}

pub put_content-requires-clause-short : goal.put_content-requires-clause-short
put_content-requires-clause-short c = rw c.content-content.ensures.content c.requires
