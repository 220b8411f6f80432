use Rattle.std.proofs.Common.{rules}
use Rattle.std.proofs.lemmas.List.{take_all}
use Rattle.framing.proofs.Pieces.{frame_read}
use Rattle.framing.proofs.frames.reading.read_frame.Goals as goal

pub returns : goal.returns
returns g c = search (rules, take_all, frame_read)
