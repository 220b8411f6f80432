use Rattle.framing.proofs.Headers.{header_of}
use Rattle.framing.proofs.frames.reading.length_of.Goals as goal

pub returns-clause-head : goal.returns-clause-head
returns-clause-head c = header_of c.args.head.now c.from_be_bytes.result c.told-head c.fits-head c.from_be_bytes.ensures
