use Rattle.framing.proofs.Headers as headers
use Rattle.framing.proofs.frames.laws.one_reading.Goals as goal

pub returns : goal.returns
returns c = headers.one_reading
