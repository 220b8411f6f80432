use Rattle.volume_stream.proofs.Requests as requests
use Rattle.volume_stream.proofs.laws.requests_are_read.Goals as goal

pub returns : goal.returns
returns c = requests.requests_are_read
