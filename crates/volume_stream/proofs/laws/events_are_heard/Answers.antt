use Rattle.volume_stream.proofs.Calls as calls
use Rattle.volume_stream.proofs.laws.events_are_heard.Goals as goal

pub returns : goal.returns
returns c = calls.events_are_heard
