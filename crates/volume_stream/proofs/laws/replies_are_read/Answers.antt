use Rattle.volume_stream.proofs.Replies as replies
use Rattle.volume_stream.proofs.laws.replies_are_read.Goals as goal

pub returns : goal.returns
returns c = replies.replies_are_read
