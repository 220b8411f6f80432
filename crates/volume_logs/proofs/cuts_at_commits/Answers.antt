use Rattle.volume_logs.proofs.Durable.{cuts_at_commits}
use Rattle.volume_logs.proofs.cuts_at_commits.Goals as goal

pub returns : goal.returns
returns c = cuts_at_commits
