use Rattle.segment_theorems.proofs.Storing.{put_commits}
use Rattle.segment_theorems.proofs.put_commits.Goals as goal

pub returns : goal.returns
returns c = put_commits
