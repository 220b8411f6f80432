use Rattle.volume_logs.proofs.Pages.{durable_pages_last}
use Rattle.volume_logs.proofs.durable_pages_last.Goals as goal

pub returns : goal.returns
returns c = durable_pages_last
