use Rattle.volume_logs.proofs.Pages.{durable_pages_stay}
use Rattle.volume_logs.proofs.durable_pages_stay.Goals as goal

pub returns : goal.returns
returns c = durable_pages_stay
