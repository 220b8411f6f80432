use Rattle.volume_logs.proofs.Pages.{parts_show_durable}
use Rattle.volume_logs.proofs.parts_show_durable.Goals as goal

pub returns : goal.returns
returns c = parts_show_durable
