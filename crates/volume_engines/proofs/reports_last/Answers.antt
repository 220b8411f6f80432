use Rattle.volume_engines.proofs.Keeping.{reports_last}
use Rattle.volume_engines.proofs.reports_last.Goals as goal

pub returns : goal.returns
returns c = reports_last
