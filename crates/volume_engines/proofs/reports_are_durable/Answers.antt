use Rattle.volume_engines.proofs.Reporting.{reports_are_durable}
use Rattle.volume_engines.proofs.reports_are_durable.Goals as goal

pub returns : goal.returns
returns c = reports_are_durable
