use Rattle.std.proofs.Common.{rules}
use Rattle.hot_log.proofs.Keyed.{entry_at}
use Rattle.hot_log.proofs.key_records.KeyRecords.get.Goals as goal

pub returns : goal.returns
returns c = search (rules, entry_at)
