-- What a life emits keeps the rules of a writer.
use Rattle.std.proofs.Common.{ℕ, suc, ◌≤◌, arith}
use Rattle.volume_logs.specs.Histories.{History}
use Rattle.volume_engines.specs.Lives.{Life}
use Rattle.volume_engines.specs.Emissions.{HasEmissions}
use Rattle.volume_engines.specs.Writers.{EmissionsKeepRules}
use Rattle.volume_engines.proofs.Emitting.{writer_of}
use Rattle.volume_engines.proofs.Below.{opens_from}

pub has_until : (h : History) (life : Life) (count s t k : ℕ) → s ≤ t → HasEmissions h life count t k → HasEmissions h life count s k
has_until h life count s t k order has = record { apart = has.apart; written = λ r early. has.written r (omega arith) }

pub emissions_keep_rules : EmissionsKeepRules
emissions_keep_rules run h stop content guards e life count is generation n k within at epoch has =
    let from = opens_from run h stop content guards e life count is n k within at (has_until h life count stop (suc stop) (suc k) (omega arith) has) in
    writer_of run h stop content guards e life count is n k within
    (record {
      opening = at.opening;
      was = at.was;
      writing = at.writing;
      opens = at.opens;
      epoch = at.epoch;
      base = from.0;
      lacks = from.1;
      goes_on = from.2;
      generation_fits = generation;
      epoch_fits = epoch;
    })
    has
