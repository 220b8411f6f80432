-- What is reported as durable in a run of guards and machines is kept.
use Rattle.std.proofs.Common.{ℕ}
use Rattle.replica.specs.Parts.{ReplicaData}
use Rattle.volume_theorems.specs.Nodes.{Content}
use Rattle.volume_theorems.specs.Runs.{VolumeRun}
use Rattle.volume_theorems.specs.ByMoment.{IsDurableBy}
use Rattle.volume_theorems.proofs.ByMoment.{durable_lasts_by}
use Rattle.volume_logs.specs.Histories.{History}
use Rattle.volume_engines.specs.Lives.{Life, Guards}
use Rattle.volume_engines.specs.Proposals.{IsLifeIn}
use Rattle.volume_engines.specs.Running.{IsRunOfMachines}
use Rattle.volume_engines.specs.Keeping.{LivesBy, ReportsLast}
use Rattle.volume_engines.proofs.Reporting.{reports_are_durable}
use Rattle.volume_engines.proofs.Emitting.{durable_later}
use Rattle.volume_engines.proofs.Running.{machines_keep_rules}

pub life_within : (run : VolumeRun) (h : History) (stop : ℕ) (content : ReplicaData → Content) (guards : Guards) (e : ℕ) (life : Life) (count : ℕ)
    → IsRunOfMachines run h stop content guards → LivesBy run h stop guards e life count → IsLifeIn run h stop content guards e life count
life_within run h stop content guards e life count is by =
    let kept = machines_keep_rules run h stop content guards is in
    record { follows = kept.0; emitted = kept.1; guarded = kept.2; lives = by.lives; readers = by.readers; names = by.names; upto = by.upto }

pub reports_last : ReportsLast
reports_last run h stop content guards e life count is by n point w cut within at has inside sent later =
    let lives : IsLifeIn run h stop content guards e life count = life_within run h stop content guards e life count is by in
    let durable : IsDurableBy run (life.moments n) e w.cut.epoch point =
    reports_are_durable run h stop content guards e life count lives n point w within at has inside in
    durable_lasts_by run stop e w.cut.epoch point cut lives.follows
    (durable_later run (life.moments n) stop e w.cut.epoch point (by.upto n within) durable) sent later
