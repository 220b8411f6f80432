-- What follows the rules up to a moment follows them up to each earlier one.
use Rattle.std.proofs.Common.{ℕ, ◌≤◌, arith}
use Rattle.volume_theorems.specs.Runs.{VolumeRun}
use Rattle.volume_theorems.specs.Stopping.{FollowsUntil}

pub until_earlier : (run : VolumeRun) (s t : ℕ) → s ≤ t → FollowsUntil run t → FollowsUntil run s
until_earlier run s t order is = record {
  overlap = is.overlap;
  begins = is.begins;
  moves = λ x before. is.moves x (omega arith);
  others = λ x i before apart. is.others x i (omega arith) apart;
}
