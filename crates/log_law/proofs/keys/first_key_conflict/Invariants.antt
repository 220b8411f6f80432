use Rattle.log_law.specs.Keys.{KeepLaw1To, IsSeen}
use Rattle.log_law.proofs.Repeats.{AreFirstTo}
use Rattle.log_law.proofs.keys.first_key_conflict.Given as goal

abbrev pub invariant-loop-place : goal.invariant-loop-place
invariant-loop-place l = record {
  kept : KeepLaw1To l.facts l.place;
  seen : IsSeen l.facts l.place l.seen;
  first : AreFirstTo l.facts l.place;
}
