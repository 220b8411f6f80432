use Rattle.std.proofs.Common.{ℕ, ◌≤◌, ◌<◌, ◌-◌, get_or, length}
use Rattle.log_law.specs.declared.links.Item.{Item}
use Rattle.log_law.specs.Links.{SameItemKey}
use Rattle.log_law.proofs.links.group_end.Given as goal

abbrev pub invariant-loop-end : goal.invariant-loop-end
invariant-loop-end l = record {
  after : l.start < l.end;
  within : l.end ≤ length l.items;
  same : (k : ℕ) (d : Item) → l.start ≤ k → k < l.end → SameItemKey (get_or l.items k d) (get_or l.items l.start d);
}

abbrev pub decreases-loop-end : goal.decreases-loop-end
decreases-loop-end l = length l.items - l.end
