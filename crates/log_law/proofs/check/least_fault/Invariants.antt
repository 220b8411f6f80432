use Rattle.std.proofs.Common.{◌≡◌, ◌≤◌, ◌<◌, ℕ, Some}
use Rattle.std.specs.Prelude.{slice_get}
use Rattle.redo_core.specs.Sound.{KeepsLaws}
use Rattle.redo_core.specs.declared.facts.Fact.{Fact}
use Rattle.log_law.specs.declared.links.BrokenLink.{BrokenLink}
use Rattle.log_law.proofs.check.least_fault.Given as goal

abbrev pub invariant-loop-place : goal.invariant-loop-place
invariant-loop-place l = record {
  other : l.place ≤ l.other;
  link : (b : BrokenLink) → l.link ≡ Some b → l.place ≤ b.place;
  kept : (earlier : ℕ) (f : Fact) → earlier < l.place → slice_get l.facts earlier ≡ Some f → KeepsLaws l.fn.roster l.facts earlier f;
}
