-- What the engines of a volume emit, and the log that it makes.
use Rattle.std.specs.Prelude.{ℕ, zero, suc, List, [], ◌∷◌, ◌++◌}
use Rattle.redo_core.specs.Data.{CutData}
use Rattle.redo_core.specs.declared.facts.Fact.{Fact}
use Rattle.redo_core.specs.declared.facts.Fact.TheVariants.{Cut}

-- Before each moment: the newest epoch whose truncation was sent, and the records and advances of each epoch, in the order in which they were
-- written. `cuts` has the truncation of each epoch; `readers` is how many readers the log has.
pub record History : Type 0 where
  pub readers : ℕ
  pub cuts : ℕ → CutData
  pub newest : ℕ → ℕ
  pub written : ℕ → ℕ → List Fact

-- the facts of the epochs from 1 up to k that were emitted before the moment t, epoch by epoch, each after its truncation
abbrev pub log_to : History → ℕ → ℕ → List Fact
log_to h t zero = []
log_to h t (suc k) = log_to h t k ++ Cut (h.cuts (suc k)) ∷ h.written t (suc k)

-- the whole log before the moment
abbrev pub log_at : History → ℕ → List Fact
log_at h t = log_to h t (h.newest t)
