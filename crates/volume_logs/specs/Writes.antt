-- What a writer gives, fact by fact.
use Rattle.std.specs.Prelude.{◌≡◌, ◌<◌, List, [], ◌∷◌, ◌++◌, length}
use Rattle.redo_core.specs.declared.facts.Fact.{Fact}
use Rattle.redo_core.specs.declared.facts.Fact.TheVariants.{Record, Cut, Advance}
use Rattle.redo_writer.specs.State.{WriterState}
use Rattle.redo_writer.specs.Continues.{Continues}

-- the fact is of the writer's epoch, and a record is above its last number
abbrev pub IsNext : WriterState → Fact → WriterState → Type 0
IsNext v (Record r) w = (r.epoch ≡ v.epoch) × (v.last < r.number) × (w.last ≡ r.number)
IsNext v (Cut c) w = ⊥
IsNext v (Advance a) w = (a.epoch ≡ v.epoch) × (w.last ≡ v.last)

-- One call that succeeds: what `append` and `advance` of a writer promise.
pub record GivesFact (v : WriterState) (f : Fact) (w : WriterState) : Type 0 where
  pub continues : (log : List Fact) → Continues v log → Continues w (log ++ f ∷ [])
  pub readers : length w.points ≡ length v.points
  pub epoch : w.epoch ≡ v.epoch
  pub next : IsNext v f w

-- the writer gives these facts one after another
abbrev pub Writes : WriterState → List Fact → WriterState → Type 0
Writes v [] w = v ≡ w
Writes v (f ∷ facts) w = (u : WriterState) × GivesFact v f u × Writes u facts w
