-- Whether a record of an epoch and LSN is alive, dead or waiting in a segment.
use Rattle.std.specs.Prelude.{◌≡◌, ℕ, ◌↔◌}
use Rattle.redo_core.specs.Standing.{IsAlive, IsDead, IsWaiting}
use Rattle.segment_theorems.specs.State.{State}
use Rattle.epoch_book.specs.declared.standing.Standing.{Standing}
use Rattle.epoch_book.specs.declared.standing.Standing.TheVariants.{Alive, Dead, Waiting}

pub record StandsAt (s : State) (epoch number : ℕ) (standing : Standing) : Type 0 where
  pub alive : (standing ≡ Alive) ↔ IsAlive s.book.cuts s.book.complete epoch number
  pub dead : (standing ≡ Dead) ↔ IsDead s.book.cuts s.book.complete epoch number
  pub waiting : (standing ≡ Waiting) ↔ IsWaiting s.book.complete epoch
