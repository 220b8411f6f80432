-- What an adoption of base images does to a segment.
use Rattle.std.specs.Prelude.{◌≡◌, ℕ, List, max}
use Rattle.page_base.specs.Adopting.{Adopts, StoresJust}
use Rattle.segment_theorems.specs.State.{State}

-- the base point and the base images are raised to a base, with the images given, and the rest is as it was
pub record AdoptsBase (old : State) (base : ℕ) (given : List (ℕ × List ℕ)) (new : State) : Type 0 where
  pub book : new.book ≡ old.book
  pub held : new.held ≡ old.held
  pub base_is : new.base ≡ max old.base base
  pub store : Adopts old.store base given new.store
  pub listed : StoresJust old.store base given new.store
