-- What contracts see of a critical section, and of the last state of a lock.
use Rattle.atomic_table.specs.Seated.{TableId}

-- which lock it is of, the state as the holder found it, and as it gave it back
pub record SectionData (S : Type 0) : Type 0 where
  pub lock : TableId
  pub before : S
  pub after : S

-- which lock it is of, and the state that the lock had when it was closed
pub record FinalData (S : Type 0) : Type 0 where
  pub lock : TableId
  pub state : S
