-- A visit without a pass.
use Rattle.std.specs.Prelude.{List}
use Rattle.atomic_table.specs.Seated.{TableId}
use Rattle.node_lock.specs.declared.visit.Visit.{Visit}
use Rattle.node_lock.specs.Trail.{Entry}

-- the trail of the state when the visit took it
abbrev pub taken_by : {S : Type 0} → Visit S → List Entry
taken_by visit = visit.held.seat.me.0.noted

-- the state as the visit found it
abbrev pub found_by_visit : {S : Type 0} → Visit S → S
found_by_visit visit = visit.found.value

-- the lock whose state the visit has
abbrev pub lock_of_visit : {S : Type 0} → Visit S → TableId
lock_of_visit visit = visit.held.seat.table_id
