-- A pass that has the state.
use Rattle.node_lock.specs.declared.turn.Turn.{Turn}

-- the state as the turn found it
abbrev pub found_by_turn : {S : Type 0} → Turn S → S
found_by_turn turn = turn.found.value
