-- A request, and which bytes of a page its answer shows.
use Rattle.std.specs.Prelude.{ℕ, ◌+◌, ◌≤◌}
use Rattle.replica.specs.declared.requests.Request.{Request}
use Rattle.guard.specs.declared.requests.Request.{Request as GuardRequest}
use Rattle.guard.specs.declared.requests.Request.TheVariants as guard
use Rattle.node_stream.specs.declared.asked.Asked.{Asked}
use Rattle.node_stream.specs.declared.asked.GuardAsked.{GuardAsked}
use Rattle.node_stream.specs.declared.asked.Window.{Window}

-- so many bytes from an offset on
abbrev pub shown : Request → ℕ → ℕ → Asked
shown request offset len = record { request = request; window = record { offset = offset; len = len } }

-- a request whose answer shows no page
abbrev pub asked : Request → Asked
asked request = shown request 0 0

-- a request to a guard whose answer shows no page
abbrev pub guard_asked : GuardRequest → GuardAsked
guard_asked request = record { request = request; window = record { offset = 0; len = 0 } }

-- a request of a replica that no engine asks under its generation
abbrev pub plainly : Asked → GuardAsked
plainly a = record { request = guard.Plain a.request; window = a.window }

-- the same for the engine of a generation, in a birth of the node
abbrev pub under : ℕ → ℕ → Asked → GuardAsked
under generation birth a = record { request = guard.As generation birth a.request; window = a.window }

-- the bytes are within a page
abbrev pub IsInside : Window → Type 0
IsInside w = w.offset + w.len ≤ 4096
