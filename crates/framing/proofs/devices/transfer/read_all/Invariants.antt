use Rattle.std.specs.Io.KnownBytes.{Consumes}
use Rattle.framing.proofs.devices.transfer.read_all.Given as goal

abbrev pub invariant-loop : goal.invariant-loop
invariant-loop g l = Consumes (g.R.Read.remaining l.fn.reader.device) (g.R.Read.remaining l.reader.device) l.text.items
