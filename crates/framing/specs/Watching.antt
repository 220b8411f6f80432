-- What is seen of a watched device.
use Rattle.std.specs.Prelude.{Bool}
use Rattle.framing.specs.declared.devices.watched.Watched.{Watched}

abbrev pub device_of : {D : Type 0} → Watched D → D
device_of w = w.device

-- whether a call failed since the watch began
abbrev pub has_failed : {D : Type 0} → Watched D → Bool
has_failed w = w.failed
