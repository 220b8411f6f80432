-- How a frame is read.
use Rattle.std.specs.Prelude.{◌≡◌, ℕ, ◌*◌, ◌<◌, ◌≤◌, max, List, length, Bool, true, false, Option, Result, Ok, Err}
use Rattle.std.specs.Io.KnownBytes.{Consumes, IsAtEnd}
use Rattle.framing.specs.Watching.{device_of, has_failed}
use Rattle.framing.specs.declared.devices.fault.RunFault.{RunFault}
use Rattle.framing.specs.declared.devices.fault.RunFault.TheVariants.{Input}
use Rattle.framing.specs.declared.devices.watched.Watched.{Watched}
use Rattle.framing.specs.Frames.{framed, IsShort, IsBegun}
use Rattle.framing.specs.FrameKeeping.{HoldsFrame, frame_limit, room_of}
use Rattle.framing.specs.declared.frames.incoming.Incoming.{Incoming}

-- The reader failed before the last of n bytes.
pub record FailsShort {R : Type 0} (remaining : R → Option (List ℕ)) (reader reader' : Watched R) (n : ℕ) : Type 0 where
  pub bytes : List ℕ
  pub read : Consumes (remaining (device_of reader)) (remaining (device_of reader')) bytes
  pub short : length bytes < n
  pub failed : has_failed reader' ≡ true

-- These bytes have arrived, and room was reserved for no more than twice as many.
pub record Comes {R : Type 0} (remaining : R → Option (List ℕ)) (reader reader' : Watched R) (old new : Incoming) (bytes : List ℕ) : Type 0 where
  pub read : Consumes (remaining (device_of reader)) (remaining (device_of reader')) bytes
  pub limit : frame_limit new ≡ frame_limit old
  pub room : room_of new ≤ max (room_of old) (2 * length bytes)

-- n bytes are read; or fewer, where the input ends or the reader fails
abbrev pub ReadsBytes : {R : Type 0} → (R → Option (List ℕ)) → Watched R → Watched R → Incoming → Incoming → ℕ → Result Bool RunFault → Type 0
ReadsBytes remaining reader reader' old new n (Ok true) =
    (bytes : List ℕ) × Comes remaining reader reader' old new bytes × (length bytes ≡ n) × HoldsFrame new n bytes
ReadsBytes remaining reader reader' old new n (Ok false) =
    (bytes : List ℕ) × Comes remaining reader reader' old new bytes × (length bytes < n) × IsAtEnd (remaining (device_of reader'))
ReadsBytes remaining reader reader' old new n (Err e) =
    (bytes : List ℕ) × Comes remaining reader reader' old new bytes × (length bytes < n) × (has_failed reader' ≡ true) × (e ≡ Input)

-- a whole frame is read, and nothing after it; or a beginning of one, where the input ends or the reader fails
abbrev pub ReadsFrame : {R : Type 0} → (R → Option (List ℕ)) → Watched R → Watched R → Incoming → Incoming → Result Bool RunFault → Type 0
ReadsFrame remaining reader reader' old new (Ok true) =
    (frame : List ℕ) × Comes remaining reader reader' old new (framed frame) × IsShort frame × HoldsFrame new (length frame) frame
ReadsFrame remaining reader reader' old new (Ok false) =
    (rest : List ℕ) × Comes remaining reader reader' old new rest × IsBegun rest × IsAtEnd (remaining (device_of reader'))
ReadsFrame remaining reader reader' old new (Err e) =
    (rest : List ℕ) × Comes remaining reader reader' old new rest × IsBegun rest × (has_failed reader' ≡ true) × (e ≡ Input)
