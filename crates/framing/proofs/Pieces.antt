-- Bytes that arrive in pieces.
use Rattle.std.proofs.Common.{◌≡◌, ℕ, ◌+◌, ◌*◌, ◌<◌, ◌≤◌, ◌^◌, List, ◌++◌, length, Option, Bool, true, false, Result, Ok, Err, sym, subst, arith}
use Rattle.std.proofs.lemmas.Grind.{common_steps}
use Rattle.std.specs.Prelude.{max}
use Rattle.std.specs.Io.KnownBytes.{Consumes}
use Rattle.framing.specs.Watching.{device_of}
use Rattle.framing.specs.declared.devices.watched.Watched.{Watched}
use Rattle.framing.specs.declared.devices.fault.RunFault.{RunFault}
use Rattle.framing.specs.Coming.{Comes, ReadsBytes, ReadsFrame}
use Rattle.framing.specs.Frames.{header}
use Rattle.framing.specs.FrameKeeping.{HoldsFrame, frame_limit, room_of}
use Rattle.framing.specs.declared.frames.incoming.Incoming.{Incoming}
use Rattle.framing.proofs.Headers.{begun}

module _ {R : Type 0} (remaining : R → Option (List ℕ)) where
  pub comes_more : (reader reader' reader'' : Watched R) (old mid new : Incoming) (bytes more : List ℕ) → Comes remaining reader reader' old mid bytes
      → Consumes (remaining (device_of reader')) (remaining (device_of reader'')) more → frame_limit new ≡ frame_limit mid
      → room_of new ≤ max (room_of mid) (2 * (length bytes + length more)) → Comes remaining reader reader'' old new (bytes ++ more)
  comes_more reader reader' reader'' old mid new bytes more h read limit room = grind (arith, common_steps)

  comes_behind : (reader reader' reader'' : Watched R) (old mid new : Incoming) (head bytes : List ℕ)
      → Consumes (remaining (device_of reader)) (remaining (device_of reader')) head → frame_limit mid ≡ frame_limit old → room_of mid ≡ room_of old
      → Comes remaining reader' reader'' mid new bytes → Comes remaining reader reader'' old new (head ++ bytes)
  comes_behind reader reader' reader'' old mid new head bytes read limit room h = grind (arith, common_steps)

  -- bytes after the header that states their number
  pub frame_read : (reader reader' reader'' : Watched R) (old mid new : Incoming) (n : ℕ) (result : Result Bool RunFault)
      → Consumes (remaining (device_of reader)) (remaining (device_of reader')) (header n) → n < 2 ^ 32 → frame_limit mid ≡ frame_limit old
      → room_of mid ≡ room_of old → ReadsBytes remaining reader' reader'' mid new n result → ReadsFrame remaining reader reader'' old new result
  frame_read reader reader' reader'' old mid new n (Ok true) read short limit room h = (
    h.0,
    subst (λ (k : ℕ). Comes remaining reader reader'' old new (header k ++ h.0)) (sym h.2)
        (comes_behind reader reader' reader'' old mid new (header n) h.0 read limit room h.1),
    omega (arith, h.2, short),
    subst (λ (k : ℕ). HoldsFrame new k h.0) (sym h.2) h.3,
  )
  frame_read reader reader' reader'' old mid new n (Ok false) read short limit room h = (
    header n ++ h.0,
    comes_behind reader reader' reader'' old mid new (header n) h.0 read limit room h.1,
    begun n h.0 short h.2,
    h.3,
  )
  frame_read reader reader' reader'' old mid new n (Err e) read short limit room h = (
    header n ++ h.0,
    comes_behind reader reader' reader'' old mid new (header n) h.0 read limit room h.1,
    begun n h.0 short h.2,
    h.3,
    h.4,
  )

  -- by a test of whether it is whole
  pub read_whole : (reader reader' : Watched R) (old new : Incoming) (b : Bool) → b ≡ true → ReadsFrame remaining reader reader' old new (Ok b)
      → ReadsFrame remaining reader reader' old new (Ok true)
  read_whole reader reader' old new b is h = subst (λ (v : Bool). ReadsFrame remaining reader reader' old new (Ok v)) is h

  pub read_end : (reader reader' : Watched R) (old new : Incoming) (b : Bool) → b ≡ false → ReadsFrame remaining reader reader' old new (Ok b)
      → ReadsFrame remaining reader reader' old new (Ok false)
  read_end reader reader' old new b is h = subst (λ (v : Bool). ReadsFrame remaining reader reader' old new (Ok v)) is h
