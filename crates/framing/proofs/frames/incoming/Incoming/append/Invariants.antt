use Rattle.std.proofs.Common.{◌≡◌, ◌++◌, take}
use Rattle.framing.specs.FrameKeeping.{room_of}
use Rattle.framing.proofs.frames.incoming.Incoming.append.Given as goal

abbrev pub invariant-loop-byte : goal.invariant-loop-byte
invariant-loop-byte l = (l.self.bytes.items ≡ l.fn.self.bytes.items ++ take l.byte-index l.part) × (room_of l.self ≡ room_of l.fn.self)
    × (l.self.keeping ≡ l.fn.self.keeping) × (l.self.limit ≡ l.fn.self.limit)
