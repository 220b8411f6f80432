-- What is kept of the frame that is being read.
use Rattle.std.specs.Prelude.{◌≡◌, ℕ, ◌<◌, ◌≤◌, List, [], vec_capacity}
use Rattle.framing.specs.declared.keeping.Keeping.{Keeping}
use Rattle.framing.specs.declared.keeping.Keeping.TheVariants.{Whole, Long, Lost}
use Rattle.framing.specs.declared.frames.incoming.Incoming.{Incoming}

abbrev pub frame_limit : Incoming → ℕ
frame_limit i = i.limit

-- how many bytes there is room for
abbrev pub room_of : Incoming → ℕ
room_of i = vec_capacity i.bytes

-- all that has arrived of a frame of n bytes up to the limit, or that it is longer; nothing is known of one that was lost
abbrev pub HoldsFrameBy : Keeping → List ℕ → ℕ → ℕ → List ℕ → Type 0
HoldsFrameBy Whole bytes limit n begun = (bytes ≡ begun) × (n ≤ limit)
HoldsFrameBy Long bytes limit n begun = (bytes ≡ []) × (limit < n)
HoldsFrameBy Lost bytes limit n begun = bytes ≡ []

-- `begun` is what has arrived of a frame of n bytes
abbrev pub HoldsFrame : Incoming → ℕ → List ℕ → Type 0
HoldsFrame i n begun = HoldsFrameBy i.keeping i.bytes.items i.limit n begun
