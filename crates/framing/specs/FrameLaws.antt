-- Laws of frames.
use Rattle.std.specs.Prelude.{◌≡◌, ℕ, List}
use Rattle.framing.specs.Frames.{AreFrames}

-- bytes have one reading as frames
abbrev pub OneReading : Type 0
OneReading = (input : List ℕ) (frames others : List (List ℕ)) (rest behind : List ℕ) → AreFrames input frames rest → AreFrames input others behind
    → (frames ≡ others) × (rest ≡ behind)
