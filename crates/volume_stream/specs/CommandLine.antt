-- Which volume the words of the command line name.
use Rattle.std.specs.Prelude.{◌≡◌, ℕ, List, [], ◌∷◌, Option, Some, None}
use Rattle.text.specs.Number.{decimal_value}
use Rattle.text.specs.Parts.{◌>>=◌}
use Rattle.volume.specs.Settings.{SettingsData, IsSettings}

-- two numbers after the program's name: of the nodes, and of those that a write quorum takes
abbrev pub sizes_in : List (List ℕ) → Option (ℕ × ℕ)
sizes_in (program ∷ nodes ∷ quorum ∷ []) = do
  n ← decimal_value 255 nodes
  q ← decimal_value 255 quorum
  Some (n, q)
sizes_in words = None

-- these are the settings of a volume of one reader and of those numbers
pub record NamesVolume (words : List (List ℕ)) (s : SettingsData) : Type 0 where
  pub sizes : sizes_in words ≡ Some (s.nodes, s.quorum)
  pub is : IsSettings s.nodes s.quorum
  pub readers : s.roster ≡ 1

-- there are no two numbers, or no volume has them
abbrev pub NamesNoVolume : List (List ℕ) → Type 0
NamesNoVolume words = (nodes quorum : ℕ) → sizes_in words ≡ Some (nodes, quorum) → IsSettings nodes quorum → ⊥
