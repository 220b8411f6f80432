-- What the drill's name alone asks for.
use Rattle.std.specs.Prelude.{◌≡◌, ℕ, List, [], ◌∷◌, codes, false}
use Rattle.std.specs.Str.{bytes_eq}
use Rattle.fleet_drill.specs.declared.running.Size.TheVariants.{Small}
use Rattle.fleet_tool.specs.CommandLine.{AsksDrill}

-- 3 nodes, 4 workers of each kind, and the small log; the program's own name is an argument too, and not `--`
abbrev pub PlainDrill : Type 0
PlainDrill =
    (program : List ℕ) → bytes_eq program (codes "--") ≡ false
    → AsksDrill (program ∷ codes "drill" ∷ []) (record { nodes = 3; workers = 4; size = Small })
