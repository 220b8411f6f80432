-- The patches that a record stores.
use Rattle.std.specs.Prelude.{List, [], ◌∷◌}
use Rattle.redo_core.specs.Data.{plain}
use Rattle.redo_core.specs.declared.patches.Patch.{Patch}
use Rattle.redo_core.specs.declared.kept_bodies.KeptBody.{KeptBody}
use Rattle.redo_core.specs.declared.kept_bodies.KeptBody.TheVariants.{Short, Writes, Patches}

abbrev pub patches_at : KeptBody → List Patch
patches_at (Short patch) = patch ∷ []
patches_at (Writes ws) = plain ws.items
patches_at (Patches ps) = ps.items
