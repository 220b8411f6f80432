-- The patches of a record's body.
use Rattle.std.specs.Prelude.{List}
use Rattle.redo_core.specs.Data.{plain}
use Rattle.redo_core.specs.declared.patches.Patch.{Patch}
use Rattle.redo_core.specs.declared.patches.Body.{Body}
use Rattle.redo_core.specs.declared.patches.Body.TheVariants.{Writes, Patches}

abbrev pub patches_of : Body → List Patch
patches_of (Writes ws) = plain ws.now
patches_of (Patches ps) = ps.now
