-- The parts of a record, which stand in memory once for all its copies.
use Rattle.std.specs.Prelude.{List}
use Rattle.redo_core.specs.Data.{RecordData, record_with}
use Rattle.redo_core.specs.KeptBody.{patches_at}
use Rattle.redo_core.specs.declared.patches.Patch.{Patch}
use Rattle.redo_core.specs.declared.records.Head.{Head}
use Rattle.redo_core.specs.declared.records.Parts.{Parts}

-- the record of a head and patches
abbrev pub headed : Head → List Patch → RecordData
headed head patches = record_with head.epoch head.number head.back head.page head.block_back head.init patches

-- the record that the parts are
abbrev pub data_of : Parts → RecordData
data_of parts = headed parts.head (patches_at parts.body)
