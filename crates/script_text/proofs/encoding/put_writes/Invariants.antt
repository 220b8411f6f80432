use Rattle.std.proofs.Common.{◌≡◌, ◌++◌, map, take, string_bytes}
use Rattle.std.specs.List.{AllByRecursion}
use Rattle.redo_core.specs.Data.{plain}
use Rattle.script_text.specs.FactText.{patch_text, IsReadBack}
use Rattle.script_text.proofs.encoding.put_writes.Given as goal

-- the writes so far are encoded
abbrev pub invariant-loop-write : goal.invariant-loop-write
invariant-loop-write l = record {
  encoded : map string_bytes l.texts.items ≡ map string_bytes l.fn.texts.items ++ map patch_text (plain (take l.write-index l.writes));
  read : AllByRecursion IsReadBack (plain (take l.write-index l.writes));
}
