use Rattle.std.proofs.Common.{◌≡◌, ◌++◌, map, take, string_bytes}
use Rattle.std.specs.List.{AllByRecursion}
use Rattle.script_text.specs.FactText.{patch_text, IsReadBack}
use Rattle.script_text.proofs.encoding.put_patches.Given as goal

-- the patches so far are encoded
abbrev pub invariant-loop-patch : goal.invariant-loop-patch
invariant-loop-patch l = record {
  encoded : map string_bytes l.texts.items ≡ map string_bytes l.fn.texts.items ++ map patch_text (take l.patch-index l.patches);
  read : AllByRecursion IsReadBack (take l.patch-index l.patches);
}
