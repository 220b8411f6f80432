use Rattle.std.proofs.Common.{take}
use Rattle.std.specs.List.{AllByRecursion}
use Rattle.volume.specs.Layout.{IsUsers}
use Rattle.volume.proofs.page_layout.are_users.Given as goal

-- the patches that are passed are within their user's part
abbrev pub invariant-loop-patch : goal.invariant-loop-patch
invariant-loop-patch l = AllByRecursion IsUsers (take l.patch-index l.patches)
