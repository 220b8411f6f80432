-- The names of tasks.
use Rattle.std.specs.Prelude.{ℕ, List, codes}
use Rattle.fleet_tool.specs.declared.job.TextTask.{TextTask}
use Rattle.fleet_tool.specs.declared.job.TextTask.TheVariants.{Run, Check, Inspect}
use Rattle.fleet_tool.specs.declared.job.LinesTask.{LinesTask}
use Rattle.fleet_tool.specs.declared.job.LinesTask.TheVariants as lines

abbrev pub name_of : TextTask → List ℕ
name_of Run = codes "run"
name_of Check = codes "check"
name_of Inspect = codes "inspect"

-- the text task of the same name
abbrev pub as_text_task : LinesTask → TextTask
as_text_task lines.Run = Run
as_text_task lines.Check = Check
