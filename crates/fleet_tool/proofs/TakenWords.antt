-- Command lines that name a task are taken.
use Rattle.std.proofs.Common.{◌≡◌, ℕ, List, [], ◌∷◌, true, codes, refl}
use Rattle.clap.specs.Words.{takes}
use Rattle.clap.proofs.OnLiterals.{clap_on_literals}
use Rattle.fleet_tool.specs.CommandLine.{fleet_app, NameTask, NameExplained}
use Rattle.fleet_tool.specs.TaskName.{name_of, as_text_task}
use Rattle.fleet_tool.specs.declared.job.TextTask.{TextTask}
use Rattle.fleet_tool.specs.declared.job.TextTask.TheVariants.{Run, Check, Inspect}
use Rattle.fleet_tool.specs.declared.job.LinesTask.{LinesTask}
use Rattle.fleet_tool.specs.declared.job.LinesTask.TheVariants as lines

pub is_taken : (program : List ℕ) (task : TextTask) → takes fleet_app (program ∷ name_of task ∷ []) ≡ true
unfolding clap_on_literals
is_taken program Run = refl
is_taken program Check = refl
is_taken program Inspect = refl

pub is_explained_taken : (program : List ℕ) (task : LinesTask) → takes fleet_app (program ∷ name_of (as_text_task task) ∷ codes "--explain" ∷ []) ≡ true
unfolding clap_on_literals
is_explained_taken program lines.Run = refl
is_explained_taken program lines.Check = refl

pub explained_taken : (words : List (List ℕ)) (task : LinesTask) → NameExplained words task → takes fleet_app words ≡ true
explained_taken words task names = rw names.1 (is_explained_taken names.0 task)

pub words_taken : (words : List (List ℕ)) (task : TextTask) → NameTask words task → takes fleet_app words ≡ true
words_taken words task names = rw names.1 (is_taken names.0 task)
