-- The command line of the program: when it names a task, and when it asks for help.
use Rattle.std.specs.Prelude.{◌≡◌, ◌⊎◌, ℕ, List, [], ◌∷◌, Option, Some, codes, true, false}
use Rattle.std.specs.List.{list_any}
use Rattle.std.specs.Str.{bytes_eq}
use Rattle.clap.specs.Words.{App, Kinds, IsAmong, Row, Rule, Shape, new_app, new_rule, with_subcommand, fault_of, subcommand_of}
use Rattle.clap.specs.declared.builder.action.ArgAction.TheVariants.{SetTrue}
use Rattle.clap.specs.declared.error.kind.ErrorKind.{ErrorKind}
use Rattle.clap.specs.declared.error.kind.ErrorKind.TheVariants.{DisplayHelp, DisplayVersion}
use Rattle.fleet_tool.specs.declared.job.CommandFault.{CommandFault}
use Rattle.fleet_tool.specs.declared.job.CommandFault.TheVariants.{Help, Bad, Memory}
use Rattle.fleet_tool.specs.declared.job.TextTask.{TextTask}
use Rattle.fleet_tool.specs.declared.drill_line.DrillTask.{DrillTask}
use Rattle.fleet_tool.specs.TaskName.{name_of, as_text_task}
use Rattle.fleet_tool.specs.declared.job.LinesTask.{LinesTask}
use Rattle.fleet_tool.specs.DrillLine.{drill_shape, EncodesDrill}

-- the command, with a version, and its subcommands, of which the drill alone has arguments of its own
abbrev pub top : App
top = record (new_app (codes "fleet")) {
  top = record (new_app (codes "fleet")).top {
    subcommand_required = true;
    disable_help_subcommand = true;
    has_version = true;
  };
}

-- the flag that asks for an explained answer
abbrev pub explain_rule : Rule
explain_rule = record (new_rule (codes "explain")) {
  long = Some (codes "explain");
  action = Some SetTrue;
}

-- a task over lines, with that flag
abbrev pub lines_shape : List ℕ → Shape
lines_shape name = record (new_app name).top { rules = explain_rule ∷ [] }

abbrev pub texts_app : App
texts_app = with_subcommand (with_subcommand (with_subcommand top (lines_shape (codes "run"))) (lines_shape (codes "check"))) (new_app (codes "inspect")).top

abbrev pub fleet_app : App
fleet_app = with_subcommand texts_app drill_shape

-- the kinds of fault that the arguments have
unfoldable pub line_faults : List (List ℕ) → Kinds
line_faults words = fault_of fleet_app words

-- the subcommand that the arguments name, and the values of its options
unfoldable pub subcommand_in : List (List ℕ) → Option (List ℕ × List Row)
subcommand_in words = subcommand_of fleet_app words

-- the arguments are the program's name and the task's
abbrev pub NameTask : List (List ℕ) → TextTask → Type 0
NameTask words task = (program : List ℕ) × (words ≡ program ∷ name_of task ∷ [])

-- the arguments are the program's name, the task's and the option's
abbrev pub NameExplained : List (List ℕ) → LinesTask → Type 0
NameExplained words task = (program : List ℕ) × (words ≡ program ∷ name_of (as_text_task task) ∷ codes "--explain" ∷ [])

-- The arguments name the drill and encode its numbers and its size, as clap parses them: they have no fault, and none that it leaves out.
pub record AsksDrill (words : List (List ℕ)) (task : DrillTask) : Type 0 where
  pub options : List Row
  pub names : subcommand_in words ≡ Some (codes "drill", options)
  pub encodes : EncodesDrill options task
  pub right : line_faults words ≡ []
  pub whole : list_any (λ word. bytes_eq word (codes "--")) words ≡ false

-- the kind asks for the help or the version
abbrev pub IsAsking : ErrorKind → Type 0
IsAsking kind = (kind ≡ DisplayHelp) ⊎ (kind ≡ DisplayVersion)

-- Why arguments that may have the faults of these kinds name no task: help is given where they ask for it, and they are bad where they
-- have another fault, or none but are those of no task.
abbrev pub IsWhy : Kinds → CommandFault → Type 0
IsWhy kinds (Help text) = (kind : ErrorKind) × IsAmong kind kinds × IsAsking kind
IsWhy kinds Bad = (kinds ≡ []) ⊎ ((kind : ErrorKind) × IsAmong kind kinds × (IsAsking kind → ⊥))
IsWhy kinds Memory = Unit {0}
