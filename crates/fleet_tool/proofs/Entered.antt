-- The subcommand that a parse entered, and the arguments that name it.
use Rattle.std.proofs.Common.{◌≡◌, ◌∙◌, ◌↔◌, ℕ, List, [], ◌∷◌, Option, Some, None, Result, Ok, Bool, IsTrue, option_map, map, Box, codes, true, false, refl, sym, subst, ap, get_or, arith}
use Rattle.std.specs.List.{list_any}
use Rattle.std.specs.Str.{bytes_eq}
use Rattle.std.specs.Box.{box_value}
use Rattle.clap.specs.Words.{App, HasMatchesOf, Row, is_simple, subcommand_name_of, subcommand_rows_of}
use Rattle.clap.specs.Simple.{subcommand_rows}
use Rattle.clap.specs.declared.parser.matches.ArgMatches.{ArgMatches}
use Rattle.clap.specs.declared.parser.matches.ArgMatches.TheViews.{out-ArgMatches, out-SubCommand}
use Rattle.clap.specs.declared.parser.matches.SubCommand.{SubCommand}
use Rattle.clap.proofs.OnLiterals.{clap_on_literals}
use Rattle.clap.proofs.WalkLemmas.{list_any-map}
use Rattle.fleet_tool.specs.CommandLine.{AsksDrill, NameTask, NameExplained, fleet_app, line_faults, subcommand_in}
use Rattle.fleet_tool.specs.DrillLine.{IsDrillTask, EncodesDrill}
use Rattle.fleet_tool.specs.declared.job.CommandFault.{CommandFault}
use Rattle.fleet_tool.specs.declared.job.Task.{Task}
use Rattle.fleet_tool.specs.declared.job.Task.TheVariants.{Drill}
use Rattle.fleet_tool.specs.declared.drill_line.DrillTask.{DrillTask}
use Rattle.fleet_tool.specs.TaskName.{name_of, as_text_task}
use Rattle.fleet_tool.specs.declared.job.TextTask.{TextTask}
use Rattle.fleet_tool.specs.declared.job.TextTask.TheVariants.{Run, Check, Inspect}
use Rattle.fleet_tool.specs.declared.job.LinesTask.{LinesTask}
use Rattle.fleet_tool.specs.declared.job.LinesTask.TheVariants as lines

-- the name and the rows of one subcommand
rows_by_name : {Z : Type 0} (o : Option (Box SubCommand Z)) (name : List ℕ) (rows : List Row)
    → option_map (λ b. (out-SubCommand (box_value b)).name.now) o ≡ Some name
    → option_map (λ p. p.1) (subcommand_rows o) ≡ Some rows → subcommand_rows o ≡ Some (name, rows)
rows_by_name None name rows is has = absurd cc
rows_by_name (Some b) name rows is has = cc

name_by_rows : {Z : Type 0} (o : Option (Box SubCommand Z)) (name : List ℕ) (rows : List Row) → subcommand_rows o ≡ Some (name, rows)
    → option_map (λ b. (out-SubCommand (box_value b)).name.now) o ≡ Some name
name_by_rows None name rows is = absurd cc
name_by_rows (Some b) name rows is = ap (λ (o : Option (List ℕ × List Row)). option_map (λ p. p.0) o) is

pub entered_rows : (m : ArgMatches) (name : List ℕ) (rows : List Row) → subcommand_name_of m ≡ Some name
    → option_map (λ p. p.1) (subcommand_rows_of m) ≡ Some rows → subcommand_rows_of m ≡ Some (name, rows)
entered_rows m name rows is has = rows_by_name (out-ArgMatches m).subcommand name rows is has

pub entered_name : (m : ArgMatches) (name : List ℕ) (rows : List Row) → subcommand_rows_of m ≡ Some (name, rows) → subcommand_name_of m ≡ Some name
entered_name m name rows is = name_by_rows (out-ArgMatches m).subcommand name rows is

simple : is_simple fleet_app ≡ true
unfolding clap_on_literals
simple = refl

-- the subcommand that a parse entered is the one that the arguments name
pub entered_is : (m : ArgMatches) (words : List (List ℕ)) (app : App) → app ≡ fleet_app → HasMatchesOf app words m → subcommand_rows_of m ≡ subcommand_in words
unfolding subcommand_in
entered_is m words app is has =
    let whole = subst (λ (a : App). HasMatchesOf a words m) is has in (whole simple).1

-- the first of a pair that is there
name_alone : (o : Option (List ℕ × List Row)) (name : List ℕ) → option_map (λ p. p.0) o ≡ Some name → (rows : List Row) × (o ≡ Some (name, rows))
name_alone None name is = absurd cc
name_alone (Some p) name is = let e : p.0 ≡ name = cc in (p.1, ap (λ n. Some (n, p.1)) e)

pub entered_first : (m : ArgMatches) (words : List (List ℕ)) (name : List ℕ) → subcommand_rows_of m ≡ subcommand_in words
    → option_map (λ p. p.0) (subcommand_in words) ≡ Some name → subcommand_name_of m ≡ Some name
entered_first m words name entered is =
    let named = name_alone (subcommand_in words) name is in entered_name m name named.0 (entered ∙ named.1)

-- the arguments of a text's task enter it, with the option too
pub enters : (program : List ℕ) (task : TextTask) → option_map (λ p. p.0) (subcommand_in (program ∷ name_of task ∷ [])) ≡ Some (name_of task)
unfolding clap_on_literals subcommand_in
enters program Run = refl
enters program Check = refl
enters program Inspect = refl

pub enters_explained : (program : List ℕ) (task : LinesTask)
    → option_map (λ p. p.0) (subcommand_in (program ∷ name_of (as_text_task task) ∷ codes "--explain" ∷ [])) ≡ Some (name_of (as_text_task task))
unfolding clap_on_literals subcommand_in
enters_explained program lines.Run = refl
enters_explained program lines.Check = refl

first_differs : (n : ℕ) → n ≡ 100 → (n ≡ 100 → ⊥) → ⊥
first_differs n is differs = differs is

-- and that is no drill
pub no_drill : (task : TextTask) → name_of task ≡ codes "drill" → ⊥
no_drill Run e = first_differs 114 (ap (λ (t : List ℕ). get_or t 0 0) e) (omega arith)
no_drill Check e = first_differs 99 (ap (λ (t : List ℕ). get_or t 0 0) e) (omega arith)
no_drill Inspect e = first_differs 105 (ap (λ (t : List ℕ). get_or t 0 0) e) (omega arith)

-- arguments that name a text's task enter no drill
other_entered : (m : ArgMatches) (task : TextTask) → subcommand_name_of m ≡ Some (name_of task) → subcommand_name_of m ≡ Some (codes "drill") → ⊥
other_entered m task name is = no_drill task cc

pub no_drill_entered : (m : ArgMatches) (words : List (List ℕ)) (task : TextTask) → subcommand_rows_of m ≡ subcommand_in words → NameTask words task
    → subcommand_name_of m ≡ Some (codes "drill") → ⊥
no_drill_entered m words task entered names is =
    other_entered m task (entered_first m words (name_of task) entered (rw names.1 (enters names.0 task))) is

pub no_drill_explained : (m : ArgMatches) (words : List (List ℕ)) (task : LinesTask) → subcommand_rows_of m ≡ subcommand_in words → NameExplained words task
    → subcommand_name_of m ≡ Some (codes "drill") → ⊥
no_drill_explained m words task entered names is =
    other_entered m (as_text_task task) (entered_first m words (name_of (as_text_task task)) entered (rw names.1 (enters_explained names.0 task))) is

-- arguments that ask for a drill enter it
pub drill_entered : (m : ArgMatches) (words : List (List ℕ)) (task : DrillTask) → subcommand_rows_of m ≡ subcommand_in words → AsksDrill words task
    → subcommand_name_of m ≡ Some (codes "drill")
drill_entered m words task entered asks = entered_name m (codes "drill") asks.options (entered ∙ asks.names)

-- and encode it by the options that were found
pub drill_encoded : (m : ArgMatches) (words : List (List ℕ)) (task : DrillTask) (options : List Row) → subcommand_rows_of m ≡ subcommand_in words
    → AsksDrill words task → option_map (λ p. p.1) (subcommand_rows_of m) ≡ Some options → EncodesDrill options task
drill_encoded m words task options entered asks found =
    let seen : option_map (λ p. p.1) (subcommand_rows_of m) ≡ Some asks.options =
    ap (λ (o : Option (List ℕ × List Row)). option_map (λ p. p.1) o) (entered ∙ asks.names) in
    let same : asks.options ≡ options = cc in
    subst (λ (rows : List Row). EncodesDrill rows task) same asks.encodes

-- a drill that was found is asked for
pub drill_asked : (m : ArgMatches) (words : List (List ℕ)) (found task : DrillTask) (options : List Row) → subcommand_rows_of m ≡ subcommand_in words
    → subcommand_name_of m ≡ Some (codes "drill") → option_map (λ p. p.1) (subcommand_rows_of m) ≡ Some options → EncodesDrill options found
    → line_faults words ≡ [] → list_any (λ word. bytes_eq word (codes "--")) words ≡ false → found ≡ task → AsksDrill words task
drill_asked m words found task options entered name rows encodes right whole same = record {
  options = options;
  names = sym entered ∙ entered_rows m (codes "drill") options name rows;
  encodes = subst (EncodesDrill options) same encodes;
  right = right;
  whole = whole;
}

pub same_drill : (found task : DrillTask) → ◌≡◌ {A = Result Task CommandFault} (Ok (Drill found)) (Ok (Drill task)) → found ≡ task
same_drill found task is = cc

pub true_is_false : (b : Bool) → b ≡ true → b ≡ false → ⊥
true_is_false b holds fails = absurd cc

-- a drill that is out of range is not the one that is asked for
pub out_of_range : (found task : DrillTask) (b : Bool) → Some found ≡ Some task → IsTrue b ↔ IsDrillTask found → b ≡ false → IsDrillTask task → ⊥
out_of_range found task b is tells out range =
    let same : task ≡ found = cc in
    true_is_false b (tells.1 (subst IsDrillTask same range)) out

-- whether an argument is the mark, by the texts of arguments
pub mark_is : {S : Type 0} (text : S → List ℕ) (ws : List S) (b : Bool) → b ≡ list_any (λ w. bytes_eq (text w) (codes "--")) ws
    → list_any (λ word. bytes_eq word (codes "--")) (map text ws) ≡ b
mark_is text ws b is = sym (is ∙ list_any-map (λ word. bytes_eq word (codes "--")) text ws)
