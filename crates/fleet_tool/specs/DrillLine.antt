-- The arguments of a drill: what its options encode, and within which ranges.
use Rattle.std.specs.Prelude.{◌≡◌, ◌<◌, ◌≤◌, ℕ, List, [], ◌∷◌, Option, Some, codes}
use Rattle.std.specs.Str.Parse.{IsNumeral, digits_value, without_leading_plus}
use Rattle.clap.specs.Words.{Row, Rule, Shape, first_of, new_app, new_rule, one_of}
use Rattle.clap.specs.declared.builder.value_parser.ValueParser.TheVariants as parser
use Rattle.fleet_drill.specs.declared.running.Size.{Size}
use Rattle.fleet_drill.specs.declared.running.Size.TheVariants.{Small, Large}
use Rattle.fleet_tool.specs.declared.drill_line.DrillTask.{DrillTask}

-- 1 to 6 nodes, and 1 to 16 workers of each kind
abbrev pub IsDrillTask : DrillTask → Type 0
IsDrillTask task = (0 < task.nodes) × (task.nodes ≤ 6) × (0 < task.workers) × (task.workers ≤ 16)

-- ---- the options

-- an option with a number from 1 on, and the number where it is left out
abbrev pub number_rule : List ℕ → ℕ → List ℕ → Rule
number_rule name most usual = record (new_rule name) {
  long = Some name;
  value_names = 1;
  parser = Some (parser.Unsigned 1 most);
  defaults = usual ∷ [];
}

abbrev pub size_rule : Rule
size_rule = record (new_rule (codes "size")) {
  long = Some (codes "size");
  value_names = 1;
  defaults = codes "small" ∷ [];
}

abbrev pub drill_shape : Shape
drill_shape = record (new_app (codes "drill")).top {
  rules = number_rule (codes "nodes") 6 (codes "3") ∷ number_rule (codes "workers") 16 (codes "4") ∷ size_rule ∷ [];
}

-- ---- what they encode

abbrev pub size_name : Size → List ℕ
size_name Small = codes "small"
size_name Large = codes "large"

-- the text is there, and encodes the number in decimal digits
abbrev pub EncodesNumber : Option (List ℕ) → ℕ → Type 0
EncodesNumber text n = (digits : List ℕ) × (text ≡ Some digits) × IsNumeral 10 (without_leading_plus digits)
    × (digits_value 10 (without_leading_plus digits) ≡ n)

-- the values of the options, given or left out, encode the drill
pub record EncodesDrill (options : List Row) (task : DrillTask) : Type 0 where
  pub nodes : EncodesNumber (one_of (codes "nodes") options) task.nodes
  pub workers : EncodesNumber (one_of (codes "workers") options) task.workers
  pub size : first_of (codes "size") options ≡ Some (size_name task.size)
