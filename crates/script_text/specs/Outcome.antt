-- What a reader answers, beside what the grammar says.
use Rattle.std.specs.Prelude.{◌≡◌, ℕ, List, Result, Ok, Err}
use Rattle.redo_core.specs.declared.facts.Fact.{Fact}
use Rattle.script_text.specs.Script.{ScriptData, Rostered, rostered}
use Rattle.script_text.specs.declared.script.ScriptBody.{ScriptBody}
use Rattle.script_text.specs.declared.script.FactLog.{FactLog}
use Rattle.script_text.specs.declared.script.Script.{Script}
use Rattle.script_text.specs.declared.script.ScriptError.{ScriptError}
use Rattle.script_text.specs.declared.script.ScriptError.TheVariants.{Memory, BadLine}

abbrev pub log_data : FactLog → Rostered (List Fact)
log_data l = rostered l.roster l.facts.items

abbrev pub asked_data : ScriptBody → ScriptData
asked_data a = record { facts = a.facts.items; nodes = a.nodes; steps = a.steps.items }

abbrev pub script_data : Script → Rostered ScriptData
script_data s = rostered s.roster (record { facts = s.facts.items; nodes = s.nodes; steps = s.steps.items })

abbrev pub Fails : {Y : Type 0} → ScriptError → Result Y ℕ → Type 0
Fails Memory read = Unit {0}
Fails (BadLine at reason) read = read ≡ Err at

-- What a reader returned, seen by view, is what the grammar gives, unless memory ran out.
abbrev pub Gives : {X Y : Type 0} → (X → Y) → Result X ScriptError → Result Y ℕ → Type 0
Gives view (Ok x) read = read ≡ Ok (view x)
Gives view (Err e) read = Fails e read
