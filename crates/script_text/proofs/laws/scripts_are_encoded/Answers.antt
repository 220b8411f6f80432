use Rattle.script_text.proofs.Rosters.{scripts_are_encoded, logs_are_encoded}
use Rattle.script_text.proofs.laws.scripts_are_encoded.Goals as goal

pub returns : goal.returns
returns c = record { script = scripts_are_encoded; log = logs_are_encoded }
