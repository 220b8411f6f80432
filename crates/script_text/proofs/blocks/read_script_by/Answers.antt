use Rattle.std.proofs.Common.{◌+◌}
use Rattle.text.specs.Parts.{parts_at}
use Rattle.script_text.specs.Outcome.{asked_data}
use Rattle.script_text.proofs.Rosters.{asked_in_range}
use Rattle.script_text.proofs.blocks.read_script_by.Goals as goal

pub returns-clause-range : goal.returns-clause-range
returns-clause-range g c =
    let opening = c.read_opening-opening.result in
    asked_in_range (opening.lines + 1) (parts_at 10 opening.rest.now) (asked_data c.in_ok-facts.field-0) c.in_ok-facts.ensures.asked
