use Rattle.std.proofs.Common.{◌≡◌, Ok, length, rules}
use Rattle.script_text.specs.Script.{facts_of}
use Rattle.script_text.specs.Outcome.{log_data}
use Rattle.fleet_tool.specs.declared.job.LinesTask.TheVariants.{Check}
use Rattle.fleet_tool.proofs.Outputs.{check_unsound, check_sound, unsound_reason}
use Rattle.fleet_tool.proofs.answer.answer_facts.Goals as goal

pub returns-in-Err-Unsound-clause-output : goal.returns-in-Err-Unsound-clause-output
returns-in-Err-Unsound-clause-output g c =
    let read : facts_of c.args.input.items ≡ Ok (log_data c.in-Ok.log) = c.in-Ok.ensures.log in
    let facts : c.deref.result.now ≡ c.in-Ok.log.facts.items = search rules in
    let reported = rw facts at (rw c.in-Err-Unsound.field-0-is at (c.in-Err-Unsound.ensures.unsound)) in
    let says = rw c.in-Err-Unsound.field-0-is at (c.unsound.ensures.says c.in-Ok.log.roster c.in-Ok.log.facts.items) in
    check_unsound (facts_of c.args.input.items) (log_data c.in-Ok.log) c.unsound.result read (says reported)

pub returns-clause-output : goal.returns-clause-output
returns-clause-output g c =
    let read : facts_of c.args.input.items ≡ Ok (log_data c.in-Ok.log) = c.in-Ok.ensures.log in
    let facts : c.deref.result.now ≡ c.in-Ok.log.facts.items = search rules in
    let many : c.len-facts.result ≡ length c.in-Ok.log.facts.items = search rules in
    let sound = rw facts at c.in-Ok-check_log.ensures.sound in
    check_sound (facts_of c.args.input.items) (log_data c.in-Ok.log) c.count.result read sound (rw many at c.count.ensures.text) c.count.ensures.verdict

pub returns-in-Err-Unsound-clause-reason : goal.returns-in-Err-Unsound-clause-reason
returns-in-Err-Unsound-clause-reason g c explains =
    let read : facts_of c.args.input.items ≡ Ok (log_data c.in-Ok.log) = c.in-Ok.ensures.log in
    let facts : c.deref-in-Err-Unsound.result.now ≡ c.in-Ok.log.facts.items = search rules in
    let found = rw facts at (c.in_ok-reason-in-Err-Unsound.ensures explains) in
    unsound_reason Check c.args.input.items (log_data c.in-Ok.log) c.in_ok-reason-in-Err-Unsound.reason c.unsound.result read found c.unsound.ensures.reason
