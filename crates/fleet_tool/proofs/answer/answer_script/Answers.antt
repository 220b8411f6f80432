use Rattle.std.proofs.Common.{◌≡◌, Ok, ap, subst, List, rules}
use Rattle.redo_core.specs.Sound.{IsSound}
use Rattle.redo_core.specs.declared.facts.Fact.{Fact}
use Rattle.script_text.specs.Script.{script_of, rostered}
use Rattle.script_text.specs.Outcome.{script_data}
use Rattle.fleet_tool.specs.Explaining.{script_log, log_of}
use Rattle.fleet_tool.specs.declared.job.LinesTask.TheVariants.{Run}
use Rattle.fleet_tool.proofs.Outputs.{run_unsound, run_replies, sound_reason, unsound_reason}
use Rattle.fleet_tool.proofs.answer.answer_script.Goals as goal

pub returns-in-Err-Unsound-clause-output : goal.returns-in-Err-Unsound-clause-output
returns-in-Err-Unsound-clause-output g c =
    let read : script_of c.args.input.items ≡ Ok (script_data c.in-Ok.script) = c.in-Ok.ensures.script in
    let facts : c.deref.result.now ≡ c.in-Ok.script.facts.items = search rules in
    let reported = rw facts at (rw c.in-Err-Unsound.field-0-is at (c.in-Err-Unsound.ensures.unsound)) in
    let says = rw c.in-Err-Unsound.field-0-is at (c.unsound.ensures.says c.in-Ok.script.roster c.in-Ok.script.facts.items) in
    run_unsound (script_of c.args.input.items) (script_data c.in-Ok.script) c.unsound.result read
    (says reported)

pub replies-requires-clause-sound : goal.replies-requires-clause-sound
replies-requires-clause-sound g c =
    let facts : c.deref.result.now ≡ c.in-Ok.script.facts.items = search rules in
    let sound : IsSound c.in-Ok.script.roster c.deref.result.now = c.in-Ok-check_log.ensures.sound in
    subst (λ (fs : List Fact). IsSound c.in-Ok.script.roster fs) facts sound

pub returns-clause-output : goal.returns-clause-output
returns-clause-output g c = run_replies (script_of c.args.input.items) (script_data c.in-Ok.script) c.replies.result c.in-Ok.ensures.script c.replies.ensures.says

pub returns-in-Err-Unsound-clause-reason : goal.returns-in-Err-Unsound-clause-reason
returns-in-Err-Unsound-clause-reason g c explains =
    let read : log_of Run c.args.input.items ≡ Ok (rostered c.in-Ok.script.roster c.in-Ok.script.facts.items) = ap script_log c.in-Ok.ensures.script in
    let facts : c.deref-in-Err-Unsound.result.now ≡ c.in-Ok.script.facts.items = search rules in
    let found = rw facts at (c.in_ok-reason-in-Err-Unsound.ensures explains) in
    unsound_reason Run c.args.input.items (rostered c.in-Ok.script.roster c.in-Ok.script.facts.items) c.in_ok-reason-in-Err-Unsound.reason c.unsound.result
    read found c.unsound.ensures.reason

pub returns-clause-reason : goal.returns-clause-reason
returns-clause-reason g c explains =
    let read : log_of Run c.args.input.items ≡ Ok (rostered c.in-Ok.script.roster c.in-Ok.script.facts.items) = ap script_log c.in-Ok.ensures.script in
    let facts : c.deref.result.now ≡ c.in-Ok.script.facts.items = search rules in
    let sound : IsSound c.in-Ok.script.roster c.deref.result.now = c.in-Ok-check_log.ensures.sound in
    sound_reason Run c.args.input.items (rostered c.in-Ok.script.roster c.in-Ok.script.facts.items) c.replies.result read
    (subst (λ (fs : List Fact). IsSound c.in-Ok.script.roster fs) facts sound) c.replies.ensures.reason
