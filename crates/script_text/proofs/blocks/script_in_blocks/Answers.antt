use Rattle.std.proofs.Common.{◌≡◌, ◌+◌, length, sym, arith, rules}
use Rattle.text.specs.Parts.{parts_at}
use Rattle.script_text.specs.Script.{script_from}
use Rattle.script_text.specs.Outcome.{asked_data}
use Rattle.script_text.specs.TextReasons.{IsNodesReason, IsScriptReason}
use Rattle.script_text.proofs.JoinedLines.{gives_same, handed_on, handed_why}
use Rattle.script_text.proofs.StoppedLines.{result_more}
use Rattle.script_text.proofs.RoundGo.{go_fails, go_explained, go_few, go_read, go_why}
use Rattle.script_text.proofs.blocks.script_in_blocks.Goals as goal

pub returns-in_err-facts-clause-asked : goal.returns-in_err-facts-clause-asked
returns-in_err-facts-clause-asked g c =
    handed_on asked_data c.from_residual.result c.in_err-facts.field-0.0 (script_from 0 c.args.at (parts_at 10 c.args.text.now)) c.from_residual.ensures.1
    (go_fails c.args.at c.args.text.now c.in-Some.before.now c.in-Some.behind.now c.in_err-facts.field-0.0 c.in-Some.ensures c.in_err-facts.ensures.facts)

pub returns-in_err-facts-clause-reason : goal.returns-in_err-facts-clause-reason
returns-in_err-facts-clause-reason g c =
    handed_why (IsScriptReason 0 c.args.at (parts_at 10 c.args.text.now)) c.from_residual.result c.in_err-facts.field-0.0 c.from_residual.ensures.1
    (go_explained c.args.at c.args.text.now c.in-Some.before.now c.in-Some.behind.now c.in_err-facts.field-0.0 c.in-Some.ensures c.in_err-facts.ensures.reason)

pub after_go-requires-clause-facts : goal.after_go-requires-clause-facts
after_go-requires-clause-facts g c =
    go_few c.args.at c.args.text.now c.in-Some.before.now c.in-Some.behind.now c.in_ok-facts.facts.items c.in-Some.ensures c.in_ok-facts.ensures.facts

pub after_go-requires-clause-at : goal.after_go-requires-clause-at
after_go-requires-clause-at g c =
    let same : c.len.result ≡ length c.in_ok-facts.facts.items = search rules in
    let few = go_few c.args.at c.args.text.now c.in-Some.before.now c.in-Some.behind.now c.in_ok-facts.facts.items c.in-Some.ensures c.in_ok-facts.ensures.facts in
    omega (arith, same, few, c.requires)

pub returns-clause-asked : goal.returns-clause-asked
returns-clause-asked g c =
    let same : c.len.result ≡ length c.in_ok-facts.facts.items = search rules in
    let place : c.args.at + c.len.result + 1 ≡ c.args.at + length c.in_ok-facts.facts.items + 1 = omega (arith, same) in
    let whole = go_read c.args.at c.args.text.now c.in-Some.before.now c.in-Some.behind.now c.in_ok-facts.facts.items c.in-Some.ensures c.in_ok-facts.ensures.facts in
    gives_same asked_data c.after_go.result _ _ (sym whole) (rw place at c.after_go.ensures.asked)

pub returns-clause-reason : goal.returns-clause-reason
returns-clause-reason g c =
    let same : c.len.result ≡ length c.in_ok-facts.facts.items = search rules in
    let place : c.args.at + c.len.result + 1 ≡ c.args.at + length c.in_ok-facts.facts.items + 1 = omega (arith, same) in
    result_more (IsNodesReason (length c.in_ok-facts.facts.items) (c.args.at + length c.in_ok-facts.facts.items + 1) (parts_at 10 c.in-Some.behind.now))
    (IsScriptReason 0 c.args.at (parts_at 10 c.args.text.now)) c.after_go.result
    (λ stop reason h. go_why c.args.at c.args.text.now c.in-Some.before.now c.in-Some.behind.now c.in_ok-facts.facts.items stop reason c.in-Some.ensures
    c.in_ok-facts.ensures.facts h)
    (rw place at c.after_go.ensures.reason)
