use Rattle.std.proofs.Common.{◌≡◌, ◌++◌, length, rules}
use Rattle.text.specs.Parts.{parts_at}
use Rattle.script_text.specs.FactLine.{fact_of}
use Rattle.script_text.specs.Script.{lines_from}
use Rattle.script_text.specs.LineReasons.{ExplainsFact}
use Rattle.script_text.specs.TextReasons.{IsReasonFrom}
use Rattle.script_text.specs.declared.reasons.TextReason.TheVariants.{ManyFacts}
use Rattle.script_text.proofs.JoinedLines.{gives_good, gives_bad, bad_explained, handed_on, handed_why, front_fails, front_explained, front_few, behind_fails, behind_explained, both_read}
use Rattle.script_text.proofs.blocks.+blocks.Goals as goal

pub moved-requires-clause-before : goal.moved-requires-clause-before
moved-requires-clause-before g t c =
    let first = gives_good (λ v. v.items) _ _ _ c.in_ok-read.was c.join-read.ensures.first.0 in
    let few = front_few fact_of c.args.at c.args.text.now c.in-Some.first.now c.in-Some.second.now c.in_ok-read.read.items c.in-Some.ensures.cut first in
    search (rules, few)

pub returns-in_err-read-clause-facts : goal.returns-in_err-read-clause-facts
returns-in_err-read-clause-facts g t c =
    handed_on (λ v. v.items) c.from_residual.result c.in_err-read.field-0.0 (lines_from fact_of 0 c.args.at (parts_at 10 c.args.text.now)) c.from_residual.ensures.1
    (front_fails fact_of c.args.at c.args.text.now c.in-Some.first.now c.in-Some.second.now c.in_err-read.field-0.0 c.in-Some.ensures.cut
    (gives_bad (λ v. v.items) _ _ _ c.in_err-read.was c.join-read.ensures.first.0))

pub returns-in_err-read-clause-reason : goal.returns-in_err-read-clause-reason
returns-in_err-read-clause-reason g t c =
    handed_why (IsReasonFrom ExplainsFact ManyFacts 0 c.args.at (parts_at 10 c.args.text.now)) c.from_residual.result c.in_err-read.field-0.0 c.from_residual.ensures.1
    (front_explained ExplainsFact ManyFacts c.args.at c.args.text.now c.in-Some.first.now c.in-Some.second.now c.in_err-read.field-0.0 c.in-Some.ensures.cut
    (bad_explained (IsReasonFrom ExplainsFact ManyFacts 0 c.args.at (parts_at 10 c.in-Some.first.now)) _ _ c.in_err-read.was c.join-read.ensures.first.1))

pub returns-in_err-more-clause-facts : goal.returns-in_err-more-clause-facts
returns-in_err-more-clause-facts g t c =
    let first = gives_good (λ v. v.items) _ _ _ c.in_ok-read.was c.join-read.ensures.first.0 in
    let same : c.len.result ≡ length c.in_ok-read.read.items = search rules in
    let more = rw same at (c.in_err-more.ensures.facts (parts_at 10 c.in-Some.second.now) c.join-read.ensures.second.0) in
    handed_on (λ v. v.items) c.from_residual-in_err-more.result c.in_err-more.field-0.0 (lines_from fact_of 0 c.args.at (parts_at 10 c.args.text.now)) c.from_residual-in_err-more.ensures.1
    (behind_fails fact_of c.args.at c.args.text.now c.in-Some.first.now c.in-Some.second.now c.in_ok-read.read.items c.in_err-more.field-0.0 c.in-Some.ensures.cut first more)

pub returns-in_err-more-clause-reason : goal.returns-in_err-more-clause-reason
returns-in_err-more-clause-reason g t c =
    let first = gives_good (λ v. v.items) _ _ _ c.in_ok-read.was c.join-read.ensures.first.0 in
    let same : c.len.result ≡ length c.in_ok-read.read.items = search rules in
    let more = rw same at (c.in_err-more.ensures.reason (parts_at 10 c.in-Some.second.now) c.join-read.ensures.second.0 c.join-read.ensures.second.1) in
    handed_why (IsReasonFrom ExplainsFact ManyFacts 0 c.args.at (parts_at 10 c.args.text.now)) c.from_residual-in_err-more.result c.in_err-more.field-0.0 c.from_residual-in_err-more.ensures.1
    (behind_explained fact_of ExplainsFact ManyFacts c.args.at c.args.text.now c.in-Some.first.now c.in-Some.second.now c.in_ok-read.read.items c.in_err-more.field-0.0
    c.in-Some.ensures.cut first more)

pub returns-clause-facts : goal.returns-clause-facts
returns-clause-facts g t c =
    let first = gives_good (λ v. v.items) _ _ _ c.in_ok-read.was c.join-read.ensures.first.0 in
    let same : c.len.result ≡ length c.in_ok-read.read.items = search rules in
    let more = rw same at (c.in_ok-more.ensures.facts (parts_at 10 c.in-Some.second.now) c.join-read.ensures.second.0) in
    let joined : c.append.new.self.items ≡ c.in_ok-read.read.items ++ c.in_ok-more.more.items = search rules in
    both_read fact_of c.args.at c.args.text.now c.in-Some.first.now c.in-Some.second.now c.in_ok-read.read.items c.in_ok-more.more.items c.append.new.self.items
    c.in-Some.ensures.cut first more joined
