use Rattle.std.proofs.Common.{◌≡◌, ℕ, List, Some, ap, sym, ◌∙◌, rules}
use Rattle.redo_core.specs.Shape.{max_readers}
use Rattle.text.specs.Fields.{numbers_of}
use Rattle.text.specs.Parts.{parts_at}
use Rattle.script_text.specs.FactReasons.{point_limits, advance_limits}
use Rattle.script_text.proofs.FormLines.{numbers_long, two_are, three_are}
use Rattle.script_text.proofs.AdvanceLine.{two_result, three_result}
use Rattle.script_text.proofs.fact_line.advance_line.Goals as goal

pub returns-in-Some-clause-reason : goal.returns-in-Some-clause-reason
returns-in-Some-clause-reason c =
    let fields = parts_at 32 c.args.fields.now in
    let ns : List ℕ = c.in-Some.numbers in
    let read = sym c.in-Some.ensures.value in
    let long = numbers_long point_limits fields ns read in
    two_result fields _ _ c.advance.result (read ∙ ap (λ (t : List ℕ). Some t) (two_are ns long)) c.advance.ensures.reason

pub returns-in-Some-three_fields-clause-reason : goal.returns-in-Some-three_fields-clause-reason
returns-in-Some-three_fields-clause-reason c =
    let fields = parts_at 32 c.args.fields.now in
    let ns : List ℕ = c.in-Some-three_fields.numbers in
    let limit : c.from.result ≡ max_readers = search rules in
    let read : numbers_of advance_limits fields ≡ Some ns = rw limit at (sym c.in-Some-three_fields.ensures.value) in
    let long = numbers_long advance_limits fields ns read in
    three_result fields _ _ _ c.advance-in-Some-three_fields.result (read ∙ ap (λ (t : List ℕ). Some t) (three_are ns long)) c.advance-in-Some-three_fields.ensures.reason
