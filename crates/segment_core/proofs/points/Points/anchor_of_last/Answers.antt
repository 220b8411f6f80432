use Rattle.std.proofs.Common.{◌≡◌, ℕ, min, max, ◌∙◌, ap}
use Rattle.redo_core.specs.Roster.{least}
use Rattle.segment_core.proofs.LastAnchor.{none_found, last_found}
use Rattle.segment_core.proofs.points.Points.anchor_of_last.Goals as goal

pub returns-in-Some : goal.returns-in-Some
returns-in-Some c = λ base low t.
    let p = c.args.self in
    let to : c.min-to.result ≡ min (least c.args.view.now.book.now.points) p.complete = c.min-to.ensures ∙ ap (λ (n : ℕ). min n p.complete) c.min_point.ensures.value in
    let n : c.max.result ≡ max c.in-Some.redo.now.number p.anchor = c.max.ensures ∙ ap (λ (n : ℕ). max n p.anchor) c.number.ensures.value in
    last_found c.args.view.now.book.now c.args.view.now.held.now base c.min-to.result c.max.result p c.in-Some.redo.now low t to c.in-Some.ensures.found n

pub returns-in-None : goal.returns-in-None
returns-in-None c = λ base low t.
    let p = c.args.self in
    let to : c.min-to.result ≡ min (least c.args.view.now.book.now.points) p.complete = c.min-to.ensures ∙ ap (λ (n : ℕ). min n p.complete) c.min_point.ensures.value in
    none_found c.args.view.now.book.now c.args.view.now.held.now base c.min-to.result p low to c.in-None.ensures.found
