use Rattle.std.proofs.lemmas.Grind.{common_steps}
use Rattle.std.proofs.Common.{◌≡◌, Some, None, map, rules, sym, ◌∙◌, arith}
use Rattle.std.proofs.lemmas.Option.{none-some}
use Rattle.segment_core.proofs.Reading.{below, above, shown, true_page}
use Rattle.segment_core.proofs.BlockChain.{tells_broken, tells_whole, not_image, not_memory, within}
use Rattle.segment_core.proofs.segment.Segment.read.Goals as goal

pub returns-then-point-front-clause-result : goal.returns-then-point-front-clause-result
returns-then-point-front-clause-result c = λ roster log facts p sound means. below p c.front-front.result c.args.point
    (c.front-front.ensures.front roster log facts p sound means) c.if-point-front.true

pub returns-then-point-front-clause-broken : goal.returns-then-point-front-clause-broken
returns-then-point-front-clause-broken c = grind (arith, common_steps)

pub returns-then-front-point-clause-result : goal.returns-then-front-point-clause-result
returns-then-front-point-clause-result c = λ roster log facts p sound means. above p c.front-front.result c.args.point
    (c.front-front.ensures.front roster log facts p sound means) c.if-point-front.false c.if-front-point.true

pub returns-then-front-point-clause-broken : goal.returns-then-front-point-clause-broken
returns-then-front-point-clause-broken c = grind (arith, common_steps)

pub returns-in-Some-clause-result : goal.returns-in-Some-clause-result
returns-in-Some-clause-result c = λ roster log facts p sound means.
    let none : c.broken_of.result ≡ None = c.broken_of.ensures.sound roster log facts p sound means
    (within p c.front-front.result c.args.point (c.front-front.ensures.front roster log facts p sound means) c.if-front-point.false) in
    let some : c.broken_of.result ≡ Some c.in-Some.number = c.in-Some.is in
    absurd (none-some c.in-Some.number (sym none ∙ some))

pub returns-in-Some-clause-broken : goal.returns-in-Some-clause-broken
returns-in-Some-clause-broken c = search (rules, tells_broken)

pub returns-in-Ok-clause-result : goal.returns-in-Ok-clause-result
returns-in-Ok-clause-result c = λ roster log facts p sound means. true_page log facts p c.args.self.now c.front-front.result c.args.page c.args.point
    c.in-Ok.image sound means (c.front-front.ensures.front roster log facts p sound means) c.if-point-front.false c.if-front-point.false
    (shown (λ v. map (λ x. x.now) v.items) c.args.self.now c.args.page c.args.point c.in-Ok.image c.records_at-records.result
    c.front-front.ensures.form.book c.front-front.ensures.form.held c.records_at-records.ensures.anew
    c.in-Ok.ensures)

pub returns-in-Ok-clause-own : goal.returns-in-Ok-clause-own
returns-in-Ok-clause-own c =
    shown (λ v. map (λ x. x.now) v.items) c.args.self.now c.args.page c.args.point c.in-Ok.image c.records_at-records.result
    c.front-front.ensures.form.book c.front-front.ensures.form.held c.records_at-records.ensures.anew
    c.in-Ok.ensures

pub returns-in-Ok-clause-broken : goal.returns-in-Ok-clause-broken
returns-in-Ok-clause-broken c = search (rules, tells_whole, not_image)

pub returns-in-Err-clause-broken : goal.returns-in-Err-clause-broken
returns-in-Err-clause-broken c = search (rules, tells_whole, not_memory)

pub returns-in-Some-clause-outside : goal.returns-in-Some-clause-outside
returns-in-Some-clause-outside g c = search rules

pub returns-in-Ok-clause-outside : goal.returns-in-Ok-clause-outside
returns-in-Ok-clause-outside g c = search rules

pub returns-in-Err-clause-outside : goal.returns-in-Err-clause-outside
returns-in-Err-clause-outside g c = search rules
