use Rattle.std.proofs.Common.{◌≡◌, true, false, ap, subst, sym, ◌∙◌}
use Rattle.std.proofs.lemmas.Result.{on_err_weaker}
use Rattle.std.proofs.lemmas.Bool.{false≢true}
use Rattle.segment_theorems.specs.State.{State}
use Rattle.segment_core.specs.Refusing.{IsDeadOrSettled}
use Rattle.redo_core.specs.declared.facts.Fact.TheVariants.{Record}
use Rattle.segment_theorems.proofs.Learnt.{takes_record}
use Rattle.segment_theorems.proofs.Knowing.{takes_known}
use Rattle.segment_core.specs.Exactly.{TakesExactly}
use Rattle.segment_core.proofs.Holding.{but_held}
use Rattle.segment_core.proofs.Taking.{settled_exact, put_exact}
use Rattle.segment_core.proofs.segment.Segment.take_record.Goals as goal

pub returns-then-is_stable : goal.returns-then-is_stable
returns-then-is_stable c =
    settled_exact takes_known c.args.self.now c.args.redo (c.is_stable.ensures.0 c.if-is_stable.true)

pub returns : goal.returns
returns c =
    let s = c.args.self.now in let t = c.put.new.self in let p = c.put in
    let compared : IsDeadOrSettled s c.args.redo → ⊥ = λ h. let yes : c.is_stable.result ≡ true = c.is_stable.ensures.1 h in
    let no : c.is_stable.result ≡ false = c.if-is_stable.false in absurd (false≢true (sym no ∙ yes)) in
    subst (TakesExactly s (Record c.args.redo) c.put_answer.result) (but_held s t p.ensures.book p.ensures.rest)
    (put_exact takes_record takes_known s.book s.held t.held s.base s.store c.args.redo p.result c.put_answer.result p.ensures.form compared
    p.ensures.put p.ensures.refused (on_err_weaker p.result (λ (e : t ≡ s). ap (λ (x : State). x.held) e) p.ensures.unchanged) c.put_answer.ensures)
