use Rattle.std.proofs.Common.{IsTrue, refl, sym, ◌∙◌, ap, subst, arith}
use Rattle.std.specs.List.{Contains}
use Rattle.std.proofs.lemmas.Result.{on_ok_weaker}
use Rattle.redo_core.specs.Data.{RecordData}
use Rattle.redo_core.specs.Keys.{key_of}
use Rattle.redo_core.specs.declared.keys.Key.{Key}
use Rattle.segment_theorems.specs.State.{State}
use Rattle.segment_core.specs.Uniting.{HoldsRecord}
use Rattle.segment_core.specs.Transaction.{reached}
use Rattle.segment_join.specs.Holding.{IsNeedless}
use Rattle.segment_join.specs.Knowing.{KnowsKept}
use Rattle.segment_join.proofs.Sparing.{holds_known, holds_spared, holds_copy}
use Rattle.segment_join.proofs.holding.hold_one.Goals as goal

pub is_taken-requires-clause-taken : goal.is_taken-requires-clause-taken
is_taken-requires-clause-taken c = subst (λ (t : State). KnowsKept t c.args.other.now) (sym c.segment.ensures) c.requires.taken

pub returns-then-is_taken-clause-holds : goal.returns-then-is_taken-clause-holds
returns-then-is_taken-clause-holds c =
    let r = c.args.redo.now in
    let has : Contains c.segment.result.now.held r = c.is_taken.ensures c.if-is_taken.true in
    holds_known (reached c.args.union.now) c.args.other.now (key_of r) r (subst (λ (t : State). Contains t.held r) c.segment.ensures has, (refl, refl))

pub returns-then-is_needless-clause-holds : goal.returns-then-is_needless-clause-holds
returns-then-is_needless-clause-holds c =
    let s = reached c.args.union.now in let other = c.args.other.now in let r = c.args.redo.now in
    holds_spared s other (key_of r) r c.opens_form.ensures.form.held.rising (c.requires.held, (refl, refl))
    (subst (λ (t : State). IsNeedless t other r) c.segment-2.ensures (c.is_needless.ensures.0 c.if-is_needless.true))

pub returns-then-holds_key-clause-holds : goal.returns-then-holds_key-clause-holds
returns-then-holds_key-clause-holds c =
    let at = c.holds_key.ensures.0 c.if-holds_key.true in
    holds_known (reached c.args.union.now) c.args.other.now (key_of c.args.redo.now) at.0 (
      subst (λ (t : State). Contains t.held at.0) c.segment-3.ensures at.1,
      (at.2.0 ∙ ap (λ (k : Key). k.epoch) c.key.ensures.value, at.2.1 ∙ ap (λ (k : Key). k.number) c.key.ensures.value),
    )

pub returns-clause-holds : goal.returns-clause-holds
returns-clause-holds c =
    let s = reached c.args.union.now in let other = c.args.other.now in let r = c.args.redo.now in let t = reached c.hold.new.self in
    on_ok_weaker c.hold.result
    (λ (holds : HoldsRecord s c.in_ok-copy.field-0 t).
    holds_copy s other (key_of r) r t c.opens_form.ensures.form.held.rising (c.requires.held, (refl, refl))
    (λ no.
    let yes : IsTrue c.is_needless.result = c.is_needless.ensures.1 (rw c.segment-2.ensures no) in
    absurd (grind (arith, yes, c.if-is_needless.false)))
    (subst (λ (x : RecordData). HoldsRecord s x t) c.in_ok-copy.ensures holds))
    c.hold.ensures.holds
