use Rattle.std.proofs.Common.{length, refl, ap, arith, sym, ◌∙◌, subst}
use Rattle.std.proofs.lemmas.Bool.{false≢true}
use Rattle.redo_core.specs.declared.keys.Key.{Key}
use Rattle.hot_log.specs.Held.{HasKey}
use Rattle.hot_log.proofs.Climb.{alive_key, key_alive}
use Rattle.hot_log.proofs.Keys.{same_epoch}
use Rattle.hot_log.proofs.Keyed.{Entry}
use Rattle.hot_log.proofs.Opening.{all_left, left_behind, first_is_stored, none_behind_waits, none_left}
use Rattle.hot_log.proofs.view.BookView.opens_below.Goals as goal

pub loop-key-init : goal.loop-key-init
loop-key-init c = all_left c.args.self.now.book.now c.args.self.now.held.now c.args.epoch c.args.number c.keys_above-left.result c.keys_above-left.ensures.form c.keys_above-left.ensures.above

pub loop-key-smaller : goal.loop-key-smaller
loop-key-smaller c = let e = ap (λ l. length l) c.in-Some.ensures.steps in omega (arith, e)

pub returns-then-key-complete : goal.returns-then-key-complete
returns-then-key-complete c = (
  λ h. absurd (false≢true h),
  λ h. absurd (none_behind_waits c.args.self.now.book.now c.args.self.now.held.now c.args.epoch c.args.number (c.in-Some.key.now, c.in-Some.redo.now) c.loop-key.left c.next.new.self c.in-Some.ensures.steps c.loop-key.invariant
      (omega (arith, c.if-key-complete.true, same_epoch c.key-key.ensures, c.complete_epoch-complete.ensures.value)) h.0 h.1),
)

pub returns-then-goes_below : goal.returns-then-goes_below
returns-then-goes_below c =
    let b = c.args.self.now.book.now in let r = c.in-Some.redo.now in
    let t = first_is_stored b c.args.self.now.held.now c.args.epoch c.args.number (c.in-Some.key.now, r) c.loop-key.left c.next.new.self c.in-Some.ensures.steps c.loop-key.invariant in
    let key : HasKey c.key-key.result r = subst (λ (k : Key). HasKey k r) (sym c.key-key.ensures) t.1 in
    let goes = c.goes_below.ensures.0 c.if-goes_below.true in
    (λ h. (r, ((t.0, alive_key b r c.key-key.result key goes.0), t.2, goes.1)), λ h. refl)

pub loop-key-preserved : goal.loop-key-preserved
loop-key-preserved c =
    let b = c.args.self.now.book.now in let r = c.in-Some.redo.now in let held = c.args.self.now.held.now in
    let x : Entry = (c.in-Some.key.now, r) in
    let t = first_is_stored b held c.args.epoch c.args.number x c.loop-key.left c.next.new.self c.in-Some.ensures.steps c.loop-key.invariant in
    let key : HasKey c.key-key.result r = subst (λ (k : Key). HasKey k r) (sym c.key-key.ensures) t.1 in
    left_behind b held c.args.epoch c.args.number x c.loop-key.left c.next.new.self c.in-Some.ensures.steps c.loop-key.invariant
    (λ h. false≢true (sym c.if-goes_below.false ∙ c.goes_below.ensures.1 (key_alive b r c.key-key.result key h.0.1, h.2)))

pub returns : goal.returns
returns c = (λ h. absurd (false≢true h), λ h. absurd (none_left c.args.self.now.book.now c.args.self.now.held.now c.args.epoch c.args.number c.loop-key.left c.in_default.ensures.steps.0 c.loop-key.invariant h.0 h.1))
