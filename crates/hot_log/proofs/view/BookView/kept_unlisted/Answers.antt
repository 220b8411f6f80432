use Rattle.std.proofs.Common.{◌≡◌, [], ◌∷◌, ◌++◌, length, map, ap, sym, ◌∙◌, subst, arith}
use Rattle.std.proofs.lemmas.Bool.{false≢true}
use Rattle.std.proofs.lemmas.List.{map-append}
use Rattle.redo_core.specs.Data.{RecordData}
use Rattle.redo_core.specs.Keys.{key_in, key_of}
use Rattle.redo_core.specs.declared.keys.Key.{Key}
use Rattle.redo_core.specs.Order.{Lists, RecordBefore}
use Rattle.hot_log.specs.Kept.{IsKeptUnlisted}
use Rattle.hot_log.proofs.Keyed.{Entry}
use Rattle.hot_log.proofs.Kept.{past_parts, unlisted_of}
use Rattle.hot_log.proofs.KeySearch.{same_key}
use Rattle.hot_log.proofs.Walk.{IsPassedBy, first_stored, on_from, one_more, none_more, none_passed, all_passed}
use Rattle.hot_log.proofs.view.BookView.kept_unlisted.Goals as goal

pub loop-key-init : goal.loop-key-init
loop-key-init c =
    let b = c.args.self.now.book.now in let point = c.args.point in
    let above : Key = key_in c.epoch_above.result point in (
      above,
      c.keys_above-left.ensures.above,
      none_passed (IsKeptUnlisted b c.args.self.now.held.now point c.args.keys.now) above _
          (λ r h. past_parts b point c.epoch_above.result (key_of r) c.epoch_above.ensures.parts c.epoch_above.ensures.known h.0.1) (ap (λ l. map (λ r. r.now) l) c.new-found.ensures.items),
    )

pub loop-key-smaller : goal.loop-key-smaller
loop-key-smaller c = let e = ap (λ l. length l) c.in-Some.ensures.steps in omega (arith, e)

pub loop-key-preserved : goal.loop-key-preserved
loop-key-preserved c =
    let b = c.args.self.now.book.now in let held = c.args.self.now.held.now in
    let w = c.loop-key.invariant in
    let x : Entry = (c.in-Some.key.now, c.in-Some.redo.now) in
    let t = first_stored held w.0 x c.loop-key.left c.next.new.self c.in-Some.ensures.steps w.1 in
    let is : c.key-key.result ≡ key_of x.1 = c.key-key.ensures ∙ same_key x.0 (key_of x.1) (sym t.1.0) (sym t.1.1) in
    let own = unlisted_of b held c.args.point c.args.keys.now c.key-key.result x.1 t.0 is in (
      c.in-Some.key.now,
      on_from held w.0 x c.loop-key.left c.next.new.self c.in-Some.ensures.steps w.1,
      none_more held w.0 x c.loop-key.left c.next.new.self c.in-Some.ensures.steps w.1 (IsKeptUnlisted b held c.args.point c.args.keys.now) _ c.keys_above-left.ensures.form (λ r h. h.0.0) w.2
          (λ h. false≢true (sym c.if-is_unlisted.false ∙ c.is_unlisted.ensures.1 (own.1 h))),
    )

pub returns : goal.returns
returns c =
    let held = c.args.self.now.held.now in
    let w = c.loop-key.invariant in
    all_passed (IsKeptUnlisted c.args.self.now.book.now held c.args.point c.args.keys.now) held w.0 c.loop-key.left _ w.1 c.in_default.ensures.steps.0 (λ r h. h.0.0) w.2

pub loop-key-preserved-in-Continue-1 : goal.loop-key-preserved-in-Continue-1
loop-key-preserved-in-Continue-1 c =
    let b = c.args.self.now.book.now in let held = c.args.self.now.held.now in
    let w = c.loop-key.invariant in
    let x : Entry = (c.in-Some.key.now, c.in-Some.redo.now) in
    let t = first_stored held w.0 x c.loop-key.left c.next.new.self c.in-Some.ensures.steps w.1 in
    let is : c.key-key.result ≡ key_of x.1 = c.key-key.ensures ∙ same_key x.0 (key_of x.1) (sym t.1.0) (sym t.1.1) in
    let own = unlisted_of b held c.args.point c.args.keys.now c.key-key.result x.1 t.0 is in
    let P : RecordData → Type 0 = IsKeptUnlisted b held c.args.point c.args.keys.now in
    let items : map (λ r. r.now) c.push.new.self.items ≡ map (λ r. r.now) c.loop-key.found.items ++ x.1 ∷ [] = rw (c.in_ok-push.ensures.items, map-append) in (
      c.in-Some.key.now,
      on_from held w.0 x c.loop-key.left c.next.new.self c.in-Some.ensures.steps w.1,
      subst (Lists RecordBefore (IsPassedBy P x.0)) (sym items)
          (one_more held w.0 x c.loop-key.left c.next.new.self c.in-Some.ensures.steps w.1 P _ c.keys_above-left.ensures.form (λ r h. h.0.0) w.2 (own.0 (c.is_unlisted.ensures.0 c.if-is_unlisted.true))),
    )

pub loop-key-smaller-in-Continue-1 : goal.loop-key-smaller-in-Continue-1
loop-key-smaller-in-Continue-1 c = let e = ap (λ l. length l) c.in-Some.ensures.steps in omega (arith, e)
