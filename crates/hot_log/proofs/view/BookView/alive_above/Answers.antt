use Rattle.std.proofs.Common.{◌≡◌, ℕ, ◌<◌, refl, sym, subst, Some}
use Rattle.std.proofs.lemmas.Bool.{false≢true}
use Rattle.redo_core.specs.Data.{RecordData}
use Rattle.redo_core.specs.Keys.{key_in, key_of, KeyBefore}
use Rattle.redo_core.specs.declared.keys.Key.{Key}
use Rattle.redo_core.specs.Standing.{IsAlive}
use Rattle.hot_log.specs.Held.{HasKey}
use Rattle.hot_log.specs.Alive.{IsPageAlive}
use Rattle.hot_log.proofs.Climb.{Rest, above, rest_start, rest_step, rest_found, above_falls, alive_as}
use Rattle.hot_log.proofs.Keys.{same_epoch, same_number}
use Rattle.hot_log.proofs.view.BookView.alive_above.Goals as goal

pub loop-redo-init : goal.loop-redo-init
loop-redo-init c = rest_start c.args.self.now.book.now c.args.self.now.held.now (λ (r : RecordData). r.page ≡ c.args.page) c.args.number c.epoch_above.result c.epoch_above.ensures.parts

pub returns-then-is_alive-clause-found : goal.returns-then-is_alive-clause-found
returns-then-is_alive-clause-found c =
    let b = c.args.self.now.book.now in let held = c.args.self.now.held.now in let x = c.in-Some.redo.now in let next = c.in-Some.ensures.next in let t = next.1.0 in
    rest_found b held (λ (r : RecordData). r.page ≡ c.args.page) (λ r. IsPageAlive b held c.args.page r × (c.args.number < r.number)) c.args.number c.loop-redo.at (key_of x) (Some x)
    c.if-is_alive.ensures.book c.in-Some.ensures.form c.loop-redo.invariant (t.0, t.1, t.2, t.3, t.4) next.1.1
    (alive_as b c.key-at.result.epoch c.key-at.result.number x.epoch x.number (same_epoch c.key-at.ensures.value) (same_number c.key-at.ensures.value) (c.if-is_alive.ensures.alive.0 refl))
    (next.0, (refl, refl)) (λ r h a q lt. ((h, a, q), lt)) (λ r p. (p.0.0, p.0.1, p.0.2, p.1))

pub loop-redo-smaller : goal.loop-redo-smaller
loop-redo-smaller c =
    let x = c.in-Some.redo.now in let t = c.in-Some.ensures.next.1.0 in
    subst (λ (key : Key). above key c.args.self.now.held.now < above c.loop-redo.at c.args.self.now.held.now) (sym c.key-at.ensures.value)
    (above_falls c.loop-redo.at (key_of x) c.args.self.now.held.now t.0 t.1 t.3 t.4)

above_record : (at : Key) (x r : RecordData) → HasKey (key_of x) r → KeyBefore at (key_of r) → KeyBefore at (key_of x)
above_record at x r k p = subst (λ (e : ℕ). KeyBefore at (key_in e x.number)) k.0 (subst (λ (n : ℕ). KeyBefore at (key_in r.epoch n)) k.1 p)

pub loop-redo-preserved : goal.loop-redo-preserved
loop-redo-preserved c =
    let b = c.args.self.now.book.now in let held = c.args.self.now.held.now in let x = c.in-Some.redo.now in let t = c.in-Some.ensures.next.1.0 in
    let dead = λ (a : IsAlive b.cuts b.complete x.epoch x.number).
    let is = c.if-is_alive.ensures.alive.1 (alive_as b x.epoch x.number c.key-at.result.epoch c.key-at.result.number (sym (same_epoch c.key-at.ensures.value)) (sym (same_number c.key-at.ensures.value)) a) in absurd (false≢true is) in
    let up = above_record c.loop-redo.at x t.0 t.3 t.4 in
    subst (Rest b held (λ (r : RecordData). r.page ≡ c.args.page) c.args.number) (sym c.key-at.ensures.value)
    (rest_step b held (λ (r : RecordData). r.page ≡ c.args.page) c.args.number c.loop-redo.at (key_of x) c.loop-redo.invariant c.in-Some.ensures.next.1.1 up dead)

pub returns-clause-found : goal.returns-clause-found
returns-clause-found c = λ r p. c.in_default.ensures.next r p.0.0 p.0.2 (c.loop-redo.invariant.above r p.0.0 p.0.1 p.0.2 p.1)
