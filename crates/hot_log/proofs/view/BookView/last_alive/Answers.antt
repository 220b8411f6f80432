use Rattle.std.proofs.Common.{ℕ, ◌<◌, ◌≤◌, refl, subst, Some, List}
use Rattle.std.specs.Option.{option_copied}
use Rattle.std.proofs.lemmas.Bool.{false≢true}
use Rattle.redo_core.specs.Data.{RecordData}
use Rattle.redo_core.specs.declared.keys.Key.{Key}
use Rattle.redo_core.specs.Standing.{IsAlive}
use Rattle.hot_log.specs.Held.{IsKeyTo}
use Rattle.hot_log.specs.Alive.{IsHeldAlive}
use Rattle.hot_log.proofs.Climb.{positive}
use Rattle.hot_log.proofs.Descent.{LastUnder, under_start, under_step, under_found, up_to_falls}
use Rattle.hot_log.proofs.view.BookView.last_alive.Goals as goal

abbrev Any : RecordData → Type 0
Any r = Unit {0}

last_of : (held : List RecordData) (at key : Key) → IsKeyTo held at (Some key) → LastUnder held Any at key
last_of held at key last = let t = last.0 in record { by = t.0; among = t.1; candidate = tt; has = t.2; under = t.3; last = λ r h q not. last.1 r h not }

pub loop-key-init : goal.loop-key-init
loop-key-init c = under_start c.args.self.now.book.now c.args.self.now.held.now Any c.args.to c.last_key_to-at.result c.last_key_to-at.ensures.parts

pub returns-then-is_alive-clause-found : goal.returns-then-is_alive-clause-found
returns-then-is_alive-clause-found c =
    let b = c.args.self.now.book.now in let held = c.args.self.now.held.now in let key = c.in-Some.key in
    under_found b held Any (λ r. IsHeldAlive b held r × (r.number ≤ c.args.to)) c.args.to c.loop-key.at key (option_copied c.get.result)
    c.if-is_alive.ensures.book c.in-Some.ensures.form c.loop-key.invariant (last_of held c.loop-key.at key c.in-Some.ensures.last)
    (c.if-is_alive.ensures.alive.0 refl) c.get.ensures
    (λ r h a q le. ((h, a), le)) (λ r p. (p.0.0, p.0.1, tt, p.1))

pub key_down-at-requires : goal.key_down-at-requires
key_down-at-requires c =
    let t = c.in-Some.ensures.last.0 in
    subst (λ (n : ℕ). 0 < n) t.2.1 (positive t.0 (c.in-Some.ensures.form.shaped t.0 t.1))

pub loop-key-smaller : goal.loop-key-smaller
loop-key-smaller c =
    let t = c.in-Some.ensures.last.0 in
    up_to_falls c.loop-key.at c.in-Some.key c.key_down-at.result c.args.self.now.held.now t.0 t.1 t.2 t.3 c.key_down-at.ensures.below

pub loop-key-preserved : goal.loop-key-preserved
loop-key-preserved c =
    let b = c.args.self.now.book.now in let held = c.args.self.now.held.now in let key = c.in-Some.key in
    let dead : IsAlive b.cuts b.complete key.epoch key.number → ⊥ = λ a. let yes = c.if-is_alive.ensures.alive.1 a in absurd (false≢true yes) in
    under_step b held Any c.args.to c.loop-key.at key c.key_down-at.result c.loop-key.invariant (last_of held c.loop-key.at key c.in-Some.ensures.last)
    c.key_down-at.ensures.below c.key_down-at.ensures.spares dead

pub returns-clause-found : goal.returns-clause-found
returns-clause-found c r p = c.loop-key.invariant.below r p.0.0 p.0.1 tt p.1 (c.in_default.ensures.last r p.0.0)
