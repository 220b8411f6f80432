use Rattle.std.proofs.Common.{◌≡◌, ℕ, ◌≤◌, refl, sym, ◌∙◌, subst, List, Some, ◌<◌}
use Rattle.std.proofs.lemmas.Bool.{false≢true}
use Rattle.redo_core.specs.Data.{RecordData}
use Rattle.redo_core.specs.Keys.{key_in, key_of}
use Rattle.redo_core.specs.declared.keys.Key.{Key}
use Rattle.redo_core.specs.Standing.{IsAlive}
use Rattle.hot_log.specs.Held.{HasKey}
use Rattle.hot_log.specs.Alive.{IsPageAlive}
use Rattle.hot_log.specs.Indexing.{IsLastHeld}
use Rattle.hot_log.proofs.Climb.{alive_as, positive}
use Rattle.hot_log.proofs.Descent.{LastUnder, under_start, under_step, under_found, up_to_falls}
use Rattle.hot_log.proofs.Keys.{same_epoch, same_number}
use Rattle.hot_log.proofs.view.BookView.alive_to.Goals as goal

last_of : (held : List RecordData) (page : ℕ) (at key : Key) → IsLastHeld (λ r. r.page) held page at (Some key) → LastUnder held (λ (r : RecordData). r.page ≡ page) at key
last_of held page at key last = let t = last.0 in record { by = t.0; among = t.1; candidate = t.2; has = t.3; under = t.4; last = last.1 }

pub loop-redo-init : goal.loop-redo-init
loop-redo-init c = under_start c.args.self.now.book.now c.args.self.now.held.now (λ (r : RecordData). r.page ≡ c.args.page) c.args.number c.last_key_to-at.result c.last_key_to-at.ensures.parts

pub returns-then-is_alive-clause-found : goal.returns-then-is_alive-clause-found
returns-then-is_alive-clause-found c =
    let b = c.args.self.now.book.now in let held = c.args.self.now.held.now in let x = c.in-Some.redo.now in let page = c.args.page in
    under_found b held (λ (r : RecordData). r.page ≡ page) (λ r. IsPageAlive b held page r × (r.number ≤ c.args.number)) c.args.number c.loop-redo.at (key_of x) (Some x)
    c.if-is_alive.ensures.book c.in-Some.ensures.form c.loop-redo.invariant (last_of held page c.loop-redo.at (key_of x) c.in-Some.ensures.last.1)
    (alive_as b c.key-key.result.epoch c.key-key.result.number x.epoch x.number (same_epoch c.key-key.ensures.value) (same_number c.key-key.ensures.value) (c.if-is_alive.ensures.alive.0 refl)) (c.in-Some.ensures.last.0, (refl, refl))
    (λ r h a q le. ((h, a, q), le)) (λ r p. (p.0.0, p.0.1, p.0.2, p.1))

pub key_down-at-requires : goal.key_down-at-requires
key_down-at-requires c =
    let x = c.in-Some.redo.now in
    subst (λ (n : ℕ). 0 < n) (sym (same_number c.key-key.ensures.value)) (positive x (c.in-Some.ensures.form.shaped x c.in-Some.ensures.last.0))

-- the key that was read off the record
read : (e n epoch number : ℕ) (r : RecordData) → epoch ≡ e → number ≡ n → HasKey (key_in e n) r → HasKey (key_in epoch number) r
read e n epoch number r p q k = (k.0 ∙ sym p, k.1 ∙ sym q)

pub loop-redo-smaller : goal.loop-redo-smaller
loop-redo-smaller c =
    let x = c.in-Some.redo.now in let t = c.in-Some.ensures.last.1.0 in
    up_to_falls c.loop-redo.at c.key-key.result c.key_down-at.result c.args.self.now.held.now t.0 t.1
    (read x.epoch x.number c.key-key.result.epoch c.key-key.result.number t.0 (same_epoch c.key-key.ensures.value) (same_number c.key-key.ensures.value) t.3) t.4 c.key_down-at.ensures.below

pub loop-redo-preserved : goal.loop-redo-preserved
loop-redo-preserved c =
    let b = c.args.self.now.book.now in let held = c.args.self.now.held.now in let x = c.in-Some.redo.now in
    let Q : RecordData → Type 0 = λ (r : RecordData). r.page ≡ c.args.page in
    let key : Key = c.key-key.result in
    let dead : IsAlive b.cuts b.complete key.epoch key.number → ⊥ = λ a. let yes = c.if-is_alive.ensures.alive.1 a in absurd (false≢true yes) in
    let last = subst (LastUnder held Q c.loop-redo.at) (sym c.key-key.ensures.value) (last_of held c.args.page c.loop-redo.at (key_of x) c.in-Some.ensures.last.1) in
    under_step b held Q c.args.number c.loop-redo.at key c.key_down-at.result c.loop-redo.invariant last c.key_down-at.ensures.below c.key_down-at.ensures.spares dead

pub returns-clause-found : goal.returns-clause-found
returns-clause-found c r h = c.loop-redo.invariant.below r h.0.0 h.0.1 h.0.2 h.1 (c.in_default.ensures.last r h.0.0 h.0.2)
