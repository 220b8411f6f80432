use Rattle.std.proofs.Common.{ℕ, ◌<◌, inl, inr, ⊎_elim, refl, sym, subst}
use Rattle.std.proofs.lemmas.Bool.{false≢true}
use Rattle.redo_core.specs.Data.{RecordData}
use Rattle.redo_core.specs.Keys.{key_in, key_of, KeyBefore}
use Rattle.redo_core.specs.Standing.{IsAlive}
use Rattle.hot_log.specs.Held.{HasKey}
use Rattle.hot_log.proofs.Climb.{rest_step, above_falls, alive_key}
use Rattle.hot_log.proofs.Since.{rest_since}
use Rattle.hot_log.proofs.Views.{view_of, number_before}
use Rattle.hot_log.proofs.view.BookView.alive_key.Goals as goal

pub loop-key-init : goal.loop-key-init
loop-key-init c = rest_since c.args.self.now.book.now c.args.self.now.held.now c.args.number c.args.since c.start_above-at.result c.start_above-at.ensures.starts c.requires

pub returns-then-is_alive-clause-found : goal.returns-then-is_alive-clause-found
returns-then-is_alive-clause-found c =
    let b = c.args.self.now.book.now in let key = c.in-Some.key in let t = c.in-Some.ensures.next.0 in
    let a : IsAlive b.cuts b.complete t.0.epoch t.0.number = alive_key b t.0 key t.2 (c.if-is_alive.ensures.alive.0 refl) in (
      (t.0, (t.1, a), t.2, c.loop-key.invariant.low t.0.epoch t.0.number a t.3),
      λ r h lt. ⊎_elim
          (λ (k : HasKey key r). inl k)
          (λ (p : KeyBefore key (key_of r)).
          let up : t.0.number < r.number = number_before b.cuts b.complete (view_of b c.if-is_alive.ensures.book) t.0 r a h.1
          (subst (λ (e : ℕ). KeyBefore (key_in e t.0.number) (key_of r)) (sym t.2.0) (subst (λ (n : ℕ). KeyBefore (key_in key.epoch n) (key_of r)) (sym t.2.1) p)) in
          inr (subst (λ (n : ℕ). n < r.number) t.2.1 up))
          (c.in-Some.ensures.next.1 r h.0 (c.loop-key.invariant.above r h.0 h.1 tt lt)),
    )

pub loop-key-smaller : goal.loop-key-smaller
loop-key-smaller c =
    let t = c.in-Some.ensures.next.0 in above_falls c.loop-key.at c.in-Some.key c.args.self.now.held.now t.0 t.1 t.2 t.3

pub loop-key-preserved : goal.loop-key-preserved
loop-key-preserved c =
    let b = c.args.self.now.book.now in let held = c.args.self.now.held.now in let key = c.in-Some.key in let t = c.in-Some.ensures.next.0 in
    let dead : IsAlive b.cuts b.complete key.epoch key.number → ⊥ = λ a. let yes = c.if-is_alive.ensures.alive.1 a in absurd (false≢true yes) in
    let up : KeyBefore c.loop-key.at key = subst (λ (e : ℕ). KeyBefore c.loop-key.at (key_in e key.number)) t.2.0 (subst (λ (n : ℕ). KeyBefore c.loop-key.at (key_in t.0.epoch n)) t.2.1 t.3) in
    rest_step b held (λ (r : RecordData). Unit {0}) c.args.number c.loop-key.at key c.loop-key.invariant (λ r h q p. c.in-Some.ensures.next.1 r h p) up dead

pub returns-clause-found : goal.returns-clause-found
returns-clause-found c = λ r h lt. c.in_default.ensures.next r h.0 (c.loop-key.invariant.above r h.0 h.1 tt lt)
