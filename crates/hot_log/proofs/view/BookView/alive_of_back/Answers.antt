use Rattle.std.proofs.Common.{◌≡◌, ℕ, ◌<◌, ◌≤◌, ⊎_elim, refl, sym, subst, arith, rules}
use Rattle.std.proofs.lemmas.Bool.{false≢true}
use Rattle.redo_core.specs.Keys.{key_in, key_of, KeyBefore}
use Rattle.redo_core.specs.declared.keys.Key.{Key}
use Rattle.redo_core.specs.Standing.{IsAlive}
use Rattle.redo_core.proofs.Pairs.{pair_trans}
use Rattle.epoch_book.specs.Book.{BookData}
use Rattle.hot_log.specs.Held.{HasKey}
use Rattle.hot_log.proofs.Climb.{above_falls, alive_key, key_alive}
use Rattle.hot_log.proofs.Since.{over_start}
use Rattle.hot_log.proofs.view.BookView.alive_of_back.Goals as goal
use Rattle.hot_log.proofs.view.BookView.alive_of_back.Goals.{then-is_up_to, else-is_up_to}

over_after : (after at low : Key) (e n : ℕ) → at ≡ low → (KeyBefore low after → ⊥) → KeyBefore at (key_in e n) → KeyBefore after (key_in e n)
over_after after at low e n is not p = search rules

waits : (b : BookData) (key : Key) (e n : ℕ) → b.complete < key.epoch → IsAlive b.cuts b.complete e n → (key.epoch ≡ e → ⊥) × (KeyBefore key (key_in e n) → ⊥)
waits b key e n over a = let known : e ≤ b.complete = a.known in (λ p. omega arith, λ p. grind arith)

pub loop-key-init : goal.loop-key-init
loop-key-init c = elim c.if-is_up_to.branch [
  | then-is_up_to w ↦ record {
    above = λ form r h e p. subst (λ (k : Key). KeyBefore k (key_of r)) (sym w.at-is)
        (over_start c.args.self.now.book.now c.args.self.now.held.now c.args.back c.args.since c.start_above-low.result c.start_above-low.ensures.starts c.requires form r h e);
    later = λ e n p. over_after c.args.after c.if-is_up_to.at c.start_above-low.result e n w.at-is (c.is_up_to.ensures.0 w.if-is_up_to.true) p;
  }
  | else-is_up_to w ↦ record {
    above = λ form r h e p. subst (λ (k : Key). KeyBefore k (key_of r)) (sym w.at-is) p;
    later = λ e n p. subst (λ (k : Key). KeyBefore k (key_in e n)) w.at-is p;
  }
]

pub returns-then-key-complete-clause-found : goal.returns-then-key-complete-clause-found
returns-then-key-complete-clause-found c = λ r h e p.
    let key = c.in-Some.key in
    let over : c.args.self.now.book.now.complete < key.epoch = let same : c.complete_epoch-complete.result ≡ c.args.self.now.book.now.complete = c.complete_epoch-complete.ensures.value in omega (arith, c.if-key-complete.true) in
    let no = waits c.args.self.now.book.now key r.epoch r.number over h.1 in
    ⊎_elim
    (λ (k : HasKey key r). no.0 (sym k.0))
    (λ (q : KeyBefore key (key_of r)). no.1 q)
    (c.in-Some.ensures.next.1 r h.0 e (c.loop-key.invariant.above c.in-Some.ensures.form r h e p))

pub returns-then-is_alive-clause-found : goal.returns-then-is_alive-clause-found
returns-then-is_alive-clause-found c =
    let b = c.args.self.now.book.now in let key = c.in-Some.key in let t = c.in-Some.ensures.next.0 in
    let a : IsAlive b.cuts b.complete t.0.epoch t.0.number = alive_key b t.0 key t.3 (c.if-is_alive.ensures.alive.0 refl) in (
      (t.0, (t.1, a), t.2, t.3, c.loop-key.invariant.later t.0.epoch t.0.number t.4),
      λ r h e p. c.in-Some.ensures.next.1 r h.0 e (c.loop-key.invariant.above c.in-Some.ensures.form r h e p),
    )

pub loop-key-smaller : goal.loop-key-smaller
loop-key-smaller c =
    let t = c.in-Some.ensures.next.0 in above_falls c.loop-key.at c.in-Some.key c.args.self.now.held.now t.0 t.1 t.3 t.4

pub loop-key-preserved : goal.loop-key-preserved
loop-key-preserved c =
    let key = c.in-Some.key in
    let at = c.loop-key.at in
    let t = c.in-Some.ensures.next.0 in
    let up : KeyBefore at key = subst (λ (e : ℕ). KeyBefore at (key_in e key.number)) t.3.0 (subst (λ (n : ℕ). KeyBefore at (key_in t.0.epoch n)) t.3.1 t.4) in
    record {
      above = λ form r h e p. ⊎_elim
          (λ (k : HasKey key r). absurd (let yes = c.if-is_alive.ensures.alive.1 (key_alive c.args.self.now.book.now r key k h.1) in false≢true yes))
          (λ (q : KeyBefore key (key_of r)). q)
          (c.in-Some.ensures.next.1 r h.0 e (c.loop-key.invariant.above form r h e p));
      later = λ e n p. c.loop-key.invariant.later e n (pair_trans at.epoch at.number key.epoch key.number e n up p);
    }

pub returns-clause-found : goal.returns-clause-found
returns-clause-found c = λ r h e p. c.in_default.ensures.next r h.0 e (c.loop-key.invariant.above c.in_default.ensures.form r h e p)
