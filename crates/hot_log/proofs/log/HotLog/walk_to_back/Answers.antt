use Rattle.std.proofs.Common.{ℕ, ⊎_elim, refl, sym, subst}
use Rattle.std.proofs.lemmas.Bool.{false≢true}
use Rattle.redo_core.specs.Keys.{key_in, key_of, KeyBefore}
use Rattle.redo_core.proofs.Pairs.{pair_trans}
use Rattle.hot_log.specs.Held.{HasKey}
use Rattle.hot_log.proofs.Climb.{above_falls}
use Rattle.hot_log.proofs.log.HotLog.walk_to_back.Goals as goal

pub loop-key-init : goal.loop-key-init
loop-key-init c = record { above = λ r h e p. p; later = λ e n p. p }

pub loop-key-smaller : goal.loop-key-smaller
loop-key-smaller c = let u = c.in-Some.ensures.next.0 in above_falls c.loop-key.at c.in-Some.key c.args.self.now u.0 u.1 u.2 u.3

pub loop-key-preserved : goal.loop-key-preserved
loop-key-preserved c =
    let at = c.loop-key.at in let key = c.in-Some.key in
    let u = c.in-Some.ensures.next.0 in
    let up : KeyBefore at key = subst (λ (e : ℕ). KeyBefore at (key_in e key.number)) u.2.0 (subst (λ (n : ℕ). KeyBefore at (key_in u.0.epoch n)) u.2.1 u.3) in
    record {
      above = λ r h e p. ⊎_elim
          (λ (k : HasKey key r). absurd (let yes = c.if-has_back.ensures.1 (r, h, k, e) in false≢true yes))
          (λ (q : KeyBefore key (key_of r)). q)
          (c.in-Some.ensures.next.1 r h (c.loop-key.invariant.above r h e p));
      later = λ e n p. c.loop-key.invariant.later e n (pair_trans at.epoch at.number key.epoch key.number e n up p);
    }

pub returns-then-has_back-clause-next : goal.returns-then-has_back-clause-next
returns-then-has_back-clause-next c =
    let at = c.loop-key.at in let key = c.in-Some.key in
    let t = c.if-has_back.ensures.0 refl in
    let u = c.in-Some.ensures.next.0 in
    let up : KeyBefore at key = subst (λ (e : ℕ). KeyBefore at (key_in e key.number)) u.2.0 (subst (λ (n : ℕ). KeyBefore at (key_in u.0.epoch n)) u.2.1 u.3) in
    let over : KeyBefore at (key_of t.0) = subst (λ (e : ℕ). KeyBefore at (key_in e t.0.number)) (sym t.2.0) (subst (λ (n : ℕ). KeyBefore at (key_in key.epoch n)) (sym t.2.1) up) in (
      (t.0, t.1, t.3, t.2, c.loop-key.invariant.later t.0.epoch t.0.number over),
      λ r h e p. c.in-Some.ensures.next.1 r h (c.loop-key.invariant.above r h e p),
    )

pub returns-clause-next : goal.returns-clause-next
returns-clause-next c = λ r h e p. c.in_default.ensures.next r h (c.loop-key.invariant.above r h e p)
