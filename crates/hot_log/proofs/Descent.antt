-- Searches that go down from key to key.
use Rattle.std.proofs.Common.{◌≡◌, ℕ, ◌<◌, ◌≤◌, ◌⊎◌, inl, inr, ⊎_elim, List, sym, ◌∙◌, subst, arith, Option, Some, None}
use Rattle.std.specs.List.{Contains}
use Rattle.std.proofs.lemmas.Bool.{cases_lt}
use Rattle.redo_core.specs.Data.{RecordData}
use Rattle.redo_core.specs.Keys.{key_in, key_of, KeyBefore}
use Rattle.redo_core.specs.declared.keys.Key.{Key}
use Rattle.redo_core.specs.Order.{PairBefore}
use Rattle.redo_core.specs.Standing.{IsAlive}
use Rattle.epoch_book.specs.Book.{BookData, IsBook}
use Rattle.hot_log.specs.Held.{IsHeld, HasKey, IsRecordAt}
use Rattle.hot_log.specs.Alive.{PartsAtKey}
use Rattle.hot_log.specs.Found.{IsGreatestRecord}
use Rattle.hot_log.proofs.Indexed.{one_key}
use Rattle.hot_log.proofs.Views.{view_of, number_before}
use Rattle.hot_log.proofs.Climb.{alive_key, key_alive, up_to, fewer, not_after, past, still, passed}

-- what is left of a search downwards from an LSN: the candidates, which have Q, are at or below a key, and what is at or below it is at most the LSN
pub record Under (b : BookData) (held : List RecordData) (Q : RecordData → Type 0) (number : ℕ) (at : Key) : Type 0 where
  pub below : (r : RecordData) → Contains held r → IsAlive b.cuts b.complete r.epoch r.number → Q r → r.number ≤ number → KeyBefore at (key_of r) → ⊥
  pub high : (r : RecordData) → IsAlive b.cuts b.complete r.epoch r.number → (KeyBefore at (key_of r) → ⊥) → r.number ≤ number

pub under_start : (b : BookData) (held : List RecordData) (Q : RecordData → Type 0) (number : ℕ) (at : Key) → PartsAtKey b number at → Under b held Q number at
under_start b held Q number at parts = record {
  below = λ r h a q le p. let lt : number < r.number = (parts r.epoch r.number a).1 p in omega arith;
  high = λ r a not. ⊎_elim (λ (l : number < r.number). absurd (not ((parts r.epoch r.number a).0 l))) (λ (l : r.number ≤ number). l) (cases_lt number r.number);
}

-- a candidate with the greatest key at or below one
pub record LastUnder (held : List RecordData) (Q : RecordData → Type 0) (at key : Key) : Type 0 where
  pub by : RecordData
  pub among : Contains held by
  pub candidate : Q by
  pub has : HasKey key by
  pub under : KeyBefore at (key_of by) → ⊥
  pub last : (r : RecordData) → Contains held r → Q r → (KeyBefore at (key_of r) → ⊥) → HasKey key r ⊎ KeyBefore (key_of r) key

-- below a dead key the search goes on at a key that no alive one below the dead key is above
pub under_step : (b : BookData) (held : List RecordData) (Q : RecordData → Type 0) (number : ℕ) (at key next : Key) → Under b held Q number at → LastUnder held Q at key → KeyBefore next key → ((e n : ℕ) → IsAlive b.cuts b.complete e n → KeyBefore (key_in e n) key → KeyBefore next (key_in e n) → ⊥) → (IsAlive b.cuts b.complete key.epoch key.number → ⊥) → Under b held Q number next
under_step b held Q number at key next under last down spares dead = record {
  below = λ r h a q le p. ⊎_elim
      (λ (k : HasKey key r). dead (key_alive b r key k a))
      (λ (u : KeyBefore (key_of r) key). spares r.epoch r.number a u p)
      (last.last r h q (λ u. under.below r h a q le u));
  high = λ r a not. under.high r a (λ q. last.under (subst (λ (x : ℕ). KeyBefore at (key_in x last.by.number)) (sym last.has.0)
      (subst (λ (x : ℕ). KeyBefore at (key_in key.epoch x)) (sym last.has.1) (above_both at.epoch at.number key.epoch key.number next.epoch next.number r.epoch r.number down q not))));
}
  where
    above_both : (x y a b d n e m : ℕ) → PairBefore d n a b → PairBefore x y e m → (PairBefore d n e m → ⊥) → PairBefore x y a b
    above_both x y a b d n e m down q not = grind arith

-- the record of the first alive key is the greatest
pub under_found : (b : BookData) (held : List RecordData) (Q P : RecordData → Type 0) (number : ℕ) (at key : Key) (o : Option RecordData) → IsBook b → IsHeld held → Under b held Q number at → LastUnder held Q at key → IsAlive b.cuts b.complete key.epoch key.number → IsRecordAt held key o → ((r : RecordData) → Contains held r → IsAlive b.cuts b.complete r.epoch r.number → Q r → r.number ≤ number → P r) → ((r : RecordData) → P r → Contains held r × IsAlive b.cuts b.complete r.epoch r.number × Q r × (r.number ≤ number)) → IsGreatestRecord P o
under_found b held Q P number at key None book is under last alive none to fro = absurd (none last.by last.among last.has)
under_found b held Q P number at key (Some x) book is under last alive at_key to fro =
    let same : last.by ≡ x = one_key held is.rising last.by x last.among at_key.0 (last.has.0 ∙ sym at_key.1.0) (last.has.1 ∙ sym at_key.1.1) in
    let a : IsAlive b.cuts b.complete x.epoch x.number = alive_key b x key at_key.1 alive in
    let not : KeyBefore at (key_of x) → ⊥ = subst (λ (r : RecordData). KeyBefore at (key_of r) → ⊥) same last.under in (
      to x at_key.0 a (subst Q same last.candidate) (under.high x a not),
      λ s h.
          let t = fro s h in
          ⊎_elim
          (λ (k : HasKey key s). inl (one_key held is.rising s x t.0 at_key.0 (k.0 ∙ sym at_key.1.0) (k.1 ∙ sym at_key.1.1)))
          (λ (p : KeyBefore (key_of s) key). inr (number_before b.cuts b.complete (view_of b book) s x t.1 a (subst (λ (e : ℕ). KeyBefore (key_of s) (key_in e x.number)) (sym at_key.1.0) (subst (λ (n : ℕ). KeyBefore (key_of s) (key_in key.epoch n)) (sym at_key.1.1) p))))
          (last.last s t.0 t.2 (λ p. under.below s t.0 t.1 t.2 t.3 p)),
    )

pub up_to_falls : (at key next : Key) (held : List RecordData) (r : RecordData) → Contains held r → HasKey key r → (KeyBefore at (key_of r) → ⊥) → KeyBefore next key → up_to next held < up_to at held
up_to_falls at key next held r h k not down =
    fewer (λ s. not_after next s) (λ s. not_after at s) held r h
    (past next r (subst (λ (e : ℕ). KeyBefore next (key_in e r.number)) (sym k.0) (subst (λ (n : ℕ). KeyBefore next (key_in key.epoch n)) (sym k.1) down)))
    (still at r not)
    (λ y q. still at y (λ p. back key next r y at k down not (passed next y q) p))
  where
    back : (key next : Key) (r y : RecordData) (at : Key) → HasKey key r → KeyBefore next key → (KeyBefore at (key_of r) → ⊥) → (KeyBefore next (key_of y) → ⊥) → KeyBefore at (key_of y) → ⊥
    back key next r y at k down not low p = let e0 : r.epoch ≡ key.epoch = k.0 in let n0 : r.number ≡ key.number = k.1 in grind arith
