-- Searches that go up or down from key to key.
use Rattle.std.proofs.Common.{◌≡◌, ℕ, ◌+◌, ◌<◌, ◌≤◌, ◌⊎◌, ◌↔◌, inl, inr, ⊎_elim, List, [], ◌∷◌, length, refl, sym, ◌∙◌, ap, subst, arith, Option, Some, None, Bool, true, false, not, nat_lt, ◌==◌, ◌&&◌, ◌||◌, cond}
use Rattle.std.specs.List.{Contains, filter}
use Rattle.std.proofs.lemmas.Bool.{cases_lt}
use Rattle.redo_core.specs.Data.{RecordData, CutData}
use Rattle.redo_core.specs.Keys.{key_in, key_of, KeyBefore}
use Rattle.redo_core.specs.declared.keys.Key.{Key}
use Rattle.redo_core.specs.Order.{IsGreatest, PairBefore}
use Rattle.redo_core.specs.Shape.{record_fault}
use Rattle.redo_core.specs.Standing.{IsAlive}
use Rattle.redo_core.proofs.Members.{none_in, which}
use Rattle.redo_core.proofs.Pairs.{pair_trans}
use Rattle.epoch_book.specs.Book.{BookData, IsBook}
use Rattle.epoch_book.specs.Lows.{CutsAt}
use Rattle.hot_log.specs.Held.{IsHeld, HasKey, IsRecordAt}
use Rattle.hot_log.specs.Alive.{PartsAt, IsHeldAlive}
use Rattle.hot_log.specs.Found.{IsLeastRecord, IsOnlyRecord}
use Rattle.hot_log.proofs.Keys.{pair_not_same}
use Rattle.hot_log.proofs.Views.{IsView, view_of, number_before}
use Rattle.hot_log.proofs.Indexed.{one_key}

parts : (cs : List CutData) (k number epoch : ℕ) → IsView cs k → ((d : CutData) → Contains cs d → epoch < d.epoch → d.epoch ≤ k → number < d.lo) → ((e n : ℕ) → IsAlive cs k e n → e < epoch → n ≤ number) → (e n : ℕ) → IsAlive cs k e n → (number < n) ↔ PairBefore epoch number e n
parts cs k number epoch v late early e n a = (
  λ lt. ⊎_elim
      (λ (l : epoch < e). inl l)
      (λ (l : (epoch ≡ e) ⊎ (e < epoch)). ⊎_elim (λ (q : epoch ≡ e). inr (q, lt)) (λ (q : e < epoch). absurd (let low : n ≤ number = early e n a q in omega arith)) l)
      (let t : (epoch < e) ⊎ ((epoch ≡ e) ⊎ (e < epoch)) = grind arith in t),
  λ p. ⊎_elim
      (λ (l : epoch < e).
      let c = v.begun e (omega arith) a.known in
      let same : c.0.epoch ≡ e = c.2 in
      let low : number < c.0.lo = late c.0 c.1 (omega arith) (omega (arith, a.known)) in
      let le : c.0.lo ≤ c.0.hi = v.ordered c.0 c.1 in
      let up : c.0.hi < n = a.begun c.0 c.1 same in
      omega arith)
      (λ (q : (epoch ≡ e) × (number < n)). q.1)
      p,
)

own : (cs : List CutData) (k number epoch : ℕ) → IsView cs k → ((d : CutData) → Contains cs d → epoch < d.epoch → d.epoch ≤ k → number < d.lo) → ((e n : ℕ) → IsAlive cs k e n → e < epoch → n ≤ number) → (e : ℕ) → IsAlive cs k e (number + 1) → e ≡ epoch
own cs k number epoch v late early e a =
    ⊎_elim
    (λ (l : epoch < e). absurd (
    let c = v.begun e (omega arith) a.known in
    let same : c.0.epoch ≡ e = c.2 in
    let low : number < c.0.lo = late c.0 c.1 (omega arith) (omega (arith, a.known)) in
    let le : c.0.lo ≤ c.0.hi = v.ordered c.0 c.1 in
    let up : c.0.hi < number + 1 = a.begun c.0 c.1 same in
    omega arith))
    (λ (l : (epoch ≡ e) ⊎ (e < epoch)). ⊎_elim (λ (q : epoch ≡ e). sym q) (λ (q : e < epoch). absurd (let low : number + 1 ≤ number = early e (number + 1) a q in omega arith)) l)
    (let t : (epoch < e) ⊎ ((epoch ≡ e) ⊎ (e < epoch)) = grind arith in t)

pub parts_from : (b : BookData) (number epoch : ℕ) → IsBook b → IsGreatest (CutsAt b number) epoch → PartsAt b number epoch
parts_from b number epoch is last =
    (parts b.cuts b.complete number epoch (view_of b is) late early, own b.cuts b.complete number epoch (view_of b is) late early)
  where
    late : (d : CutData) → Contains b.cuts d → epoch < d.epoch → d.epoch ≤ b.complete → number < d.lo
    late d h up le =
        ⊎_elim
        (λ (u : number < d.lo). u)
        (λ (u : d.lo ≤ number). absurd (let t : d.epoch ≤ epoch = last.1 d.epoch (d, h, refl, le, u) in omega arith))
        (cases_lt number d.lo)

    early : (e n : ℕ) → IsAlive b.cuts b.complete e n → e < epoch → n ≤ number
    early e n a lt =
        ⊎_elim
        (λ (z : epoch ≡ 0). absurd (omega arith))
        (λ (c : CutsAt b number epoch).
        let at : c.0.epoch ≡ epoch = c.2 in let known : epoch ≤ b.complete = c.3 in let low : c.0.lo ≤ number = c.4 in
        let le : n ≤ c.0.lo = a.spared c.0 c.1 (omega arith) (omega arith) in
        omega arith)
        last.0

-- how many records have a key above one
abbrev pub is_after : Key → RecordData → Bool
is_after at r = nat_lt at.epoch r.epoch || (at.epoch == r.epoch && nat_lt at.number r.number)

abbrev pub above : Key → List RecordData → ℕ
above at held = length (filter (is_after at) held)

abbrev pub not_after : Key → RecordData → Bool
not_after at r = not (is_after at r)

-- how many have a key at or below one
abbrev pub up_to : Key → List RecordData → ℕ
up_to at held = length (filter (λ r. not_after at r) held)

after_of : (at : Key) (r : RecordData) → KeyBefore at (key_of r) → is_after at r ≡ true
after_of at r p = grind arith

after_is : (at : Key) (r : RecordData) → is_after at r ≡ true → KeyBefore at (key_of r)
after_is at r h = grind arith

is_not_after : (at : Key) (r : RecordData) → (KeyBefore at (key_of r) → ⊥) → is_after at r ≡ false
is_not_after at r h = elim (is_after at r) as (λ b. (b ≡ true → KeyBefore at (key_of r)) → b ≡ false) [ true ↦ λ f. absurd (h (f refl)) | false ↦ λ f. refl ] (after_is at r)

no_more : {X : Type 0} (p q : X → Bool) (xs : List X) → ((y : X) → p y ≡ true → q y ≡ true) → length (filter p xs) ≤ length (filter q xs)
no_more p q [] h = omega arith
no_more {X} p q (x ∷ xs) h =
    let rest : length (filter p xs) ≤ length (filter q xs) = no_more p q xs h in
    step (filter p xs) (filter q xs) x (p x) (q x) (h x) rest
  where
    step : {X : Type 0} (ps qs : List X) (x : X) (b c : Bool) → (b ≡ true → c ≡ true) → length ps ≤ length qs → length (cond b (x ∷ ps) ps) ≤ length (cond c (x ∷ qs) qs)
    step ps qs x true true f le = omega (arith, le)
    step ps qs x true false f le = absurd (let e : false ≡ true = f refl in cc)
    step ps qs x false true f le = omega (arith, le)
    step ps qs x false false f le = le

pub fewer : {X : Type 0} (p q : X → Bool) (xs : List X) (x : X) → Contains xs x → p x ≡ false → q x ≡ true → ((y : X) → p y ≡ true → q y ≡ true) → length (filter p xs) < length (filter q xs)
fewer p q [] x h a b f = absurd (none_in x h)
fewer {X} p q (z ∷ xs) x h a b f =
    ⊎_elim
    (λ (u : z ≡ x). here (filter p xs) (filter q xs) z (p z) (q z) (subst (λ (y : X). p y ≡ false) (sym u) a) (subst (λ (y : X). q y ≡ true) (sym u) b) (no_more p q xs f))
    (λ (u : Contains xs x). step (filter p xs) (filter q xs) z (p z) (q z) (f z) (fewer p q xs x u a b f))
    (which z xs x h)
  where
    here : {X : Type 0} (ps qs : List X) (x : X) (b c : Bool) → b ≡ false → c ≡ true → length ps ≤ length qs → length (cond b (x ∷ ps) ps) < length (cond c (x ∷ qs) qs)
    here ps qs x true c e g le = absurd (cc)
    here ps qs x false true e g le = omega (arith, le)
    here ps qs x false false e g le = absurd (cc)

    step : {X : Type 0} (ps qs : List X) (x : X) (b c : Bool) → (b ≡ true → c ≡ true) → length ps < length qs → length (cond b (x ∷ ps) ps) < length (cond c (x ∷ qs) qs)
    step ps qs x true true f lt = omega (arith, lt)
    step ps qs x true false f lt = absurd (let e : false ≡ true = f refl in cc)
    step ps qs x false true f lt = omega (arith, lt)
    step ps qs x false false f lt = lt

pub above_falls : (at key : Key) (held : List RecordData) (r : RecordData) → Contains held r → HasKey key r → KeyBefore at (key_of r) → above key held < above at held
above_falls at key held r h k p =
    fewer (is_after key) (is_after at) held r h
    (is_not_after key r (λ q. pair_not_same key.epoch key.number r.epoch r.number q (sym k.0) (sym k.1)))
    (after_of at r p)
    (λ y q. after_of at y (pair_trans at.epoch at.number r.epoch r.number y.epoch y.number p (subst (λ (a : ℕ). KeyBefore (key_in a r.number) (key_of y)) (sym k.0) (subst (λ (a : ℕ). KeyBefore (key_in key.epoch a) (key_of y)) (sym k.1) (after_is key y q)))))

-- what is left of a search upwards from an LSN: the candidates, which have Q, are above a key, and what is above it is above the LSN
pub record Rest (b : BookData) (held : List RecordData) (Q : RecordData → Type 0) (number : ℕ) (at : Key) : Type 0 where
  pub above : (r : RecordData) → Contains held r → IsAlive b.cuts b.complete r.epoch r.number → Q r → number < r.number → KeyBefore at (key_of r)
  pub low : (e n : ℕ) → IsAlive b.cuts b.complete e n → KeyBefore at (key_in e n) → number < n

pub rest_start : (b : BookData) (held : List RecordData) (Q : RecordData → Type 0) (number epoch : ℕ) → PartsAt b number epoch → Rest b held Q number (key_in epoch number)
rest_start b held Q number epoch parts = record {
  above = λ r h a q lt. (parts.0 r.epoch r.number a).0 lt;
  low = λ e n a p. (parts.0 e n a).1 p;
}

pub rest_step : (b : BookData) (held : List RecordData) (Q : RecordData → Type 0) (number : ℕ) (at key : Key) → Rest b held Q number at → ((r : RecordData) → Contains held r → Q r → KeyBefore at (key_of r) → HasKey key r ⊎ KeyBefore key (key_of r)) → KeyBefore at key → (IsAlive b.cuts b.complete key.epoch key.number → ⊥) → Rest b held Q number key
rest_step b held Q number at key rest next up dead = record {
  above = λ r h a q lt. ⊎_elim
      (λ (k : HasKey key r). absurd (dead (subst (λ (x : ℕ). IsAlive b.cuts b.complete x key.number) k.0 (subst (λ (x : ℕ). IsAlive b.cuts b.complete r.epoch x) k.1 a))))
      (λ (p : KeyBefore key (key_of r)). p)
      (next r h q (rest.above r h a q lt));
  low = λ e n a p. rest.low e n a (pair_trans at.epoch at.number key.epoch key.number e n up p);
}

-- the record of the first alive key is the least
pub rest_found : (b : BookData) (held : List RecordData) (Q P : RecordData → Type 0) (number : ℕ) (at key : Key) (o : Option RecordData) → IsBook b → IsHeld held → Rest b held Q number at → ((r : RecordData) × Contains held r × Q r × HasKey key r × KeyBefore at (key_of r)) → ((r : RecordData) → Contains held r → Q r → KeyBefore at (key_of r) → HasKey key r ⊎ KeyBefore key (key_of r)) → IsAlive b.cuts b.complete key.epoch key.number → IsRecordAt held key o → ((r : RecordData) → Contains held r → IsAlive b.cuts b.complete r.epoch r.number → Q r → number < r.number → P r) → ((r : RecordData) → P r → Contains held r × IsAlive b.cuts b.complete r.epoch r.number × Q r × (number < r.number)) → IsLeastRecord P o
rest_found b held Q P number at key None book is rest found next alive none to fro = absurd (none found.0 found.1 found.3)
rest_found b held Q P number at key (Some x) book is rest found next alive at_key to fro =
    let same : found.0 ≡ x = one_key held is.rising found.0 x found.1 at_key.0 (found.3.0 ∙ sym at_key.1.0) (found.3.1 ∙ sym at_key.1.1) in
    let a : IsAlive b.cuts b.complete x.epoch x.number = subst (λ (e : ℕ). IsAlive b.cuts b.complete e x.number) (sym at_key.1.0) (subst (λ (n : ℕ). IsAlive b.cuts b.complete key.epoch n) (sym at_key.1.1) alive) in
    let up : KeyBefore at (key_of x) = subst (λ (r : RecordData). KeyBefore at (key_of r)) same found.4 in (
      to x at_key.0 a (subst Q same found.2) (rest.low x.epoch x.number a up),
      λ s h.
          let t = fro s h in
          ⊎_elim
          (λ (k : HasKey key s). inl (one_key held is.rising s x t.0 at_key.0 (k.0 ∙ sym at_key.1.0) (k.1 ∙ sym at_key.1.1)))
          (λ (p : KeyBefore key (key_of s)). inr (number_before b.cuts b.complete (view_of b book) x s a t.1 (subst (λ (e : ℕ). KeyBefore (key_in e x.number) (key_of s)) (sym at_key.1.0) (subst (λ (n : ℕ). KeyBefore (key_in key.epoch n) (key_of s)) (sym at_key.1.1) p))))
          (next s t.0 t.2 (rest.above s t.0 t.1 t.2 t.3)),
    )

pub positive : (r : RecordData) → record_fault r ≡ None → 0 < r.number
positive r h = grind arith

-- the record that a look-up in the epoch that may have the LSN finds
pub only_there : (b : BookData) (held : List RecordData) (number epoch : ℕ) (o : Option RecordData) → IsBook b → IsHeld held → ((e : ℕ) → IsAlive b.cuts b.complete e number → e ≡ epoch) → IsAlive b.cuts b.complete epoch number → IsRecordAt held (key_in epoch number) o → IsOnlyRecord (λ r. IsHeldAlive b held r × (r.number ≡ number)) o
only_there b held number epoch None book is own alive none = λ r h. none r h.0.0 (own r.epoch (subst (λ (n : ℕ). IsAlive b.cuts b.complete r.epoch n) h.1 h.0.1), h.1)
only_there b held number epoch (Some x) book is own alive at = (
  ((at.0, subst (λ (e : ℕ). IsAlive b.cuts b.complete e x.number) (sym at.1.0) (subst (λ (n : ℕ). IsAlive b.cuts b.complete epoch n) (sym at.1.1) alive)), at.1.1),
  λ s h. one_key held is.rising s x h.0.0 at.0 (own s.epoch (subst (λ (n : ℕ). IsAlive b.cuts b.complete s.epoch n) h.1 h.0.1) ∙ sym at.1.0) (h.1 ∙ sym at.1.1),
)

-- every key is above (0, 0)
pub from_zero : (held : List RecordData) (r : RecordData) → IsHeld held → Contains held r → KeyBefore (key_in 0 0) (key_of r)
from_zero held r is h = let up : 0 < r.number = positive r (is.shaped r h) in grind arith

pub alive_key : (b : BookData) (r : RecordData) (key : Key) → HasKey key r → IsAlive b.cuts b.complete key.epoch key.number → IsAlive b.cuts b.complete r.epoch r.number
alive_key b r key k a = subst (λ (e : ℕ). IsAlive b.cuts b.complete e r.number) (sym k.0) (subst (λ (n : ℕ). IsAlive b.cuts b.complete key.epoch n) (sym k.1) a)

pub key_alive : (b : BookData) (r : RecordData) (key : Key) → HasKey key r → IsAlive b.cuts b.complete r.epoch r.number → IsAlive b.cuts b.complete key.epoch key.number
key_alive b r key k a = subst (λ (e : ℕ). IsAlive b.cuts b.complete e key.number) k.0 (subst (λ (n : ℕ). IsAlive b.cuts b.complete r.epoch n) k.1 a)

pub least_number : (b : BookData) (held : List RecordData) (r s : RecordData) (key : Key) (n : ℕ) → IsBook b → HasKey key r → IsAlive b.cuts b.complete r.epoch r.number → IsAlive b.cuts b.complete s.epoch s.number → s.number ≡ n → HasKey key s ⊎ KeyBefore key (key_of s) → key.number ≤ n
least_number b held r s key n book k a c e either =
    ⊎_elim
    (λ (h : HasKey key s). let same : s.number ≡ key.number = h.1 in omega arith)
    (λ (p : KeyBefore key (key_of s)).
    let up : r.number < s.number = number_before b.cuts b.complete (view_of b book) r s a c (subst (λ (x : ℕ). KeyBefore (key_in x r.number) (key_of s)) (sym k.0) (subst (λ (x : ℕ). KeyBefore (key_in key.epoch x) (key_of s)) (sym k.1) p)) in
    let same : r.number ≡ key.number = k.1 in
    omega arith)
    either

pub past : (at : Key) (r : RecordData) → KeyBefore at (key_of r) → not_after at r ≡ false
past at r p = ap not (after_of at r p)

pub still : (at : Key) (r : RecordData) → (KeyBefore at (key_of r) → ⊥) → not_after at r ≡ true
still at r h = ap not (is_not_after at r h)

pub passed : (at : Key) (r : RecordData) → not_after at r ≡ true → KeyBefore at (key_of r) → ⊥
passed at r h p = let no : not_after at r ≡ false = past at r p in cc

-- a key that was read off a record
pub key_is : (a b e n : ℕ) → a ≡ e → b ≡ n → ◌≡◌ {A = Key} (key_in e n) (key_in a b)
key_is a b e n p q = let one : ℕ → Key = λ x. key_in x n in let two : ℕ → Key = λ x. key_in a x in ap one (sym p) ∙ ap two (sym q)

pub alive_as : (b : BookData) (a n e m : ℕ) → a ≡ e → n ≡ m → IsAlive b.cuts b.complete a n → IsAlive b.cuts b.complete e m
alive_as b a n e m p q h = subst (λ (x : ℕ). IsAlive b.cuts b.complete x m) p (subst (λ (x : ℕ). IsAlive b.cuts b.complete a x) q h)
