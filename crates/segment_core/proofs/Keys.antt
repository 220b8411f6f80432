-- Scanning the keys of stored records, from the least on.
use Rattle.std.proofs.Common.{◌≡◌, ℕ, ◌<◌, ◌⊎◌, ⊎_elim, List, [], ◌∷◌, ◌++◌, map, Option, Some, None, refl, sym, ap, ◌∙◌, subst, arith}
use Rattle.std.proofs.lemmas.List.{append_assoc, map-append, append-nil}
use Rattle.std.specs.List.{Contains}
use Rattle.redo_core.specs.Data.{RecordData}
use Rattle.redo_core.specs.Keys.{key_in, key_of, KeyBefore}
use Rattle.redo_core.specs.declared.keys.Key.{Key}
use Rattle.redo_core.specs.Order.{IsRising, RecordBefore, PairBefore}
use Rattle.redo_core.proofs.Members.{here, there, which, each, none_in}
use Rattle.redo_core.proofs.Rising.{rising_members}
use Rattle.hot_log.specs.Held.{IsHeld, IsAbove, IsKeyAfter, HasKey}
use Rattle.hot_log.proofs.Keys.{pair_not_same}
use Rattle.redo_core.proofs.Pairs.{pair_apart}

-- the key is that of the first of the records, or there is none
abbrev pub IsFirstKey : List RecordData → Option Key → Type 0
IsFirstKey [] next = next ≡ None
IsFirstKey (r ∷ rs) next = next ≡ Some (key_of r)

-- the keys are those of some first records, and the next one is that of the record after them
pub record KeysTo (held : List RecordData) (keys : List Key) (next : Option Key) : Type 0 where
  pub rest : List RecordData
  pub front : List RecordData
  pub parts : held ≡ front ++ rest
  pub keys_are : keys ≡ map key_of front
  pub next_is : IsFirstKey rest next

-- ---- records that rise by key

pair_self : (a b : ℕ) → PairBefore a b a b → ⊥
pair_self a b h = pair_not_same a b a b h refl refl

-- what is after a record is above its key, and nothing else is
rising_rest : (front rest : List RecordData) (r : RecordData) → IsRising RecordBefore (front ++ r ∷ rest) → IsRising RecordBefore rest
rising_rest [] rest r rising = rising.1
rising_rest (f ∷ fs) rest r rising = rising_rest fs rest r rising.1

in_rest : (front rest : List RecordData) (r x : RecordData) → IsRising RecordBefore (front ++ r ∷ rest) → Contains rest x
    → Contains (front ++ r ∷ rest) x × RecordBefore r x
in_rest [] rest r x rising h = (there r rest x h, each (RecordBefore r) rest x rising.0 h)
in_rest (f ∷ fs) rest r x rising h = let t = in_rest fs rest r x rising.1 h in (there f (fs ++ r ∷ rest) x t.0, t.1)

in_parts : (front rest : List RecordData) (r : RecordData) → Contains (front ++ r ∷ rest) r
in_parts [] rest r = here r rest
in_parts (f ∷ fs) rest r = there f (fs ++ r ∷ rest) r (in_parts fs rest r)

above_rest : (front rest : List RecordData) (r x : RecordData) → IsRising RecordBefore (front ++ r ∷ rest) → Contains (front ++ r ∷ rest) x
    → RecordBefore r x → Contains rest x
above_rest [] rest r x rising h above =
    ⊎_elim
    (λ (e : r ≡ x). absurd (pair_self r.epoch r.number (subst (RecordBefore r) (sym e) above)))
    (λ (q : Contains rest x). q)
    (which r rest x h)
above_rest (f ∷ fs) rest r x rising h above =
    ⊎_elim
    (λ (e : f ≡ x).
    let before : RecordBefore f r = each (RecordBefore f) (fs ++ r ∷ rest) r rising.0 (in_parts fs rest r) in
    absurd (pair_apart f.epoch f.number r.epoch r.number before (subst (RecordBefore r) (sym e) above)))
    (λ (q : Contains (fs ++ r ∷ rest) x). above_rest fs rest r x rising.1 q above)
    (which f (fs ++ r ∷ rest) x h)

-- of rising records there is one of a key
pub one_of_key : (held : List RecordData) (r x : RecordData) → IsRising RecordBefore held → Contains held r → Contains held x → r.epoch ≡ x.epoch → r.number ≡ x.number → r ≡ x
one_of_key held r x rising hr hx e n =
    ⊎_elim
    (λ (u : r ≡ x). u)
    (λ (u : RecordBefore r x ⊎ RecordBefore x r).
    absurd (⊎_elim
    (λ (v : RecordBefore r x). apart r x e n v)
    (λ (v : RecordBefore x r). apart x r (sym e) (sym n) v) u))
    (rising_members RecordBefore held r x rising hr hx)
  where
    apart : (a b : RecordData) → a.epoch ≡ b.epoch → a.number ≡ b.number → RecordBefore a b → ⊥
    apart a b e n before = ⊎_elim (λ (u : a.epoch < b.epoch). omega (arith, e, u)) (λ (u : (a.epoch ≡ b.epoch) × (a.number < b.number)). omega (arith, n, u.1)) before

-- ---- the next key

-- the least key above one given is that of the first record above it
first_of : (held rest : List RecordData) (after next : Option Key) → IsRising RecordBefore rest
    → ((x : RecordData) → Contains held x → IsAbove after x → Contains rest x) → ((x : RecordData) → Contains rest x → Contains held x × IsAbove after x)
    → IsKeyAfter held after next → IsFirstKey rest next
first_of held [] after None rising inside above is = refl
first_of held [] after (Some key) rising inside above is = absurd (none_in is.0.0 (inside is.0.0 is.0.1 is.0.3))
first_of held (r ∷ rs) after None rising inside above is = let h = above r (here r rs) in absurd (is r h.0 h.1)
first_of held (r ∷ rs) after (Some key) rising inside above is =
    let x = is.0.0 in
    let own = is.0.2 in
    let h = above r (here r rs) in
    ⊎_elim
    (λ (same : HasKey key r). sym (key_is r key same))
    (λ (later : KeyBefore key (key_of r)).
    let behind : KeyBefore (key_of x) (key_of r) = subst (λ n. KeyBefore (key_in x.epoch n) (key_of r)) (sym own.1)
    (subst (λ e. KeyBefore (key_in e key.number) (key_of r)) (sym own.0) later) in
    ⊎_elim
    (λ (e : r ≡ x). absurd (pair_self r.epoch r.number (subst (λ (y : RecordData). KeyBefore (key_of y) (key_of r)) (sym e) behind)))
    (λ (q : Contains rs x). absurd (pair_apart x.epoch x.number r.epoch r.number behind (each (RecordBefore r) rs x rising.0 q)))
    (which r rs x (inside x is.0.1 is.0.3)))
    (is.1 r h.0 h.1)
  where
    key_is : (y : RecordData) (k : Key) → HasKey k y → Some (key_of y) ≡ Some k
    key_is y k own = ap (λ z. Some z) (ap (λ e. key_in e y.number) own.0 ∙ ap (λ n. key_in k.epoch n) own.1)

pub keys_none : (held : List RecordData) (keys : List Key) (next : Option Key) → IsHeld held → keys ≡ [] → IsKeyAfter held None next
    → KeysTo held keys next
keys_none held keys next is_held empty is = record {
  rest = held;
  front = [];
  parts = refl;
  keys_are = empty;
  next_is = first_of held held None next is_held.rising (λ x h a. h) (λ x h. (h, tt)) is;
}

keys_step : (held front rest : List RecordData) (keys : List Key) (key : Key) (next : Option Key) → IsHeld held → held ≡ front ++ rest
    → keys ≡ map key_of front → IsFirstKey rest (Some key)
    → IsKeyAfter held (Some key) next → KeysTo held (keys ++ key ∷ []) next
keys_step held front [] keys key next is_held parts keys_are first is = absurd (let e : (let k : Option Key = Some key in k) ≡ None = first in cc)
keys_step held front (r ∷ rs) keys key next is_held parts keys_are first is =
    let own : key ≡ key_of r = cc in
    let rising : IsRising RecordBefore (front ++ r ∷ rs) = subst (IsRising RecordBefore) parts is_held.rising in
    let here_is : IsKeyAfter held (Some (key_of r)) next = subst (λ k. IsKeyAfter held (Some k) next) own is in record {
      rest = rs;
      front = front ++ r ∷ [];
      parts = parts ∙ sym (append_assoc front (r ∷ []) rs);
      keys_are = (let e : keys ++ key ∷ [] ≡ map key_of front ++ key_of r ∷ [] = cc in e) ∙ sym (map-append key_of front (r ∷ []));
      next_is = first_of held rs (Some (key_of r)) next (rising_rest front rs r rising)
          (λ x h above. above_rest front rs r x rising (subst (λ l. Contains l x) parts h) above)
          (λ x h. let t = in_rest front rs r x rising h in (subst (λ l. Contains l x) (sym parts) t.0, t.1))
          here_is;
    }

pub keys_more : (held : List RecordData) (keys : List Key) (before : Option Key) (key : Key) (next : Option Key) → IsHeld held
    → KeysTo held keys before → before ≡ Some key → IsKeyAfter held (Some key) next → KeysTo held (keys ++ key ∷ []) next
keys_more held keys before key next is_held k e is = keys_step held k.front k.rest keys key next is_held k.parts k.keys_are
    (subst (IsFirstKey k.rest) e k.next_is) is

keys_end : (held front rest : List RecordData) (keys : List Key) → held ≡ front ++ rest → keys ≡ map key_of front → IsFirstKey rest None
    → keys ≡ map key_of held
keys_end held front [] keys parts keys_are first = keys_are ∙ ap (map key_of) (sym (parts ∙ append-nil front))
keys_end held front (r ∷ rs) keys parts keys_are first = absurd (let e : None ≡ Some (key_of r) = first in cc)

-- at the end they are all
pub keys_all : (held : List RecordData) (keys : List Key) (next : Option Key) → KeysTo held keys next → next ≡ None → keys ≡ map key_of held
keys_all held keys next k e = keys_end held k.front k.rest keys k.parts k.keys_are (subst (IsFirstKey k.rest) e k.next_is)
