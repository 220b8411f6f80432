-- The stack has what is alive: at the start, in the view of the next epoch, and with one more record.
use Rattle.std.proofs.lemmas.Grind.{common_steps}
use Rattle.std.proofs.Common.{◌≡◌, ℕ, ◌+◌, ◌<◌, ◌≤◌, ⊎_elim, List, [], ◌∷◌, ◌++◌, sym, ap, ◌∙◌, subst, arith, Option, Some, None, rules}
use Rattle.std.specs.List.{Contains}
use Rattle.std.proofs.lemmas.Bool.{cases_lt}
use Rattle.std.proofs.lemmas.Option.{none-some, same_Some}
use Rattle.std.proofs.lemmas.List.Elements.{recursion_from_All, All-contains_itself, All-weaker, Contains-append_left, Contains-append_cases, Contains-push}
use Rattle.redo_core.specs.Data.{CutData}
use Rattle.redo_core.specs.Order.{IsRising}
use Rattle.redo_core.specs.Standing.{IsAlive}
use Rattle.redo_core.specs.Sound.{counted}
use Rattle.redo_core.specs.declared.facts.Fact.{Fact}
use Rattle.redo_core.proofs.Members.{none_in, here, there, which}
use Rattle.log_law.specs.Counted.{first_cut}
use Rattle.log_law.specs.Alive.{stack_of, without_above, IsStack, NotBelow, HoldsAlive, CanPush}
use Rattle.log_law.specs.declared.alive.Entry.{Entry}
use Rattle.log_law.specs.declared.alive.AliveRecords.{AliveRecords}
use Rattle.log_law.specs.declared.links.Item.{Item}
use Rattle.log_law.proofs.FirstCuts.{counted_at, at_counted}
use Rattle.log_law.proofs.Stacks.{above_falls, above_left, above_kept}

pub holds_nothing : (log : List Fact) (s : AliveRecords) → IsStack s → stack_of s ≡ [] → HoldsAlive log [] s
holds_nothing log s k e = search rules

-- alive in the next view
alive_before : (cs : List CutData) (v e n : ℕ) → e ≤ v → IsAlive cs (v + 1) e n → IsAlive cs v e n
alive_before cs v e n l a = record { known = l; begun = a.begun; spared = λ c h p q. a.spared c h p (omega arith) }

alive_next : (cs : List CutData) (v e n : ℕ) → IsAlive cs v e n → ((c : CutData) → Contains cs c → c.epoch ≡ v + 1 → n ≤ c.lo) → IsAlive cs (v + 1) e n
alive_next cs v e n a f = record {
  known = let l : e ≤ v = a.known in omega arith;
  begun = a.begun;
  spared = λ c h p q. ⊎_elim (λ (l : c.epoch < v + 1). a.spared c h p (omega arith)) (λ (l : v + 1 ≤ c.epoch). f c h (omega arith)) (cases_lt c.epoch (v + 1));
}

-- what an epoch's truncation leaves of a stack
abbrev pub after_cut : Option CutData → List Entry → List Entry
after_cut None xs = xs
after_cut (Some c) xs = without_above c.lo xs

pub next_view : (log : List Fact) (past : List Item) (old new : AliveRecords) (o : Option CutData) → first_cut log (old.view + 1) ≡ o → IsStack new
    → new.view ≡ old.view + 1 → stack_of new ≡ after_cut o (stack_of old) → HoldsAlive log past old → HoldsAlive log past new
next_view log past old new None q k v s h = record {
  stack = k;
  falls = subst (IsRising NotBelow) (sym s) h.falls;
  known = λ t m. let l : t.epoch ≤ old.view = h.known t m in omega arith;
  each = λ x m.
      let w = h.each x (subst (λ xs. Contains xs x) s m) in (
        w.0,
        w.1,
        subst (λ i. IsAlive (counted log) i w.0.epoch w.0.number) (sym v)
            (alive_next (counted log) old.view w.0.epoch w.0.number w.2 (λ c p e. absurd (none-some c (sym q ∙ at_counted log (old.view + 1) c p e)))),
        w.3,
        w.4,
      );
  all = λ t m a.
      let b = alive_before (counted log) old.view t.epoch t.number (h.known t m) (subst (λ i. IsAlive (counted log) i t.epoch t.number) v a) in
      let w = h.all t m b in
      (w.0, subst (λ xs. Contains xs w.0) (sym s) w.1, w.2, w.3);
}
next_view log past old new (Some d) q k v s h = record {
  stack = k;
  falls = subst (IsRising NotBelow) (sym s) (above_falls d.lo (stack_of old) h.falls);
  known = λ t m. let l : t.epoch ≤ old.view = h.known t m in omega arith;
  each = λ x m.
      let left = above_left d.lo (stack_of old) x h.falls (subst (λ xs. Contains xs x) s m) in
      let w = h.each x left.0 in
      let low : x.number ≤ d.lo = left.1 in
      let same : w.0.number ≡ x.number = w.3 in (
        w.0,
        w.1,
        subst (λ i. IsAlive (counted log) i w.0.epoch w.0.number) (sym v) (alive_next (counted log) old.view w.0.epoch w.0.number w.2
            (λ c p e. let u : d ≡ c = same_Some d c (sym q ∙ at_counted log (old.view + 1) c p e) in subst (λ y. w.0.number ≤ y.lo) u (omega arith))),
        w.3,
        w.4,
      );
  all = λ t m a.
      let a' : IsAlive (counted log) (old.view + 1) t.epoch t.number = subst (λ i. IsAlive (counted log) i t.epoch t.number) v a in
      let b = alive_before (counted log) old.view t.epoch t.number (h.known t m) a' in
      let w = h.all t m b in
      let c = counted_at log (old.view + 1) d q in
      let ep : d.epoch ≡ old.view + 1 = c.1 in
      let l : t.epoch ≤ old.view = h.known t m in
      let low : t.number ≤ d.lo = a'.spared d c.0 (omega arith) (omega arith) in
      let same : w.0.number ≡ t.number = w.2 in
      (w.0, subst (λ xs. Contains xs w.0) (sym s) (above_kept d.lo (stack_of old) w.0 w.1 (omega arith)), w.2, w.3);
}

-- one more record on top
pub holds_push : (log : List Fact) (past : List Item) (old new : AliveRecords) (t : Item) (x : Entry) → x.number ≡ t.number → x.page ≡ t.page → IsStack new
    → new.view ≡ old.view → stack_of new ≡ x ∷ stack_of old → IsAlive (counted log) old.view t.epoch t.number
    → ((y : Entry) → Contains (stack_of old) y → y.number ≤ t.number) → HoldsAlive log past old → HoldsAlive log (past ++ t ∷ []) new
holds_push log past old new t x num pg k v s a above h = record {
  stack = k;
  falls = subst (IsRising NotBelow) (sym s) (
    recursion_from_All (NotBelow x) (stack_of old)
        (All-weaker (Contains (stack_of old)) (NotBelow x) (λ y m. let l : y.number ≤ t.number = above y m in omega arith) (stack_of old)
        (All-contains_itself (stack_of old))),
    h.falls,
  );
  known = λ u m. ⊎_elim (λ (p : Contains past u). let l : u.epoch ≤ old.view = h.known u p in omega arith)
      (λ (p : Contains (t ∷ []) u). let e : t ≡ u = only p in let l : t.epoch ≤ old.view = a.known in let q : t.epoch ≡ u.epoch = ap (λ z. z.epoch) e in
      omega arith) (Contains-append_cases past (t ∷ []) u m);
  each = λ y m. ⊎_elim
      (λ (e : x ≡ y). (
        t,
        Contains-push past t,
        subst (λ i. IsAlive (counted log) i t.epoch t.number) (sym v) a,
        sym num ∙ ap (λ z. z.number) e,
        sym pg ∙ ap
            (λ z. z.page) e,
      ))
      (λ (p : Contains (stack_of old) y). let w = h.each y p in
      (w.0, Contains-append_left past (t ∷ []) w.0 w.1, subst (λ i. IsAlive (counted log) i w.0.epoch w.0.number) (sym v) w.2, w.3, w.4))
      (which x (stack_of old) y (subst (λ xs. Contains xs y) s m));
  all = λ u m b. ⊎_elim
      (λ (p : Contains past u). let w = h.all u p (subst (λ i. IsAlive (counted log) i u.epoch u.number) v b) in
      (w.0, subst (λ xs. Contains xs w.0) (sym s) (there x (stack_of old) w.0 w.1), w.2, w.3))
      (λ (p : Contains (t ∷ []) u). let e : t ≡ u = only p in
      (x, subst (λ xs. Contains xs x) (sym s) (here x (stack_of old)), num ∙ ap (λ z. z.number) e, pg ∙ ap (λ z. z.page) e))
      (Contains-append_cases past (t ∷ []) u m);
}
  where
    only : {u : Item} → Contains (t ∷ []) u → t ≡ u
    only {u} p = ⊎_elim (λ (e : t ≡ u). e) (λ (n : Contains [] u). absurd (none_in u n)) (which t [] u p)

pub same_but_view : (old new : AliveRecords) → IsStack old → new.entries ≡ old.entries → new.page_tops ≡ old.page_tops → IsStack new
same_but_view old new s e t = grind (arith, common_steps)

pub none_of : (o : Option CutData) → ((c : CutData) → o ≡ Some c → ⊥) → o ≡ None
none_of o h = search rules

-- LSNs of a group are not below what was pushed before
pub top_or_below : (log : List Fact) (group : List Item) (s : AliveRecords) → CanPush log group s → (t u : Item) → Contains group t → Contains group u
    → (old new : List Entry) (beneath : ℕ) → new ≡ record { number = t.number; page = t.page; beneath = beneath } ∷ old
    → ((y : Entry) → Contains old y → y.number ≤ u.number) → (x : Entry) → Contains new x → x.number ≤ u.number
top_or_below log group s f t u ht hu old new beneath e below x hx =
    let top : Entry = record { number = t.number; page = t.page; beneath = beneath } in
    ⊎_elim
    (λ (q : top ≡ x). let n : t.number ≡ x.number = ap (λ y. y.number) q in let m : t.number ≡ u.number = f.same t u ht hu in omega arith)
    (λ (q : Contains old x). below x q)
    (which top old x (subst (λ xs. Contains xs x) e hx))
