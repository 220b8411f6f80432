-- The first truncation of an epoch, and what a table of them decides.
use Rattle.std.proofs.Common.{◌≡◌, ◌≢◌, ℕ, ◌+◌, ◌<◌, ◌≤◌, ◌⊎◌, ◌↔◌, inl, inr, ⊎_elim, List, [], ◌∷◌, ◌++◌, length, get_or, refl, sym, ap, ◌∙◌, subst, arith, Option, Some, None, Bool, true, false, cond, not, rules}
use Rattle.std.specs.Prelude.{◌==◌, MatchOption, is_some}
use Rattle.std.specs.List.{Contains, filter, filter_map}
use Rattle.std.proofs.lemmas.Bool.{eqb-false, eq-eqb, ne_eqb, not-true, cases_lt, cases_eq}
use Rattle.std.proofs.lemmas.Option.{none-some, same_Some}
use Rattle.std.proofs.lemmas.List.Elements.{filter_map-append, Contains-append_cases}
use Rattle.std.proofs.lemmas.List.{get_or_past, get_or_default}
use Rattle.redo_core.specs.Data.{RecordData, CutData, AdvanceData}
use Rattle.redo_core.specs.Shape.{cut_fault}
use Rattle.redo_core.specs.Sets.{cuts, as_cut}
use Rattle.redo_core.specs.CompleteEpoch.{HasCutsTo}
use Rattle.redo_core.specs.Sound.{first_cuts, counted, Law2, Law5}
use Rattle.redo_core.specs.declared.facts.Fact.{Fact}
use Rattle.redo_core.specs.declared.facts.Fact.TheVariants.{Record, Cut, Advance}
use Rattle.redo_core.proofs.Members.{none_in, there, which, filtered, passed}
use Rattle.redo_core.proofs.FactParts.{cut_in}
use Rattle.redo_core.specs.Roster.{IsReader}
use Rattle.log_law.specs.Counted.{first_at, first_cut, or_first, IsTable, AreBegunTo, IsLeastLaterLo}
use Rattle.log_law.specs.Lows.{AreLeastPoints}
use Rattle.log_law.proofs.Reaching.{past_low, low_past}

-- the first of two lists together
append_at : (e : ℕ) (c : CutData) (cs ds : List CutData) (b : Bool) → first_at e (cs ++ ds) ≡ or_first (first_at e cs) (first_at e ds)
    → cond b (Some c) (first_at e (cs ++ ds)) ≡ or_first (cond b (Some c) (first_at e cs)) (first_at e ds)
append_at e c cs ds b ih = search rules

pub first_at-append : (e : ℕ) (cs ds : List CutData) → first_at e (cs ++ ds) ≡ or_first (first_at e cs) (first_at e ds)
first_at-append e [] ds = refl
first_at-append e (c ∷ cs) ds = append_at e c cs ds (c.epoch == e) (first_at-append e cs ds)

pub first_cut-append : (xs ys : List Fact) (e : ℕ) → first_cut (xs ++ ys) e ≡ or_first (first_cut xs e) (first_cut ys e)
unfolding cuts
first_cut-append xs ys e = ap (first_at e) (filter_map-append as_cut xs ys) ∙ first_at-append e (filter_map as_cut xs) (filter_map as_cut ys)

pub first_cut-one : (c : CutData) (e : ℕ) → first_cut (Cut c ∷ []) e ≡ first_at e (c ∷ [])
unfolding cuts
first_cut-one c e = refl

or_none : (o : Option CutData) → or_first o None ≡ o
or_none o = search rules

no_first : (f : Fact) (e : ℕ) → ((c : CutData) → f ≡ Cut c → ⊥) → first_cut (f ∷ []) e ≡ None
unfolding cuts
no_first f e h = search rules

-- the first of an epoch is of that epoch
epoch_at : (e : ℕ) (d : CutData) (ds : List CutData) (c : CutData) (b : Bool) → (d.epoch == e) ≡ b → (first_at e ds ≡ Some c → c.epoch ≡ e)
    → cond b (Some d) (first_at e ds) ≡ Some c → c.epoch ≡ e
epoch_at e d ds c b t ih h = search rules

pub first_at_epoch : (e : ℕ) (cs : List CutData) (c : CutData) → first_at e cs ≡ Some c → c.epoch ≡ e
first_at_epoch e [] c h = absurd (none-some c h)
first_at_epoch e (d ∷ ds) c h = epoch_at e d ds c (d.epoch == e) refl (first_at_epoch e ds c) h

-- the effective truncations are the first of their epochs
counted_first : (cs : List CutData) (c : CutData) → Contains (first_cuts cs) c → first_at c.epoch cs ≡ Some c
counted_first [] c h = absurd (none_in c h)
counted_first (d ∷ ds) c h =
    ⊎_elim
    (λ (q : d ≡ c). let t : (d.epoch == c.epoch) ≡ true = eq-eqb d.epoch c.epoch (ap (λ x. x.epoch) q) in
    subst (λ b. cond b (Some d) (first_at c.epoch ds) ≡ Some c) (sym t) (ap Some q))
    (λ (k : Contains (filter (λ x. not (x.epoch == d.epoch)) (first_cuts ds)) c).
    let old : Contains (first_cuts ds) c × (not (c.epoch == d.epoch) ≡ true) = filtered (λ x. not (x.epoch == d.epoch)) (first_cuts ds) c k in
    let ne : c.epoch ≡ d.epoch → ⊥ = eqb-false c.epoch d.epoch (not-true (c.epoch == d.epoch) old.1) in
    let t : (d.epoch == c.epoch) ≡ false = ne_eqb d.epoch c.epoch (λ q. ne (sym q)) in
    subst (λ b. cond b (Some d) (first_at c.epoch ds) ≡ Some c) (sym t)
    (counted_first ds c old.0))
    (which d _ c h)

first_counted_at : (d : CutData) (ds : List CutData) (c : CutData) (b : Bool) → (d.epoch == c.epoch) ≡ b
    → (first_at c.epoch ds ≡ Some c → Contains (first_cuts ds) c) → cond b (Some d) (first_at c.epoch ds) ≡ Some c → Contains (first_cuts (d ∷ ds)) c
first_counted_at d ds c b t ih h = search (rules, there, passed)

first_counted : (cs : List CutData) (c : CutData) → first_at c.epoch cs ≡ Some c → Contains (first_cuts cs) c
first_counted [] c h = absurd (none-some c h)
first_counted (d ∷ ds) c h = first_counted_at d ds c (d.epoch == c.epoch) refl (first_counted ds c) h

pub counted_is : (log : List Fact) (c : CutData) → Contains (counted log) c ↔ (first_cut log c.epoch ≡ Some c)
unfolding counted
counted_is log c = (counted_first (cuts log) c, first_counted (cuts log) c)

pub counted_at : (log : List Fact) (e : ℕ) (c : CutData) → first_cut log e ≡ Some c → Contains (counted log) c × (c.epoch ≡ e)
counted_at log e c h = search (rules, first_at_epoch, counted_is)

pub at_counted : (log : List Fact) (e : ℕ) (c : CutData) → Contains (counted log) c → c.epoch ≡ e → first_cut log e ≡ Some c
at_counted log e c h q = subst (λ k. first_cut log k ≡ Some c) q ((counted_is log c).0 h)

-- the effective ones are among the truncations
first_among_at : (e : ℕ) (d : CutData) (ds : List CutData) (c : CutData) (b : Bool) → (first_at e ds ≡ Some c → Contains ds c)
    → cond b (Some d) (first_at e ds) ≡ Some c → Contains (d ∷ ds) c
first_among_at e d ds c b ih h = search (rules, there)

pub first_among : (e : ℕ) (cs : List CutData) (c : CutData) → first_at e cs ≡ Some c → Contains cs c
first_among e [] c h = absurd (none-some c h)
first_among e (d ∷ ds) c h = first_among_at e d ds c (d.epoch == e) (first_among e ds c) h

pub counted_among : (log : List Fact) (c : CutData) → Contains (counted log) c → Contains (cuts log) c
counted_among log c h = first_among c.epoch (cuts log) c ((counted_is log c).0 h)

-- one more fact of a table
pub table_nil : (table : List (Option CutData)) → ((k : ℕ) → get_or table k None ≡ None) → IsTable [] table
unfolding cuts
table_nil table h = record { at = λ e. h e; shapes = λ c k. absurd (none_in c k) }

pub table_other : (xs : List Fact) (f : Fact) (table : List (Option CutData)) → IsTable xs table → ((c : CutData) → f ≡ Cut c → ⊥)
    → IsTable (xs ++ f ∷ []) table
table_other xs f table t h = record {
  at = λ e. t.at e ∙ sym (first_cut-append xs (f ∷ []) e ∙ ap (or_first (first_cut xs e)) (no_first f e h) ∙ or_none (first_cut xs e));
  shapes = λ c k. ⊎_elim
      (λ (q : Contains xs (Cut c)). t.shapes c ((cut_in xs c).1 q))
      (λ (q : Contains (f ∷ []) (Cut c)). absurd (⊎_elim (λ (e : f ≡ Cut c). h c e) (λ (n : Contains [] (Cut c)). none_in (Cut c) n) (which f [] (Cut c) q)))
      (Contains-append_cases xs (f ∷ []) (Cut c) ((cut_in (xs ++ f ∷ []) c).0 k));
}

pub table_cut : (xs : List Fact) (f : Fact) (c : CutData) (old new : List (Option CutData)) → f ≡ Cut c → cut_fault c ≡ None → IsTable xs old
    → ((e : ℕ) → get_or new e None ≡ or_first (get_or old e None) (first_at e (c ∷ []))) → IsTable (xs ++ f ∷ []) new
table_cut xs f c old new q le t h = record {
  at = λ e. h e ∙ ap (λ o. or_first o (first_at e (c ∷ []))) (t.at e) ∙ sym
      (first_cut-append xs (f ∷ []) e ∙ ap (or_first (first_cut xs e)) (ap (λ g. first_cut (g ∷ []) e) q ∙ first_cut-one c e));
  shapes = λ d k. ⊎_elim
      (λ (p : Contains xs (Cut d)). t.shapes d ((cut_in xs d).1 p))
      (λ (p : Contains (f ∷ []) (Cut d)). ⊎_elim (λ (e : f ≡ Cut d). let s : Cut c ≡ Cut d = sym q ∙ e in let u : c ≡ d = cc in
      subst (λ x. cut_fault x ≡ None) u le) (λ (n : Contains [] (Cut d)). absurd (none_in (Cut d) n)) (which f [] (Cut d) p))
      (Contains-append_cases xs (f ∷ []) (Cut d) ((cut_in (xs ++ f ∷ []) d).0 k));
}

-- the complete epoch of a table
some_at : (log : List Fact) (e : ℕ) → (first_cut log e ≡ None → ⊥) → (c : CutData) × (first_cut log e ≡ Some c)
some_at log e h = search rules

pub begun_to : (log : List Fact) (k : ℕ) → ((e : ℕ) → 1 ≤ e → e ≤ k → first_cut log e ≡ None → ⊥) → HasCutsTo (counted log) k
begun_to log k h e l m =
    let s = some_at log e (h e l m) in
    let c = counted_at log e s.0 s.1 in
    (s.0, c.0, c.1)

pub is_begun : (log : List Fact) (k : ℕ) → ((e : ℕ) → 1 ≤ e → e ≤ k → first_cut log e ≡ None → ⊥) → first_cut log (k + 1) ≡ None
    → AreBegunTo log k
is_begun log k has stop e = (
  λ h. ⊎_elim
      (λ (l : k < e). absurd (
      let c = h (k + 1) (omega arith) (omega arith) in
      none-some c.0 (sym stop ∙ at_counted log (k + 1) c.0 c.1 c.2)))
      (λ (l : e ≤ k). l)
      (cases_lt k e),
  λ l. begun_to log e (λ i p q. has i p (omega arith)),
)

-- the least later lo from the last epoch of the table on, and of the epoch before
pub later_lo_last : (roster : ℕ) (log : List Fact) (table : List (Option CutData)) (e later : ℕ) → IsTable log table → length table ≤ e + 1
    → later ≡ 281474976710655 → IsLeastLaterLo roster log e later
later_lo_last roster log table e later t last q = record {
  below = λ c h l past. absurd (none-some c (sym (outside c l) ∙ t.at c.epoch ∙ at_counted log c.epoch c h refl));
  least = inl q;
}
  where
    outside : (c : CutData) → e < c.epoch → get_or table c.epoch None ≡ None
    outside c l = get_or_past table c.epoch None (omega arith)

pub later_lo_step : (roster : ℕ) (log : List Fact) (count : ℕ) (lows : List ℕ) (e old new : ℕ) (o : Option CutData) → e + 1 < count
    → AreLeastPoints roster log count lows → first_cut log (e + 1) ≡ o → IsLeastLaterLo roster log (e + 1) old
    → MatchOption o (new ≡ old) (λ c. (c.lo < get_or lows (e + 1) 0 → new ≤ c.lo) × (new ≤ old)
    × ((new ≡ old) ⊎ ((c.lo < get_or lows (e + 1) 0) × (new ≡ c.lo)))) → IsLeastLaterLo roster log e new
later_lo_step roster log count lows e old new None small a q f h = record {
  below = λ c k l past. ⊎_elim
      (λ (s : c.epoch ≡ e + 1). absurd (none-some c (sym q ∙ at_counted log (e + 1) c k s)))
      (λ (s : c.epoch ≢ e + 1). let b : old ≤ c.lo = f.below c k (omega arith) past in omega arith)
      (cases_eq c.epoch (e + 1));
  least = ⊎_elim (λ (s : old ≡ 281474976710655). inl (h ∙ s)) (λ s. inr (s.0, s.1, (let l : e + 1 < s.0.epoch = s.2 in omega arith), s.3, s.4 ∙ sym h)) f.least;
}
later_lo_step roster log count lows e old new (Some d) small a q f h =
    let b : new ≤ old = h.1 in
    let here = counted_at log (e + 1) d q in
    let ep : d.epoch ≡ e + 1 = here.1 in
    record {
      below = λ c k l past. ⊎_elim
          (λ (s : c.epoch ≡ e + 1).
          let u : d ≡ c = same_Some d c (sym q ∙ at_counted log (e + 1) c k s) in
          let under : c.lo < get_or lows (e + 1) 0 = subst (λ i. c.lo < get_or lows i 0) s (past_low roster log count lows c a (omega arith) past) in
          subst (λ x. new ≤ x.lo) u (h.0 (subst (λ x. x.lo < get_or lows (e + 1) 0) (sym u) under)))
          (λ (s : c.epoch ≢ e + 1). let v : old ≤ c.lo = f.below c k (omega arith) past in omega arith)
          (cases_eq c.epoch (e + 1));
      least = ⊎_elim
          (λ (s : new ≡ old). ⊎_elim (λ (t : old ≡ 281474976710655). inl (s ∙ t))
          (λ t. inr (t.0, t.1, (let l : e + 1 < t.0.epoch = t.2 in omega arith), t.3, t.4 ∙ sym s)) f.least)
          (λ (s : (d.lo < get_or lows (e + 1) 0) × (new ≡ d.lo)). inr
          (d, here.0, omega arith, low_past roster log count lows d a (omega arith) (subst (λ i. d.lo < get_or lows i 0) (sym ep) s.0), sym s.1))
          h.2;
    }

-- what a description decides
pub above_hi : (log : List Fact) (e n : ℕ) (o : Option CutData) (b : Bool) → first_cut log e ≡ o
    → MatchOption o (b ≡ true) (λ c. (b ≡ true) ↔ (c.hi < n)) → (b ≡ true) ↔ ((c : CutData) → Contains (counted log) c → c.epoch ≡ e → c.hi < n)
above_hi log e n None b q h = (λ _. λ c k s. absurd (none-some c (sym q ∙ at_counted log e c k s)), λ _. h)
above_hi log e n (Some d) b q h = (
  λ t. λ c k s. let u : d ≡ c = same_Some d c (sym q ∙ at_counted log e c k s) in subst (λ x. x.hi < n) u (h.0 t),
  λ above. let s = counted_at log e d q in h.1 (above d s.0 s.1),
)

pub law2_not : (log : List Fact) (r : RecordData) (k : ℕ) → AreBegunTo log k → k < r.epoch → Law2 log (Record r) → ⊥
law2_not log r k b l law = let m : r.epoch ≤ k = (b r.epoch).0 law.0 in absurd (omega arith)

pub law5_at : (roster : ℕ) (log : List Fact) (a : AdvanceData) (later : ℕ) → IsLeastLaterLo roster log a.epoch later → a.point ≤ 281474976710655
    → IsReader roster a.reader → HasCutsTo (counted log) a.epoch → (a.point ≤ later) ↔ Law5 roster log (Advance a)
law5_at roster log a later f small reader has = search rules

-- an item of a table
pub read_item : (table : List (Option CutData)) (i : ℕ) (o : Option CutData) → i < length table → o ≡ get_or table i o → get_or table i None ≡ o
read_item table i o l q = get_or_default table i None o l ∙ sym q

not_some : (o : Option CutData) → is_some o ≡ false → o ≡ None
not_some o s = search rules

pub none_item : (table : List (Option CutData)) (i : ℕ) (o : Option CutData) → i < length table → o ≡ get_or table i o → is_some o ≡ false
    → get_or table i None ≡ None
none_item table i o l q s = read_item table i o l q ∙ not_some o s
