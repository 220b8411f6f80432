-- A walk over keys beside a chain.
use Rattle.std.proofs.Common.{◌≡◌, ℕ, ◌<◌, ◌⊎◌, inl, inr, ⊎_elim, List, [], ◌∷◌, ◌++◌, append_assoc, ap, sym, ◌∙◌, refl, subst, arith, Option, Some, None}
use Rattle.std.specs.List.{Contains}
use Rattle.std.specs.declared.cmp.Ordering.TheVariants.{Less}
use Rattle.std.proofs.lemmas.List.{append-nil}
use Rattle.std.proofs.lemmas.List.Elements.{Contains-append_cases, Contains-append_right}
use Rattle.redo_core.specs.Data.{RecordData}
use Rattle.redo_core.specs.Keys.{key_in, key_of, key_cmp, KeyBefore}
use Rattle.redo_core.specs.declared.keys.Key.{Key}
use Rattle.redo_core.specs.Order.{IsRising, RecordBefore}
use Rattle.redo_core.specs.Standing.{IsAlive}
use Rattle.redo_core.proofs.Members.{none_in, there, here, which, each}
use Rattle.epoch_book.specs.Book.{BookData, IsBook}
use Rattle.hot_log.specs.Held.{HasKey}
use Rattle.hot_log.specs.Ahead.{AreOnward, NoneAlive, PassesToAlive}
use Rattle.hot_log.specs.Alive.{IsHeldAlive, PartsAt}
use Rattle.hot_log.specs.Indexing.{AreHeldAbove}
use Rattle.hot_log.proofs.Climb.{alive_key}
use Rattle.hot_log.proofs.Orders.{key_less}
use Rattle.hot_log.proofs.Keyed.{Entry}
use Rattle.hot_log.proofs.Views.{view_of, number_before}

-- what was before these keys is passed, and none of it is alive
pub record IsPassed (b : BookData) (all left : List Entry) : Type 0 where
  pub passed : List Entry
  pub split : all ≡ passed ++ left
  pub none : NoneAlive b passed

pub none_passed : (b : BookData) (all : List Entry) → IsPassed b all all
none_passed b all = record { passed = []; split = refl; none = λ e h a. none_in e h }

pub one_passed : (b : BookData) (all left rest : List Entry) (x : Entry) → IsPassed b all left → left ≡ x ∷ rest → (IsAlive b.cuts b.complete x.0.epoch x.0.number → ⊥) → IsPassed b all rest
one_passed b all left rest x p is dead = record {
  passed = p.passed ++ x ∷ [];
  split = p.split ∙ ap (λ (l : List Entry). p.passed ++ l) is ∙ sym (append_assoc p.passed (x ∷ []) rest);
  none = λ e h a. ⊎_elim
      (λ (u : Contains p.passed e). p.none e u a)
      (λ (u : Contains (x ∷ []) e). ⊎_elim (λ (q : x ≡ e). dead (subst (λ (y : Entry). IsAlive b.cuts b.complete y.0.epoch y.0.number) (sym q) a)) (λ (v : Contains [] e). none_in e v) (which x [] e u))
      (Contains-append_cases p.passed (x ∷ []) e h);
}

pub all_passed : (b : BookData) (all left rest : List Entry) → IsPassed b all left → left ≡ [] → PassesToAlive b all None rest
all_passed b all left rest p is = subst (NoneAlive b) (sym (p.split ∙ ap (λ (l : List Entry). p.passed ++ l) is ∙ append-nil p.passed)) p.none

abbrev Rises : Entry → Entry → Type 0
Rises x y = key_cmp x.0 y.0 ≡ Less

abbrev own : RecordData → Entry
own r = (key_of r, r)

rising_behind : (front rest : List Entry) → IsRising Rises (front ++ rest) → IsRising Rises rest
rising_behind [] rest r = r
rising_behind (x ∷ front) rest r = rising_behind front rest r.1

pub some_same : (k l : Key) → Some k ≡ Some l → k ≡ l
some_same k l e = cc

pub same_some : (k l : Key) → k.epoch ≡ l.epoch → k.number ≡ l.number → Some k ≡ Some l
same_some k l e n = ap (λ (m : ℕ). Some (key_in m k.number)) e ∙ ap (λ (m : ℕ). Some (key_in l.epoch m)) n

module _ (b : BookData) (held : List RecordData) (book : IsBook b) where
  pub ahead_of : (number epoch : ℕ) (left : List Entry) → PartsAt b number epoch → AreHeldAbove held (key_in epoch number) left → AreOnward b held number left
  ahead_of number epoch left parts above = record {
    listed = λ r h lt. above.listed r h.0 ((parts.0 r.epoch r.number h.1).0 lt);
    backed = λ e h a.
        let t = above.backed e h in
        let alive : IsAlive b.cuts b.complete e.1.epoch e.1.number = alive_key b e.1 e.0 t.1 a in
        (e.1, (t.0, alive), t.1, (parts.0 e.1.epoch e.1.number alive).1 t.2);
    rising = above.rising;
  }

  module _ (top : ℕ) (left rest front : List Entry) (k : Entry) (ahead : AreOnward b held top left) (split : left ≡ front ++ k ∷ rest) (dead : NoneAlive b front) where
    -- an alive record above the LSN has the key, or is after it
    at_or_behind : (r : RecordData) → IsHeldAlive b held r → top < r.number → HasKey k.0 r ⊎ Contains rest (own r)
    at_or_behind r h lt = ⊎_elim
        (λ (u : Contains front (own r)). absurd (dead (own r) u h.1))
        (λ (u : Contains (k ∷ rest) (own r)). ⊎_elim
        (λ (e : k ≡ own r). inl (ap (λ (y : Entry). y.0.epoch) (sym e), ap (λ (y : Entry). y.0.number) (sym e)))
        (λ (v : Contains rest (own r)). inr v)
        (which k rest (own r) u))
        (Contains-append_cases front (k ∷ rest) (own r) (subst (λ (l : List Entry). Contains l (own r)) split (ahead.listed r h lt)))

    behind : IsRising Rises (k ∷ rest)
    behind = rising_behind front (k ∷ rest) (subst (IsRising Rises) split ahead.rising)

    -- what is after the key has a higher LSN
    higher : (x r : RecordData) → IsHeldAlive b held x → HasKey k.0 x → IsHeldAlive b held r → (e : Entry) → HasKey e.0 r → Contains rest e → x.number < r.number
    higher x r hx kx hr e kr u =
        let less : KeyBefore k.0 e.0 = key_less k.0 e.0 (each (λ (y : Entry). key_cmp k.0 y.0 ≡ Less) rest e behind.0 u) in
        let before : RecordBefore x r = (let a : x.epoch ≡ k.0.epoch = kx.0 in let m : x.number ≡ k.0.number = kx.1 in let f : r.epoch ≡ e.0.epoch = kr.0 in let n : r.number ≡ e.0.number = kr.1 in grind arith) in
        number_before b.cuts b.complete (view_of b book) x r hx.1 hr.1 before

    module _ (x : RecordData) (hx : IsHeldAlive b held x) (kx : HasKey k.0 x) (up : top < x.number) where
      pub ahead_next : AreOnward b held x.number rest
      ahead_next = record {
        listed = λ r h lt. ⊎_elim
            (λ (q : HasKey k.0 r). absurd (let m : x.number ≡ k.0.number = kx.1 in let n : r.number ≡ k.0.number = q.1 in omega arith))
            (λ (u : Contains rest (own r)). u)
            (at_or_behind r h (omega arith));
        backed = λ e h a.
            let t = ahead.backed e (subst (λ (l : List Entry). Contains l e) (sym split) (Contains-append_right front (k ∷ rest) e (there k rest e h))) a in
            (t.0, t.1, t.2, higher x t.0 hx kx t.1 e t.2 h);
        rising = behind.1;
      }

      pub none_between : (r : RecordData) → IsHeldAlive b held r → top < r.number → r.number < x.number → ⊥
      none_between r h lt below = ⊎_elim
          (λ (q : HasKey k.0 r). let m : x.number ≡ k.0.number = kx.1 in let n : r.number ≡ k.0.number = q.1 in omega arith)
          (λ (u : Contains rest (own r)). let t : x.number < r.number = higher x r hx kx h (own r) (refl, refl) u in omega arith)
          (at_or_behind r h lt)

    -- where the key is another one's, that one is between
    pub other_first : IsAlive b.cuts b.complete k.0.epoch k.0.number → (x : RecordData) → IsHeldAlive b held x → top < x.number → (HasKey k.0 x → ⊥)
        → (y : RecordData) × IsHeldAlive b held y × (top < y.number) × (y.number < x.number)
    other_first alive x hx up other =
        let t = ahead.backed k (subst (λ (l : List Entry). Contains l k) (sym split) (Contains-append_right front (k ∷ rest) k (here k rest))) alive in (
          t.0,
          t.1,
          t.3,
          ⊎_elim
              (λ (q : HasKey k.0 x). absurd (other q))
              (λ (u : Contains rest (own x)). higher t.0 x t.1 t.2 hx (own x) (refl, refl) u)
              (at_or_behind x hx up),
        )

  module _ (top : ℕ) (left rest : List Entry) (key : Key) where
    -- the walk has reached the key of an alive record above the LSN
    pub passed_to : (o : Option Key) (x : RecordData) → AreOnward b held top left → PassesToAlive b left o rest → o ≡ Some key → IsHeldAlive b held x → HasKey key x → top < x.number
        → AreOnward b held x.number rest × ((r : RecordData) → IsHeldAlive b held r → top < r.number → r.number < x.number → ⊥)
    passed_to None x ahead p is hx kx up = absurd (cc)
    passed_to (Some found) x ahead p is hx kx up =
        let same : found ≡ key = some_same found key is in
        let k : HasKey found x = subst (λ (q : Key). HasKey q x) (sym same) kx in
        (ahead_next top left rest p.1.0 (found, p.1.1) ahead p.1.2 p.1.3 x hx k up, none_between top left rest p.1.0 (found, p.1.1) ahead p.1.2 p.1.3 x hx k up)

    -- the walk has reached another key, whose record is then alive between the two
    pub stray_before : (o : Option Key) (x : RecordData) → AreOnward b held top left → PassesToAlive b left o rest → (o ≡ Some key → ⊥) → IsHeldAlive b held x → HasKey key x → top < x.number
        → (y : RecordData) × IsHeldAlive b held y × (top < y.number) × (y.number < x.number)
    stray_before None x ahead none other hx kx up = absurd (none (own x) (ahead.listed x hx up) hx.1)
    stray_before (Some found) x ahead p other hx kx up =
        other_first top left rest p.1.0 (found, p.1.1) ahead p.1.2 p.1.3 p.0 x hx up
        (λ (q : HasKey found x). other (same_some found key (sym q.0 ∙ kx.0) (sym q.1 ∙ kx.1)))
