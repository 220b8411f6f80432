-- What a sound log implies for its members: one fact of each key, and every truncation takes effect.
use Rattle.std.proofs.lemmas.Grind.{common_steps}
use Rattle.std.proofs.Common.{rules}
use Rattle.std.proofs.Common.{◌≡◌, ◌≢◌, ℕ, zero, suc, ◌<◌, ◌≤◌, ◌⊎◌, ◌↔◌, ⊎_elim, List, [], ◌∷◌, length, get_or, take, sym, ap, subst, arith, Some, None, not}
use Rattle.std.specs.Prelude.{slice_get, ◌==◌}
use Rattle.std.specs.List.{Contains}
use Rattle.std.proofs.lemmas.Bool.Decides.{nat_tests}
use Rattle.redo_core.specs.Data.{RecordData, CutData}
use Rattle.redo_core.specs.Shape.{cut_fault}
use Rattle.redo_core.specs.Sets.{records, cuts}
use Rattle.redo_core.specs.Sound.{IsSound, KeepsLaws, SameKey, first_cuts, counted}
use Rattle.redo_core.specs.declared.facts.Fact.{Fact}
use Rattle.redo_core.specs.declared.facts.Fact.TheVariants.{Record, Cut}
use Rattle.redo_core.proofs.Members.{none_in, here, there, which, filtered, passed}
use Rattle.redo_core.proofs.FactParts.{record_in, cut_in}

-- the fact at an index
pub place_of : (xs : List Fact) (x : Fact) → (k : ℕ) → k < length xs → get_or xs k x ≡ x → slice_get xs k ≡ Some x
place_of [] x k l e = absurd (omega (arith, l))
place_of (y ∷ ys) x zero l e = ap Some e
place_of (y ∷ ys) x (suc k) l e = place_of ys x k (omega (arith, l)) e

pub kept : (roster : ℕ) (log : List Fact) (f : Fact) → IsSound roster log → (h : Contains log f) → KeepsLaws roster log h.0 f
kept roster log f sound h = sound.keeps h.0 f (place_of log f h.0 h.1 h.2)

-- an earlier index
pub earlier : (xs : List Fact) (x : Fact) (i j : ℕ) → i < j → i < length xs → get_or xs i x ≡ x → Contains (take j xs) x
earlier [] x i j l in' e = absurd (omega (arith, in'))
earlier (y ∷ ys) x zero zero l in' e = absurd (omega (arith, l))
earlier (y ∷ ys) x (suc i) zero l in' e = absurd (omega (arith, l))
earlier (y ∷ ys) x zero (suc j) l in' e = subst (λ z. Contains (z ∷ take j ys) x) (sym e) (here x (take j ys))
earlier (y ∷ ys) x (suc i) (suc j) l in' e = there y (take j ys) x (earlier ys x i j (omega (arith, l)) (omega (arith, in')) e)

pub same_place : (xs : List Fact) (x y : Fact) (k : ℕ) → k < length xs → get_or xs k x ≡ x → get_or xs k y ≡ y → x ≡ y
same_place xs x y k l e f = grind (arith, common_steps)

pub key_sym : (f g : Fact) → SameKey f g → SameKey g f
key_sym f g h = search rules

-- facts of one key are one fact
pub same_fact : (roster : ℕ) (log : List Fact) (f g : Fact) → IsSound roster log → Contains log f → Contains log g → SameKey f g → f ≡ g
same_fact roster log f g sound hf hg key =
    ⊎_elim
    (λ (l : hf.0 < hg.0). (kept roster log g sound hg).law1 f (earlier log f hf.0 hg.0 l hf.1 hf.2) key)
    (λ (m : hg.0 ≤ hf.0). ⊎_elim
    (λ (l : hg.0 < hf.0). sym ((kept roster log f sound hf).law1 g (earlier log g hg.0 hf.0 l hg.1 hg.2) (key_sym f g key)))
    (λ (e : hg.0 ≡ hf.0). same_place log f g hf.0 hf.1 hf.2 (subst (λ k. get_or log k g ≡ g) e hg.2))
    (let t : (hg.0 < hf.0) ⊎ (hg.0 ≡ hf.0) = grind arith in t))
    (let t : (hf.0 < hg.0) ⊎ (hg.0 ≤ hf.0) = grind arith in t)

pub same_record : (roster : ℕ) (log : List Fact) → IsSound roster log → (r s : RecordData) → Contains (records log) r → Contains (records log) s
    → r.epoch ≡ s.epoch → r.number ≡ s.number → r ≡ s
same_record roster log sound r s hr hs e n = let q : Record r ≡ Record s = same_fact roster log (Record r) (Record s) sound ((record_in log r).0 hr)
    ((record_in log s).0 hs) (e, n) in cc

pub same_cut : (roster : ℕ) (log : List Fact) → IsSound roster log → (c d : CutData) → Contains (cuts log) c → Contains (cuts log) d → c.epoch ≡ d.epoch → c ≡ d
same_cut roster log sound c d hc hd e = let q : Cut c ≡ Cut d = same_fact roster log (Cut c) (Cut d) sound ((cut_in log c).0 hc) ((cut_in log d).0 hd) e in cc

-- the effective truncations are all of them
pub first_within : (cs : List CutData) (c : CutData) → Contains (first_cuts cs) c → Contains cs c
first_within [] c h = h
first_within (d ∷ ds) c h =
    ⊎_elim (λ (e : d ≡ c). subst (λ x. Contains (x ∷ ds) c) (sym e) (here c ds))
    (λ q. there d ds c (first_within ds c (filtered (λ x. not (x.epoch == d.epoch)) (first_cuts ds) c q).0))
    (which d _ c h)

-- each epoch's first truncation
pub first_of_epoch : (cs : List CutData) (c : CutData) → Contains cs c → (d : CutData) × Contains (first_cuts cs) d × (d.epoch ≡ c.epoch)
first_of_epoch [] c h = absurd (none_in c h)
first_of_epoch (b ∷ bs) c h =
    ⊎_elim (λ (e : b.epoch ≡ c.epoch). (b, here b _, e))
    (λ (no : b.epoch ≢ c.epoch).
    let below : Contains bs c = ⊎_elim (λ (q : b ≡ c). absurd (no (ap (λ x. x.epoch) q))) (λ q. q) (which b bs c h) in
    let s = first_of_epoch bs c below in search (rules, there, passed))
    (let t : (b.epoch ≡ c.epoch) ⊎ (b.epoch ≢ c.epoch) = grind arith in t)

pub counted_in : (roster : ℕ) (log : List Fact) → IsSound roster log → (c : CutData) → Contains (counted log) c ↔ Contains (cuts log) c
unfolding counted
counted_in roster log sound c = (
  first_within (cuts log) c,
  λ h. let s = first_of_epoch (cuts log) c h in
      let q : s.0 ≡ c = same_cut roster log sound s.0 c (first_within (cuts log) s.0 s.1) h s.2 in
      subst (Contains (first_cuts (cuts log))) q s.1,
)

pub cut_facts : (c : CutData) → cut_fault c ≡ None → (0 < c.epoch) × (c.lo ≤ c.hi)
cut_facts c h = grind (arith, nat_tests)
