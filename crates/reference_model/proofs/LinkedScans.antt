-- Scans for what is alive and linked.
use Rattle.std.proofs.Common.{◌≡◌, ℕ, ◌+◌, ◌<◌, ◌≤◌, List, length, get_or, take, refl, sym, subst, arith, Option, rules}
use Rattle.std.specs.List.{Contains, All}
use Rattle.std.proofs.lemmas.List.Elements.{All-contains}
use Rattle.redo_core.specs.Data.{RecordData, CutData}
use Rattle.redo_core.specs.Sets.{records, cuts}
use Rattle.redo_core.specs.Standing.{IsAlive, SparesIn}
use Rattle.redo_core.specs.Linked.{IsLinked}
use Rattle.redo_core.specs.Linked.Linked.{start, next}
use Rattle.redo_core.specs.declared.facts.Fact.{Fact}
use Rattle.redo_core.specs.declared.facts.Fact.TheVariants.{Record, Cut}
use Rattle.redo_core.proofs.FactParts.{record_in, cut_in}
use Rattle.redo_core.proofs.Scans.{one_more}
use Rattle.redo_core.proofs.Members.{item}
use Rattle.reference_model.specs.Helpers.{IsUpToLimit, IsLinkedWithin}
use Rattle.reference_model.proofs.Scanned.{IsSpared, LinksNot, LinksUpTo}

pub record_item : (facts : List Fact) (i : ℕ) (f : Fact) (r : RecordData) → i < length facts → f ≡ get_or facts i f → f ≡ Record r → Contains (records facts) r
record_item facts i f r l e q = (record_in facts r).1 (subst (Contains facts) q (item facts i f l e))

pub spared_cut : (v e n : ℕ) (f : Fact) (c : CutData) → f ≡ Cut c → SparesIn v e n c → IsSpared v e n f
spared_cut v e n f c q h = subst (IsSpared v e n) (sym q) h

pub spared_default : (v e n : ℕ) (f : Fact) → ((c : CutData) → f ≡ Cut c → ⊥) → IsSpared v e n f
spared_default v e n f h = search rules

pub all_spare : (facts : List Fact) (v e n : ℕ) → e ≤ v → All (IsSpared v e n) facts → IsAlive (cuts facts) v e n
all_spare facts v e n l all = record {
  known = l;
  begun = λ c h q. (All-contains (IsSpared v e n) facts (Cut c) all ((cut_in facts c).0 h)).0 q;
  spared = λ c h q m. (All-contains (IsSpared v e n) facts (Cut c) all ((cut_in facts c).0 h)).1 q m;
}

pub spares_of : (cs : List CutData) (v e n : ℕ) (c : CutData) → Contains cs c → IsAlive cs v e n → SparesIn v e n c
spares_of cs v e n c h a = (a.begun c h, a.spared c h)

pub link : (facts : List Fact) (v n : ℕ) (r : RecordData) → Contains (records facts) r → r.number ≡ n → 0 < n → IsAlive (cuts facts) v r.epoch n
    → IsLinked facts v r.back → IsLinked facts v n
link facts v n r h e p a l = subst (IsLinked facts v) e (next r h (subst (IsAlive (cuts facts) v r.epoch) (sym e) a) (omega arith) l)

pub links_not_record : (facts : List Fact) (v n : ℕ) (f : Fact) (r : RecordData) → f ≡ Record r
    → (r.number ≡ n → IsAlive (cuts facts) v r.epoch n → IsLinked facts v r.back → ⊥) → LinksNot facts v n f
links_not_record facts v n f r q h = subst (LinksNot facts v n) (sym q) h

pub links_not_default : (facts : List Fact) (v n : ℕ) (f : Fact) → ((r : RecordData) → f ≡ Record r → ⊥) → LinksNot facts v n f
links_not_default facts v n f h = search rules

pub no_link : (facts : List Fact) (v n : ℕ) → All (LinksNot facts v n) facts → (n ≡ 0 → ⊥) → IsLinked facts v n → ⊥
no_link facts v n all off start = off refl
no_link facts v n all off (next r h a l p) = All-contains (LinksNot facts v n) facts (Record r) all ((record_in facts r).0 h) refl a p

pub up_record : (facts : List Fact) (v : ℕ) (m : Option ℕ) (t : ℕ) (f : Fact) (r : RecordData) → f ≡ Record r
    → (IsLinkedWithin facts v m r.number → r.number ≤ t) → LinksUpTo facts v m t f
up_record facts v m t f r q h = subst (LinksUpTo facts v m t) (sym q) h

pub up_default : (facts : List Fact) (v : ℕ) (m : Option ℕ) (t : ℕ) (f : Fact) → ((r : RecordData) → f ≡ Record r → ⊥) → LinksUpTo facts v m t f
up_default facts v m t f h = search rules

pub top_linked : (facts : List Fact) (v : ℕ) (m : Option ℕ) (t n : ℕ) → All (LinksUpTo facts v m t) facts → IsLinked facts v n → IsUpToLimit m n → n ≤ t
top_linked facts v m t n all start l = omega arith
top_linked facts v m t n all (next r h a b p) l = All-contains (LinksUpTo facts v m t) facts (Record r) all ((record_in facts r).0 h) (next r h a b p, l)

up_at : (facts : List Fact) (v : ℕ) (m : Option ℕ) (s t : ℕ) → s ≤ t → (f : Fact) → LinksUpTo facts v m s f → LinksUpTo facts v m t f
up_at facts v m s t l f h = search rules

pub up_higher : (facts xs : List Fact) (v : ℕ) (m : Option ℕ) (s t : ℕ) → s ≤ t → All (LinksUpTo facts v m s) xs → All (LinksUpTo facts v m t) xs
up_higher facts xs v m s t l all k d u = up_at facts v m s t l (get_or xs k d) (all k d u)

pub within_zero : (m : Option ℕ) → IsUpToLimit m 0
within_zero m = search rules

-- a step that leaves the greatest
pub top_step : (xs : List Fact) (i : ℕ) (f : Fact) (v : ℕ) (l : Option ℕ) (m n : ℕ) → i < length xs → f ≡ get_or xs i f → n ≡ m → IsLinkedWithin xs v l m
    → All (LinksUpTo xs v l m) (take i xs) → LinksUpTo xs v l m f
    → (let T : Type 0 = record { there : IsLinkedWithin xs v l n; top : All (LinksUpTo xs v l n) (take (i + 1) xs) } in T)
top_step xs i f v l m n b q same there top up = record {
  there = subst (IsLinkedWithin xs v l) (sym same) there;
  top = subst (λ k. All (LinksUpTo xs v l k) (take (i + 1) xs)) (sym same) (one_more (LinksUpTo xs v l m) xs i f b q top up);
}
