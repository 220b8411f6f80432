-- The search for the next record of a page.
use Rattle.std.proofs.Common.{◌≡◌, ℕ, ◌+◌, ◌<◌, ◌≤◌, List, length, get_or, take, sym, ap, subst, arith, Option, Some, None, rules}
use Rattle.std.proofs.lemmas.Grind.{common_steps}
use Rattle.std.specs.Prelude.{MatchOption}
use Rattle.std.specs.List.{Contains, All}
use Rattle.std.proofs.lemmas.List.Elements.{All-contains}
use Rattle.redo_core.specs.Data.{RecordData}
use Rattle.redo_core.specs.Sets.{records}
use Rattle.redo_core.specs.declared.facts.Fact.{Fact}
use Rattle.redo_core.specs.declared.facts.Fact.TheVariants.{Record}
use Rattle.redo_core.proofs.FactParts.{record_in}
use Rattle.reference_model.specs.PageRecords.{IsPageRecord, StandsInPage, IsNextPageRecord, HasNoNext}
use Rattle.reference_model.proofs.Scanned.{IsReached}
use Rattle.redo_core.proofs.Scans.{one_more}
use Rattle.redo_core.proofs.Members.{item}

pub page_record : (facts : List Fact) (k g q : ℕ) (r : RecordData) → Contains (records facts) r → StandsInPage facts k g q r → IsPageRecord facts k g q r
page_record facts k g q r h s = (record { among = h; alive = s.alive; linked = s.linked }, s.page, s.within)

stands : (facts : List Fact) (k g q : ℕ) (r : RecordData) → IsPageRecord facts k g q r → StandsInPage facts k g q r
stands facts k g q r p = record { page = p.1; within = p.2; alive = p.0.alive; linked = p.0.linked }

reached_at : (facts : List Fact) (k g from q : ℕ) (P Q : ℕ → Type 0) → ((n : ℕ) → P n → Q n) → (f : Fact) → IsReached facts k g from q P f
    → IsReached facts k g from q Q f
reached_at facts k g from q P Q lower f h = search rules

-- what reached the facts seen so far by one bound, reaches them by a lower one
pub reached_lower : (facts xs : List Fact) (k g from q : ℕ) (P Q : ℕ → Type 0) → ((n : ℕ) → P n → Q n) → All (IsReached facts k g from q P) xs
    → All (IsReached facts k g from q Q) xs
reached_lower facts xs k g from q P Q lower all i d l = reached_at facts k g from q P Q lower (get_or xs i d) (all i d l)

-- a record that may have been found, seen through its data
module _ {X : Type 0} (data_of : X → RecordData) where
  -- its LSN is at most n
  abbrev pub FoundUpTo : Option X → ℕ → Type 0
  FoundUpTo found n = MatchOption found ⊥ (λ x. (data_of x).number ≤ n)

  -- it is one of the page, from an LSN on
  abbrev pub FoundInPage : List Fact → ℕ → ℕ → ℕ → ℕ → Option X → Type 0
  FoundInPage facts k g from q found = MatchOption found (Unit {0}) (λ x. IsPageRecord facts k g q (data_of x) × (from ≤ (data_of x).number))

  pub found_lower : (found : Option X) (m : ℕ) → MatchOption found (Unit {0}) (λ x. m < (data_of x).number) → (n : ℕ) → FoundUpTo found n → m ≤ n
  found_lower found m before n h = search rules

  pub found_up_to : (found : Option X) (m : ℕ) → (MatchOption found (Unit {0}) (λ x. m < (data_of x).number) → ⊥) → FoundUpTo found m
  found_up_to found m h = search rules

  pub found_next : (facts : List Fact) (k g from q : ℕ) (found : Option X) → FoundInPage facts k g from q found
      → All (IsReached facts k g from q (FoundUpTo found)) facts → MatchOption found (HasNoNext facts k g from q)
      (λ x. IsNextPageRecord facts k g from q (data_of x))
  found_next facts k g from q None best all = λ r p l. All-contains (IsReached facts k g from q (FoundUpTo None)) facts (Record r) all
      ((record_in facts r).0 p.0.among) (stands facts k g q r p) l
  found_next facts k g from q (Some x) best all = record {
    found = best.0;
    above = best.1;
    least = λ s p l. All-contains (IsReached facts k g from q (FoundUpTo (Some x))) facts (Record s) all ((record_in facts s).0 p.0.among)
        (stands facts k g q s p) l;
  }

  -- a scan that has seen the facts before i
  abbrev pub Seen : List Fact → ℕ → ℕ → ℕ → ℕ → ℕ → Option X → Type 0
  Seen facts k g from q i found = (let T : Type 0 =
      record { best : FoundInPage facts k g from q found; least : All (IsReached facts k g from q (FoundUpTo found)) (take i facts) } in T)

  pub seen_new : (facts : List Fact) (k g from q i : ℕ) (f : Fact) (r : RecordData) (old new : Option X) (x : X) → i < length facts → f ≡ get_or facts i f
      → f ≡ Record r → new ≡ Some x → data_of x ≡ r → StandsInPage facts k g q r → from ≤ r.number
      → MatchOption old (Unit {0}) (λ y. r.number < (data_of y).number) → Seen facts k g from q i old → Seen facts k g from q (i + 1) new
  seen_new facts k g from q i f r old new x l e is made shown s above before seen =
      let lower : (n : ℕ) → FoundUpTo old n → FoundUpTo (Some x) n = λ n h. let m : r.number ≤ n = found_lower old r.number before n h in
      let d : (data_of x).number ≡ r.number = ap (λ y. y.number) shown in omega arith in
      let P : ℕ → Type 0 = FoundUpTo (Some x) in
      subst (Seen facts k g from q (i + 1)) (sym made) (record {
        best = (
          subst (IsPageRecord facts k g q) (sym shown)
              (page_record facts k g q r ((record_in facts r).1 (subst (Contains facts) is (item facts i f l e))) s),
          let d : (data_of x).number ≡ r.number = ap
              (λ y. y.number) shown in omega arith,
        );
        least = one_more (IsReached facts k g from q P) facts i f l e (reached_lower facts (take i facts) k g from q (FoundUpTo old) P lower seen.least)
            (subst (IsReached facts k g from q P) (sym is) (λ _ _. let d : (data_of x).number ≡ r.number = ap (λ y. y.number) shown in omega arith));
      })

  pub seen_more : (facts : List Fact) (k g from q i : ℕ) (f : Fact) (old new : Option X) → i < length facts → f ≡ get_or facts i f → new ≡ old
      → IsReached facts k g from q (FoundUpTo old) f → Seen facts k g from q i old → Seen facts k g from q (i + 1) new
  seen_more facts k g from q i f old new l e same reached seen = grind (arith, common_steps)
