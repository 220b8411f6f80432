-- A page record by record.
use Rattle.std.proofs.Common.{◌≡◌, ℕ, ◌+◌, ◌<◌, ◌≤◌, ◌⊎◌, ⊎_elim, List, [], ◌∷◌, ◌++◌, sym, ap, ◌∙◌, subst, arith, rules}
use Rattle.std.specs.List.{Contains}
use Rattle.std.proofs.lemmas.List.Elements.{Contains-append_left, Contains-append_right, Contains-append_cases}
use Rattle.redo_core.specs.Data.{RecordData}
use Rattle.redo_core.specs.Sets.{IsPart, cuts}
use Rattle.redo_core.specs.Order.{Lists, BeforeByNumber}
use Rattle.redo_core.specs.CompleteEpoch.{HasCutsTo}
use Rattle.redo_core.specs.Writing.{write, after_records, zeros}
use Rattle.redo_core.specs.PageAt.{IsPageAt}
use Rattle.redo_core.specs.Sound.{IsSound}
use Rattle.redo_core.specs.declared.facts.Fact.{Fact}
use Rattle.redo_core.proofs.AfterRecords.{after_append}
use Rattle.redo_core.proofs.Members.{none_in, here, which}
use Rattle.redo_core.proofs.FactParts.{part_records, part_cuts}
use Rattle.redo_core.proofs.Listing.{rising_push}
use Rattle.log_theorems.proofs.Log.{log_of_sound}
use Rattle.log_theorems.proofs.Views.{alone, alive_up}
use Rattle.reference_model.specs.PageRecords.{IsPageRecord, HasNumbersOnce, IsNextPageRecord, HasNoNext}

-- the image of the page with its records below an LSN
pub record IsPageBelow (facts : List Fact) (k g q from : ℕ) (image : List ℕ) : Type 0 where
  pub written : List RecordData
  pub lists : Lists BeforeByNumber (λ r. IsPageRecord facts k g q r × (r.number < from)) written
  pub result : image ≡ after_records zeros written

pub page_step : (facts : List Fact) (k g q from : ℕ) (image : List ℕ) (r : RecordData) → HasNumbersOnce facts k g q → IsNextPageRecord facts k g from q r
    → IsPageBelow facts k g q from image → IsPageBelow facts k g q (r.number + 1) (write image r)
page_step facts k g q from image r once next p = record {
  written = p.written ++ r ∷ [];
  lists = record {
    rising = rising_push BeforeByNumber p.written r p.lists.rising
        (λ x h. let l : x.number < from = ((p.lists.members x).0 h).1 in let m : from ≤ r.number = next.above in omega arith);
    members = λ x. (known x, listed x);
  };
  result = ap (λ i. write i r) p.result ∙ sym (after_append zeros p.written (r ∷ []));
}
  where
    known : (x : RecordData) → Contains (p.written ++ r ∷ []) x → IsPageRecord facts k g q x × (x.number < r.number + 1)
    known x h =
        ⊎_elim
        (λ (w : Contains p.written x). let s = (p.lists.members x).0 w in
        (s.0, let l : x.number < from = s.1 in let m : from ≤ r.number = next.above in omega arith))
        (λ (w : Contains (r ∷ []) x). ⊎_elim
        (λ (e : r ≡ x). (subst (IsPageRecord facts k g q) e next.found, let n : r.number ≡ x.number = ap (λ s. s.number) e in omega arith))
        (λ (n : Contains [] x). absurd (none_in x n))
        (which r [] x w))
        (Contains-append_cases p.written (r ∷ []) x h)

    listed : (x : RecordData) → IsPageRecord facts k g q x × (x.number < r.number + 1) → Contains (p.written ++ r ∷ []) x
    listed x h =
        ⊎_elim
        (λ (l : x.number < from). Contains-append_left p.written (r ∷ []) x ((p.lists.members x).1 (h.0, l)))
        (λ (l : from ≤ x.number).
        let m : r.number ≤ x.number = next.least x h.0 l in
        let n : x.number < r.number + 1 = h.1 in
        let e : r ≡ x = once r x next.found h.0 (omega arith) in
        Contains-append_right p.written (r ∷ []) x (subst (λ y. Contains (y ∷ []) x) (sym e) (here x [])))
        (let s : (x.number < from) ⊎ (from ≤ x.number) = grind arith in s)

pub page_end : (facts : List Fact) (k g q from : ℕ) (image : List ℕ) → HasNoNext facts k g from q → IsPageBelow facts k g q from image
    → IsPageAt facts k g q image
page_end facts k g q from image none p = record {
  written = p.written;
  lists = record {
    rising = p.lists.rising;
    members = λ r. (
      λ h. ((p.lists.members r).0 h).0,
      λ h. (p.lists.members r).1 (
        h,
        ⊎_elim (λ (l : r.number < from). l) (λ (l : from ≤ r.number). absurd (none r h l))
            (let s : (r.number < from) ⊎ (from ≤ r.number) = grind arith in s),
      ),
    );
  };
  result = p.result;
}

-- in a part of a sound log two alive records never share an LSN
pub once_if_sound : (roster : ℕ) (log facts : List Fact) (k g q : ℕ) → IsSound roster log → IsPart facts log → HasCutsTo (cuts facts) k
    → HasNumbersOnce facts k g q
once_if_sound roster log facts k g q sound part has r s pr ps e =
    let is = log_of_sound roster log sound in
    alone log is k (λ n low high. let c = has n low high in (c.0, part_cuts facts log part c.0 c.1, c.2)) r s (part_records facts log part r pr.0.among)
    (part_records facts log part s ps.0.among) (alive_up log facts is part k r.epoch r.number has pr.0.alive)
    (alive_up log facts is part k s.epoch s.number has ps.0.alive) e
