-- A page from a record with `init` on.
use Rattle.std.proofs.Common.{◌≡◌, ℕ, ◌<◌, ◌≤◌, ◌↔◌, ⊎_elim, List, [], ◌∷◌, refl, sym, ap, ◌∙◌, subst, arith, true}
use Rattle.std.specs.List.{Contains}
use Rattle.redo_core.specs.Data.{RecordData}
use Rattle.redo_core.specs.Order.{IsRising, BeforeByNumber}
use Rattle.redo_core.specs.Writing.{after_records, write, zeros}
use Rattle.redo_core.proofs.Members.{none_in, there, which, each}
use Rattle.segment_theorems.specs.State.{State, image_of}
use Rattle.segment_theorems.specs.Shows.{IsApplied, Shows}
use Rattle.segment_theorems.specs.FromInit.{ShowsFrom}

-- a record with `init` does not depend on the page
pub write_anew : (r : RecordData) (i j : List ℕ) → r.init ≡ true → write i r ≡ write j r
write_anew r i j e = rw e refl

-- the part of a rising list from one of its records on
record From (r : RecordData) (xs : List RecordData) (image : List ℕ) : Type 0 where
  rest : List RecordData
  rising : IsRising BeforeByNumber rest
  members : (x : RecordData) → Contains rest x ↔ (Contains xs x × (r.number ≤ x.number))
  result : after_records image xs ≡ after_records zeros rest

from_on : (r : RecordData) (xs : List RecordData) (image : List ℕ) → IsRising BeforeByNumber xs → Contains xs r → r.init ≡ true → From r xs image
from_on r [] image rises h anew = absurd (none_in r h)
from_on r (x ∷ xs) image rises h anew =
    ⊎_elim
    (λ (e : x ≡ r). record {
      rest = x ∷ xs;
      rising = rises;
      members = λ y. (
        λ m. (
          m,
          ⊎_elim (λ (q : x ≡ y). let t : r.number ≡ y.number = ap (λ z. z.number) (sym e ∙ q) in omega arith)
              (λ (q : Contains xs y). let t : x.number < y.number = each (BeforeByNumber x) xs y rises.0 q in let u : x.number ≡ r.number = ap
              (λ z. z.number) e in omega arith) (which x xs y m),
        ),
        λ m. m.0,
      );
      result = ap (λ i. after_records i xs) (write_anew x image zeros (subst (λ z. z.init ≡ true) (sym e) anew));
    })
    (λ (q : Contains xs r).
    let up : x.number < r.number = each (BeforeByNumber x) xs r rises.0 q in
    let f = from_on r xs (write image x) rises.1 q anew in
    record {
      rest = f.rest;
      rising = f.rising;
      members = λ y. (
        λ m. let t = (f.members y).0 m in (there x xs y t.0, t.1),
        λ m. (f.members y).1 (
          ⊎_elim (λ (e : x ≡ y). let t : x.number ≡ y.number = ap (λ z. z.number) e in let u : r.number ≤ y.number = m.1 in
              absurd (omega arith)) (λ (v : Contains xs y). v) (which x xs y m.0),
          m.1,
        ),
      );
      result = f.result;
    })
    (which x xs r h)

pub init_begins_anew : (s : State) (page q : ℕ) (r : RecordData) (image : List ℕ) → IsApplied s page q r → r.init ≡ true → Shows s page q image
    → ShowsFrom s page q r image
init_begins_anew s page q r image held anew shows =
    let f = from_on r shows.written (image_of s.store page) shows.lists.rising ((shows.lists.members r).1 held) anew in
    record {
      written = f.rest;
      lists = record {
        rising = f.rising;
        members = λ x. (
          λ h. let t = (f.members x).0 h in ((shows.lists.members x).0 t.0, t.1),
          λ h. (f.members x).1 ((shows.lists.members x).1 h.0, h.1),
        );
      };
      result = shows.result ∙ f.result;
    }
