-- Which more records a state stores, once it has taken what a book and records export.
use Rattle.std.proofs.Common.{◌≡◌, ◌⊎◌, inl, inr, ⊎_elim, List, [], ◌∷◌, ◌++◌, map, refl, sym, ap, ◌∙◌, subst}
use Rattle.std.specs.List.{Contains}
use Rattle.std.proofs.lemmas.List.Elements.{Contains-append_left}
use Rattle.redo_core.specs.Data.{RecordData}
use Rattle.redo_core.specs.Standing.{IsDead}
use Rattle.redo_core.specs.Book.{BookData}
use Rattle.redo_core.specs.declared.facts.Fact.{Fact}
use Rattle.redo_core.specs.declared.facts.Fact.TheVariants.{Record}
use Rattle.redo_core.proofs.Members.{none_in, here, there}
use Rattle.segment_theorems.specs.State.{State}
use Rattle.segment_theorems.specs.Known.{IsKnown}
use Rattle.segment_theorems.specs.Learning.{PutsRecord}
use Rattle.segment_core.specs.Exported.{book_facts, exported_facts}
use Rattle.segment_core.specs.InOrder.{TakesOne, TakesEach}
use Rattle.segment_core.proofs.TakingAll.{IsLate, leaves_all}
use Rattle.segment_core.proofs.ToldFacts.{listed_record}
use Rattle.segment_core.proofs.TellingAll.{in_two}

-- the records that a state stores and another one does not are of a list, and none is dead in its view
pub record Brings (s : State) (rs : List RecordData) (t : State) : Type 0 where
  pub book : t.book ≡ s.book
  pub more : (r : RecordData) → Contains t.held r → Contains s.held r ⊎ (Contains rs r × (IsDead s.book.cuts s.book.complete r.epoch r.number → ⊥))

brings_put : (s : State) (q : RecordData) (t : State) → (IsKnown s (Record q) → ⊥) → PutsRecord s q t → Brings s (q ∷ []) t
brings_put s q t new puts = record {
  book = puts.book;
  more = λ r h. ⊎_elim
      (λ (x : Contains s.held r). inl x)
      (λ (e : r ≡ q). inr (
        subst (Contains (q ∷ [])) (sym e) (here q []),
        λ dead. new (inl (subst (λ (x : RecordData). IsDead s.book.cuts s.book.complete x.epoch x.number) e dead)),
      ))
      ((puts.held r).0 h);
}

brings_one : (s : State) (q : RecordData) (t : State) → TakesOne s (Record q) t → Brings s (q ∷ []) t
brings_one s q t one =
    ⊎_elim
    (λ (known : IsKnown s (Record q) × (t ≡ s)). record {
      book = ap (λ (x : State). x.book) known.1;
      more = λ r h. inl (subst (λ (x : State). Contains x.held r) known.1 h);
    })
    (λ (new : (IsKnown s (Record q) → ⊥) × PutsRecord s q t). brings_put s q t new.0 new.1)
    one.takes

brings_each : (s : State) (rs : List RecordData) (t : State) → TakesEach s (map Record rs) t → Brings s rs t
brings_each s [] t takes = record {
  book = ap (λ (x : State). x.book) takes;
  more = λ r h. inl (subst (λ (x : State). Contains x.held r) takes h);
}
brings_each s (q ∷ rs) t takes =
    let u = takes.0 in
    let one = brings_one s q u takes.1 in
    let rest = brings_each u rs t takes.2 in
    record {
      book = rest.book ∙ one.book;
      more = λ r h. ⊎_elim
          (λ (x : Contains u.held r). ⊎_elim
          (λ (y : Contains s.held r). inl y)
          (λ (y : Contains (q ∷ []) r × (IsDead s.book.cuts s.book.complete r.epoch r.number → ⊥)). inr (Contains-append_left (q ∷ []) rs r y.0, y.1))
          (one.more r x))
          (λ (x : Contains rs r × (IsDead u.book.cuts u.book.complete r.epoch r.number → ⊥)). inr (
            there q rs r x.0,
            λ dead. x.1 (subst (λ b. IsDead b.cuts b.complete r.epoch r.number) (sym one.book) dead),
          ))
          (rest.more r h);
    }

-- those of a first list are taken, and then the others
pub takes_apart : (s u : State) (fs gs : List Fact) → TakesEach s (fs ++ gs) u → (t : State) × TakesEach s fs t × TakesEach t gs u
takes_apart s u [] gs takes = (s, refl, takes)
takes_apart s u (f ∷ fs) gs takes = let rest = takes_apart takes.0 u fs gs takes.2 in (rest.0, (takes.0, takes.1, rest.1), rest.2)

-- a book exports no record
no_record : (b : BookData) (r : RecordData) → Contains (book_facts b) (Record r) → ⊥
no_record b r h =
    none_in r ((listed_record b [] (exported_facts b []) refl r).0
    (subst (λ fs. Contains fs (Record r)) (in_two b []) (Contains-append_left (book_facts b) [] (Record r) h)))

-- what a book and records export brings in only records of the list that are not dead then
pub brings_told : (s : State) (b : BookData) (rs : List RecordData) (t : State) → IsLate s → TakesEach s (exported_facts b rs) t → (r : RecordData)
    → Contains t.held r → Contains s.held r ⊎ (Contains rs r × (IsDead t.book.cuts t.book.complete r.epoch r.number → ⊥))
brings_told s b rs t late takes r h =
    let parts = takes_apart s t (book_facts b) (map Record rs) (subst (λ fs. TakesEach s fs t) (sym (in_two b rs)) takes) in
    let u = parts.0 in
    let left = leaves_all s (book_facts b) u late parts.1 in
    let brought = brings_each u rs t parts.2 in
    ⊎_elim
    (λ (x : Contains u.held r). ⊎_elim
    (λ (y : Contains s.held r). inl y)
    (λ (y : Contains (book_facts b) (Record r)). absurd (no_record b r y))
    (left.more r x))
    (λ (x : Contains rs r × (IsDead u.book.cuts u.book.complete r.epoch r.number → ⊥)).
    inr (x.0, λ dead. x.1 (subst (λ k. IsDead k.cuts k.complete r.epoch r.number) brought.book dead)))
    (brought.more r h)
