-- What the other's meaning keeps is known once it is taken, and stays so while more is stored.
use Rattle.std.proofs.Common.{◌≡◌, ℕ, inl, inr, ⊎_elim, List, [], ◌∷◌, map, refl, sym, ◌∙◌, subst, rules}
use Rattle.std.specs.List.{Contains}
use Rattle.redo_core.specs.Data.{RecordData}
use Rattle.redo_core.specs.Keys.{key_of}
use Rattle.redo_core.specs.Standing.{IsAlive, IsDead}
use Rattle.redo_core.specs.declared.facts.Fact.TheVariants.{Record}
use Rattle.redo_core.proofs.Members.{none_in, which}
use Rattle.hot_log.specs.Kept.{KeepsKey}
use Rattle.hot_log.proofs.Chain.{linked_more}
use Rattle.segment_theorems.specs.State.{State, SameBase}
use Rattle.segment_theorems.specs.Known.{IsKnown}
use Rattle.segment_theorems.specs.HasMeaning.{HasAnchor, IsKeptBy, IsStable}
use Rattle.segment_theorems.specs.Learning.{PutsRecord}
use Rattle.segment_core.proofs.OneView.{one_anchor}
use Rattle.segment_core.specs.Exported.{book_facts}
use Rattle.segment_core.specs.InOrder.{TakesOne, TakesEach}
use Rattle.segment_core.proofs.TellingAll.{in_two}
use Rattle.segment_join.specs.Knowing.{TakesAll, KnowsKept}
use Rattle.segment_join.proofs.Bringing.{takes_apart}

-- t is s with more records stored, or the same
pub record HoldsMore (s t : State) : Type 0 where
  pub book : t.book ≡ s.book
  pub rest : SameBase s t
  pub before : (r : RecordData) → Contains s.held r → Contains t.held r

more_none : (s : State) → HoldsMore s s
more_none s = record { book = refl; rest = record { base = refl; store = refl }; before = λ r h. h }

settled_more : (s t : State) (n : ℕ) → HoldsMore s t → IsStable s n → IsStable t n
settled_more s t n more low = search (rules, linked_more)

known_more : (s t : State) (r : RecordData) → HoldsMore s t → IsKnown s (Record r) → IsKnown t (Record r)
known_more s t r more known =
    ⊎_elim
    (λ (dead : IsDead s.book.cuts s.book.complete r.epoch r.number). inl (subst (λ b. IsDead b.cuts b.complete r.epoch r.number) (sym more.book) dead))
    (λ h. inr (⊎_elim
    (λ (has : Contains s.held r). inl (more.before r has))
    (λ (low : IsAlive s.book.cuts s.book.complete r.epoch r.number × IsStable s r.number).
    inr (subst (λ b. IsAlive b.cuts b.complete r.epoch r.number) (sym more.book) low.0, settled_more s t r.number more low.1))
    h))
    known

pub knows_more : (s t other : State) → HoldsMore s t → KnowsKept s other → KnowsKept t other
knows_more s t other more knows anchor r above kept = known_more s t r more (knows anchor r above kept)

-- ---- after the takes
-- a taken record is known, and no other part of the state has changed
record Learns (s : State) (rs : List RecordData) (t : State) : Type 0 where
  more : HoldsMore s t
  known : (r : RecordData) → Contains rs r → IsKnown t (Record r)

learns_one : (s : State) (q : RecordData) (t : State) → TakesOne s (Record q) t → HoldsMore s t × IsKnown t (Record q)
learns_one s q t one =
    ⊎_elim
    (λ (known : IsKnown s (Record q) × (t ≡ s)). (
      subst (HoldsMore s) (sym known.1) (more_none s),
      subst (λ (x : State). IsKnown x (Record q)) (sym known.1) known.0,
    ))
    (λ (new : (IsKnown s (Record q) → ⊥) × PutsRecord s q t). (
      record { book = new.1.book; rest = new.1.rest; before = λ r h. (new.1.held r).1 (inl h) },
      inr (inl ((new.1.held q).1 (inr refl))),
    ))
    one.takes

learns_each : (s : State) (rs : List RecordData) (t : State) → TakesEach s (map Record rs) t → Learns s rs t
learns_each s [] t takes = record { more = subst (HoldsMore s) (sym takes) (more_none s); known = λ r h. absurd (none_in r h) }
learns_each s (q ∷ rs) t takes =
    let u = takes.0 in
    let one = learns_one s q u takes.1 in
    let rest = learns_each u rs t takes.2 in
    record {
      more = record {
        book = rest.more.book ∙ one.0.book;
        rest = record { base = rest.more.rest.base ∙ one.0.rest.base; store = rest.more.rest.store ∙ one.0.rest.store };
        before = λ r h. rest.more.before r (one.0.before r h);
      };
      known = λ r h. ⊎_elim
          (λ (e : q ≡ r). known_more u t r rest.more (subst (λ x. IsKnown u (Record x)) e one.1))
          (λ (x : Contains rs r). rest.known r x)
          (which q rs r h);
    }

pub knows_taken : (own other taken : State) → TakesAll own other taken → KnowsKept taken other
knows_taken own other taken takes anchor r above kept =
    let told = takes.told in
    let parts = takes_apart own taken (book_facts other.book) (map Record told.kept)
    (subst (λ fs. TakesEach own fs taken) (told.facts_are ∙ sym (in_two other.book told.kept)) takes.takes) in
    let same : anchor ≡ told.anchor = one_anchor other anchor told.anchor above told.anchor_is in
    (learns_each parts.0 told.kept taken parts.2).known r ((told.kept_are.members r).1 (subst (λ n. IsKeptBy other n r) same kept))

-- ---- what the state keeps of it
-- what is known and waits, or is alive above the anchor, is stored
pub known_is_held : (s : State) (anchor : ℕ) (r : RecordData) → HasAnchor s anchor → KeepsKey s.book anchor (key_of r) → IsKnown s (Record r)
    → Contains s.held r
known_is_held s anchor r above keeps known = search rules
