-- Lists of the same facts.
use Rattle.std.proofs.Common.{ℕ, ◌↔◌, ◌++◌, ⊎_elim, List, rules}
use Rattle.std.specs.List.{Contains}
use Rattle.std.proofs.lemmas.List.Elements.{Contains-append_left, Contains-append_right, Contains-append_cases}
use Rattle.redo_core.specs.Sets.{SameSet, advances}
use Rattle.redo_core.specs.Points.{HasAdvance}
use Rattle.redo_core.specs.Meaning.{Meaning, IsMeaning}
use Rattle.redo_core.specs.declared.facts.Fact.{Fact}
use Rattle.log_theorems.specs.WellFormed.{AgreeOn}
use Rattle.redo_core.proofs.FactParts.{part_records, part_cuts, part_advances}
use Rattle.log_theorems.proofs.Fronts.{same_sym, linked_same}
use Rattle.log_theorems.proofs.Meanings.{page_same}
use Rattle.log_theorems.proofs.Alike.{Alike, greatest_by, front_alike, meaning_alike}

advances_same : (facts same : List Fact) → SameSet facts same → (k reader n : ℕ) → HasAdvance (advances facts) k reader n
    → HasAdvance (advances same) k reader n
advances_same facts same s k reader n h = (h.0, part_advances facts same (λ x q. (s x).0 q) h.0 h.1, h.2, h.3, h.4)

pub alike_same : (roster : ℕ) (facts same : List Fact) → SameSet facts same → (k : ℕ) → Alike roster facts same k
alike_same roster facts same s k =
    let t = same_sym facts same s in
    record {
      cuts = λ c. (part_cuts facts same (λ x q. (s x).0 q) c, part_cuts same facts (λ x q. (s x).1 q) c);
      records = λ r matters. (part_records facts same (λ x q. (s x).0 q) r, part_records same facts (λ x q. (s x).1 q) r);
      waits = λ a later. (part_advances facts same (λ x q. (s x).0 q) a, part_advances same facts (λ x q. (s x).1 q) a);
      points = λ reader m r. (
        greatest_by (HasAdvance (advances facts) k reader) (HasAdvance (advances same) k reader) (advances_same facts same s k reader)
            (advances_same same facts t k reader) m,
        greatest_by (HasAdvance (advances same) k reader) (HasAdvance (advances facts) k reader) (advances_same same facts t k reader)
            (advances_same facts same s k reader) m,
      );
    }

meaning_of_same : (roster : ℕ) (facts same : List Fact) (m : Meaning) → SameSet facts same → IsMeaning roster facts m → IsMeaning roster same m
meaning_of_same roster facts same m s a = (a.0, meaning_alike facts same a.0 m (alike_same roster facts same s a.0.epoch) a.1)

pub same_meanings : (roster : ℕ) (facts same : List Fact) (m : Meaning) → SameSet facts same → IsMeaning roster facts m ↔ IsMeaning roster same m
same_meanings roster facts same m s = (meaning_of_same roster facts same m s, meaning_of_same roster same facts m (same_sym facts same s))

pub agree : (facts same : List Fact) → SameSet facts same → AgreeOn facts same
agree facts same s = search (rules, same_sym, front_alike, alike_same, linked_same, page_same, same_meanings)

pub twice : (x : List Fact) → SameSet (x ++ x) x
twice x f = (λ h. ⊎_elim (λ (u : Contains x f). u) (λ (u : Contains x f). u) (Contains-append_cases x x f h), Contains-append_left x x f)

pub turned : (x y : List Fact) → SameSet (x ++ y) (y ++ x)
turned x y f = (turn x y, turn y x)
  where
    turn : (u v : List Fact) → Contains (u ++ v) f → Contains (v ++ u) f
    turn u v h = ⊎_elim (λ (a : Contains u f). Contains-append_right v u f a) (λ (a : Contains v f). Contains-append_left v u f a)
        (Contains-append_cases u v f h)
