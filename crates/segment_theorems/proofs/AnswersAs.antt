-- A state gives the results of its facts, by the theorems of positions, pages and meanings.
use Rattle.std.proofs.Common.{◌≤◌, ℕ, List, refl, arith}
use Rattle.redo_core.specs.Position.{Position, IsPosition}
use Rattle.redo_core.specs.declared.facts.Fact.{Fact}
use Rattle.segment_theorems.specs.Laws.{SamePosition, TruePages, SameMeaning}
use Rattle.segment_theorems.specs.AnswersAs.{StatesAnswer}

anchor_low : (roster : ℕ) (facts : List Fact) (p : Position) → IsPosition roster facts p → p.anchor ≤ p.min
anchor_low roster facts p at = omega arith

pub states_answer : SamePosition → TruePages → SameMeaning → StatesAnswer
states_answer position pages meaning roster log facts s sound means =
    let p : Position = means.0 in
    let at = means.1 in
    let low : p.anchor ≤ p.min = anchor_low roster facts p at.position in
    record {
      part = at.part;
      p = p;
      position = at.position;
      stands = (position roster log facts p p s sound at).1 refl;
      pages = λ page q image ok. pages roster log facts p s page q image sound at (omega (arith, low, ok.0)) ok.1;
      meaning = λ m. meaning roster log facts s m sound means;
    }
