-- The linked numbers of a sound log are below 2^48.
use Rattle.std.proofs.Common.{◌≡◌, ℕ, ◌<◌, ◌∙◌, List, arith, Some, None, ap}
use Rattle.std.specs.List.{Contains}
use Rattle.std.proofs.lemmas.Bool.Decides.{nat_tests}
use Rattle.std.proofs.lemmas.Option.{slice_get-get_or}
use Rattle.redo_core.specs.Data.{RecordData}
use Rattle.redo_core.specs.Shape.{record_fault}
use Rattle.redo_core.specs.Sets.{records}
use Rattle.redo_core.specs.Sound.{IsSound}
use Rattle.redo_core.specs.Linked.{IsLinked}
use Rattle.redo_core.specs.Linked.Linked.{start, next}
use Rattle.redo_core.specs.declared.facts.Fact.{Fact}
use Rattle.redo_core.specs.declared.facts.Fact.TheVariants.{Record}
use Rattle.redo_core.proofs.FactParts.{record_in}
use Rattle.front_board.specs.FrontWord.{number_count}

shape_below : (r : RecordData) → record_fault r ≡ None → r.number < number_count
shape_below r h = grind (arith, nat_tests)

record_below : {roster : ℕ} (log : List Fact) → IsSound roster log → (r : RecordData) → Contains (records log) r → r.number < number_count
record_below log sound r h =
    let at = (record_in log r).0 h in
    shape_below r (sound.keeps at.0 (Record r) (slice_get-get_or log at.0 (Record r) at.1 ∙ ap (λ (f : Fact). Some f) at.2)).shape

pub linked_below : {roster : ℕ} (log : List Fact) → IsSound roster log → (k n : ℕ) → IsLinked log k n → n < number_count
linked_below log sound k n start = omega arith
linked_below log sound k n (next r h alive above before) = record_below log sound r h
