-- Parts of one log.
use Rattle.std.proofs.Common.{◌≡◌, ◌∙◌, ℕ, ◌<◌, ◌≤◌, ◌+◌, ◌⊎◌, inl, inr, ⊎_elim, Some, List, ◌++◌, Result, Ok, Err, sym, subst, arith}
use Rattle.std.specs.Prelude.{OnOk, OnErr, slice_get, slice_index_or}
use Rattle.std.proofs.lemmas.Bool.{cases_lt}
use Rattle.std.proofs.lemmas.List.Elements.{Contains-append_left, Contains-append_right}
use Rattle.redo_core.specs.Sound.{IsSound}
use Rattle.redo_core.specs.declared.facts.Fact.{Fact}
use Rattle.segment_theorems.specs.State.{State}
use Rattle.redo_core.specs.Position.{Position}
use Rattle.segment_theorems.specs.Means.{MeansAt}
use Rattle.segment_core.specs.declared.answers.Front.{Front}
use Rattle.segment_core.specs.declared.answers.ReadFault.{ReadFault}
use Rattle.segment_core.specs.declared.answers.ReadFault.TheVariants.{Above, BrokenBlockChain}
use Rattle.segment_core.specs.Reading.{IsFrontAt, IsReadFault}
use Rattle.segment_join.specs.Joining.{MeansUnion}
use Rattle.node_lock.specs.Trail.{Entry}
use Rattle.node_cell.specs.Kept.{ClosedData, MeansTrail}
use Rattle.node_cell.proofs.Places.{wider}
use Rattle.fleet_drill.specs.Parts.{MeansPart}
use Rattle.redo_core.proofs.ByPlace.{index_of}

-- what is joined of two parts means their union, and a refused join changes nothing
pub joined_part : {A E : Type 0} (roster : ℕ) (log : List Fact) (s t u : State) (r : Result A E)
    → IsSound roster log → MeansPart roster log s → MeansPart roster log t → OnOk r (MeansUnion s t u) → OnErr r (u ≡ s) → MeansPart roster log u
joined_part roster log s t u (Ok x) sound f g union same = (_, union roster log f.0 g.0 sound f.1 g.1)
joined_part roster log s t u (Err e) sound f g union same = subst (MeansPart roster log) (sym same) f

-- the union has what either had
pub union_keeps : (roster : ℕ) (log : List Fact) (s t u : State) (trail others : List Entry) → IsSound roster log → MeansUnion s t u → MeansTrail roster log s trail → MeansTrail roster log t others → MeansTrail roster log u trail
union_keeps roster log s t u trail others sound union k o = record {
  facts = k.facts ++ o.facts;
  means = union roster log k.facts o.facts sound k.means o.means;
  has = wider log k.facts (k.facts ++ o.facts) trail (λ x h. Contains-append_left k.facts o.facts x h) k.has;
}

pub union_brings : (roster : ℕ) (log : List Fact) (s t u : State) (others : List Entry) → IsSound roster log → MeansUnion s t u → MeansPart roster log s → MeansTrail roster log t others → MeansTrail roster log u others
union_brings roster log s t u others sound union p o = record {
  facts = p.0 ++ o.facts;
  means = union roster log p.0 o.facts sound p.1 o.means;
  has = wider log o.facts (p.0 ++ o.facts) others (λ x h. Contains-append_right p.0 o.facts x h) o.has;
}

-- a read of the complete point is of no point above it
pub never_above : (roster : ℕ) (log : List Fact) (s : State) (front : Front) (page complete : ℕ) (fault : ReadFault) → IsSound roster log → MeansPart roster log s
    → ((roster : ℕ) (log facts : List Fact) (p : Position) → IsSound roster log → MeansAt roster log facts p s → IsFrontAt p front)
    → ((roster : ℕ) (log facts : List Fact) (p : Position) → IsSound roster log → MeansAt roster log facts p s → IsReadFault facts p page front.complete fault)
    → fault ≡ Above complete → ⊥
never_above roster log s front page complete fault sound part f r is =
    let at = f roster log part.0 part.1.0 sound part.1.1 in
    let above : IsReadFault part.0 part.1.0 page front.complete (Above complete) = subst (IsReadFault part.0 part.1.0 page front.complete) is (r roster log part.0 part.1.0 sound part.1.1) in
    omega (arith, at.complete, above.2)

-- inside a log no chain is broken
pub never_broken : (roster : ℕ) (log : List Fact) (s : State) (page point broken number : ℕ) (fault : ReadFault) → IsSound roster log → MeansPart roster log s
    → ((roster : ℕ) (log facts : List Fact) (p : Position) → IsSound roster log → MeansAt roster log facts p s → IsReadFault facts p page point fault)
    → fault ≡ BrokenBlockChain broken number → ⊥
never_broken roster log s page point broken number fault sound part r is =
    subst (IsReadFault part.0 part.1.0 page point) is (r roster log part.0 part.1.0 sound part.1.1)

-- of the nodes so far, and of the segment's own, a part has all acknowledged facts: one node more is brought in
pub more_kept : (roster : ℕ) (log : List Fact) (closed : List ClosedData) (old new : State) (place own : ℕ) (shown : ClosedData)
    → ((n : ℕ) (c : ClosedData) → ((n < place) ⊎ (n ≡ own)) → slice_get closed n ≡ Some c → MeansTrail roster log old c.trail) → shown ≡ slice_index_or closed place shown
    → ((trail : List Entry) → MeansTrail roster log old trail → MeansTrail roster log new trail) → MeansTrail roster log new shown.trail
    → (n : ℕ) (c : ClosedData) → ((n < place + 1) ⊎ (n ≡ own)) → slice_get closed n ≡ Some c → MeansTrail roster log new c.trail
more_kept roster log closed old new place own shown inv at keeps brings n c (inr is) e = keeps c.trail (inv n c (inr is) e)
more_kept roster log closed old new place own shown inv at keeps brings n c (inl lt) e = ⊎_elim
    (λ (low : n < place). keeps c.trail (inv n c (inl low) e))
    (λ (high : place ≤ n).
    let is : n ≡ place = omega (arith, lt, high) in
    subst (λ (k : ClosedData). MeansTrail roster log new k.trail) (at ∙ index_of closed place c shown (subst (λ m. slice_get closed m ≡ Some c) is e)) brings)
    (cases_lt n place)

-- or it is the segment's own
pub own_kept : (roster : ℕ) (log : List Fact) (closed : List ClosedData) (old : State) (place own : ℕ)
    → ((n : ℕ) (c : ClosedData) → ((n < place) ⊎ (n ≡ own)) → slice_get closed n ≡ Some c → MeansTrail roster log old c.trail) → place ≡ own
    → (n : ℕ) (c : ClosedData) → ((n < place + 1) ⊎ (n ≡ own)) → slice_get closed n ≡ Some c → MeansTrail roster log old c.trail
own_kept roster log closed old place own inv same n c (inr is) e = inv n c (inr is) e
own_kept roster log closed old place own inv same n c (inl lt) e = ⊎_elim
    (λ (low : n < place). inv n c (inl low) e)
    (λ (high : place ≤ n). let is : n ≡ own = omega (arith, lt, high, same) in inv n c (inr is) e)
    (cases_lt n place)
