-- What a writer gives keeps the log sound, and its numbers rise.
use Rattle.std.proofs.Common.{◌≡◌, ℕ, ◌<◌, ◌≤◌, ⊎_elim, List, [], ◌∷◌, ◌++◌, length, sym, ◌∙◌, subst, ap, arith, append_assoc, append-nil}
use Rattle.std.specs.List.{Contains}
use Rattle.std.proofs.lemmas.List.Elements.{Contains-append_right}
use Rattle.redo_core.specs.Data.{RecordData}
use Rattle.redo_core.specs.declared.facts.Fact.{Fact}
use Rattle.redo_core.specs.declared.facts.Fact.TheVariants.{Record, Cut, Advance}
use Rattle.redo_core.proofs.Members.{none_in, which}
use Rattle.redo_writer.specs.State.{WriterState}
use Rattle.redo_writer.specs.Continues.{Continues}
use Rattle.volume_logs.specs.Writes.{IsNext, Writes}
use Rattle.volume_logs.proofs.Layers.{IsOfEpoch, AllOfEpoch}

pub writes_continue : (v w : WriterState) (facts log : List Fact) → Writes v facts w → Continues v log → Continues w (log ++ facts)
writes_continue v w [] log done had = subst (λ (x : WriterState). Continues x (log ++ [])) done (subst (λ xs. Continues v xs) (sym (append-nil log)) had)
writes_continue v w (f ∷ facts) log more had =
    subst (λ xs. Continues w xs) (append_assoc log (f ∷ []) facts)
    (writes_continue more.0 w facts (log ++ f ∷ []) more.2 (more.1.continues log had))

pub writes_readers : (v w : WriterState) (facts : List Fact) → Writes v facts w → length w.points ≡ length v.points
writes_readers v w [] done = ap (λ (x : WriterState). length x.points) (sym done)
writes_readers v w (f ∷ facts) more = writes_readers more.0 w facts more.2 ∙ more.1.readers

next_epoch : (v w : WriterState) (f : Fact) (k : ℕ) → v.epoch ≡ k → IsNext v f w → IsOfEpoch k f
next_epoch v w (Record r) k at next = next.0 ∙ at
next_epoch v w (Cut c) k at next = absurd next
next_epoch v w (Advance a) k at next = next.0 ∙ at

pub writes_epoch : (v w : WriterState) (facts : List Fact) (k : ℕ) → v.epoch ≡ k → Writes v facts w → AllOfEpoch facts k
writes_epoch v w [] k at done f h = absurd (none_in f h)
writes_epoch v w (g ∷ facts) k at more f h = ⊎_elim
    (λ (e : g ≡ f). subst (λ x. IsOfEpoch k x) e (next_epoch v more.0 g k at more.1.next))
    (λ (rest : Contains facts f). writes_epoch more.0 w facts k (more.1.epoch ∙ at) more.2 f rest)
    (which g facts f h)

next_last : (v w : WriterState) (f : Fact) → IsNext v f w → v.last ≤ w.last
next_last v w (Record r) next = let one : v.last < r.number = next.1 in let two : w.last ≡ r.number = next.2 in omega arith
next_last v w (Cut c) next = absurd next
next_last v w (Advance a) next = let two : w.last ≡ v.last = next.1 in omega arith

-- the record is above the last number before
pub writes_above : (v w : WriterState) (facts : List Fact) (r : RecordData) → Writes v facts w → Contains facts (Record r) → v.last < r.number
writes_above v w [] r done h = absurd (none_in (Record r) h)
writes_above v w (g ∷ facts) r more h = ⊎_elim
    (λ (e : g ≡ Record r). (subst (λ x. IsNext v x more.0) e more.1.next).1)
    (λ (rest : Contains facts (Record r)).
    let one : v.last ≤ (more.0).last = next_last v more.0 g more.1.next in
    let two : (more.0).last < r.number = writes_above more.0 w facts r more.2 rest in
    omega arith)
    (which g facts (Record r) h)

-- what comes later has the greater number
pub writes_rise : (v w : WriterState) (first later : List Fact) (r s : RecordData) → Writes v (first ++ later) w → Contains first (Record r)
    → Contains later (Record s) → r.number < s.number
writes_rise v w [] later r s more h k = absurd (none_in (Record r) h)
writes_rise v w (g ∷ first) later r s more h k = ⊎_elim
    (λ (e : g ≡ Record r).
    let next : IsNext v (Record r) more.0 = subst (λ x. IsNext v x more.0) e more.1.next in
    let last : (more.0).last ≡ r.number = next.2 in
    let above : (more.0).last < s.number = writes_above more.0 w (first ++ later) s more.2 (in_later first later s k) in
    omega arith)
    (λ (rest : Contains first (Record r)). writes_rise more.0 w first later r s more.2 rest k)
    (which g first (Record r) h)
  where
    in_later : (xs ys : List Fact) (x : RecordData) → Contains ys (Record x) → Contains (xs ++ ys) (Record x)
    in_later xs ys x inside = Contains-append_right xs ys (Record x) inside
