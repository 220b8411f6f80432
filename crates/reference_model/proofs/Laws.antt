-- What follows for a fact that keeps or breaks a law.
use Rattle.std.proofs.Common.{◌≡◌, ℕ, ◌+◌, ◌-◌, ◌<◌, ◌⊎◌, ⊎_elim, List, length, get_or, refl, sym, subst, arith, Option, Some, rules}
use Rattle.std.specs.Prelude.{slice_get}
use Rattle.std.proofs.lemmas.Option.{slice_get_read}
use Rattle.redo_core.specs.Data.{RecordData}
use Rattle.redo_core.specs.Order.{IsGreatest}
use Rattle.redo_core.specs.Sound.{IsAliveBelow, KeepsLaws}
use Rattle.redo_core.specs.Fault.{IsFirstFault, BreaksFirst}
use Rattle.redo_core.specs.declared.facts.Fact.{Fact}
use Rattle.redo_core.specs.declared.laws.Law.{Law}
use Rattle.redo_core.proofs.Numbers.{greatest_unique}
use Rattle.reference_model.specs.declared.chains.Chain.{Chain}
use Rattle.reference_model.specs.Chained.{Follows}
use Rattle.reference_model.specs.FoundFault.{FindsFault}

pub same_backlink : (log : List Fact) (r : RecordData) (chain : Chain) (g b : ℕ) → IsGreatest (IsAliveBelow log r (Follows chain r)) g → b ≡ g
    → IsGreatest (IsAliveBelow log r (Follows chain r)) b
same_backlink log r chain g b is e = subst (IsGreatest (IsAliveBelow log r (Follows chain r))) (sym e) is

pub other_backlink : (log : List Fact) (r : RecordData) (chain : Chain) (g b : ℕ) → IsGreatest (IsAliveBelow log r (Follows chain r)) g → (b ≡ g → ⊥)
    → IsGreatest (IsAliveBelow log r (Follows chain r)) b → ⊥
other_backlink log r chain g b is ne law = search (rules, greatest_unique)

pub none_found : (roster : ℕ) (log : List Fact) (place : ℕ) (f : Fact) (found : Option Law) → FindsFault roster log place f found
    → ((law : Law) → found ≡ Some law → ⊥) → KeepsLaws roster log place f
none_found roster log place f found h none = search rules

-- the indices before the first fault
abbrev pub KeepsBefore : ℕ → List Fact → ℕ → Type 0
KeepsBefore roster log place = (earlier : ℕ) (f : Fact) → earlier < place → slice_get log earlier ≡ Some f → KeepsLaws roster log earlier f

pub keeps_one_more : (roster : ℕ) (log : List Fact) (place : ℕ) (f : Fact) → place < length log → f ≡ get_or log place f → KeepsBefore roster log place
    → KeepsLaws roster log place f → KeepsBefore roster log (place + 1)
keeps_one_more roster log place f l e before here earlier g below at =
    ⊎_elim
    (λ (m : earlier < place). before earlier g m at)
    (λ (m : earlier ≡ place).
    let read : slice_get log place ≡ Some f = slice_get_read log (length log) place f refl l e in
    let there : slice_get log place ≡ Some g = subst (λ k. slice_get log k ≡ Some g) m at in
    let same : f ≡ g = cc in
    subst (λ k. KeepsLaws roster log k g) (sym m) (subst (KeepsLaws roster log place) same here))
    (let s : (earlier < place) ⊎ (earlier ≡ place) = grind arith in s)

pub fault_at : (roster : ℕ) (log : List Fact) (place : ℕ) (f : Fact) (law : Law) → place < length log → f ≡ get_or log place f → KeepsBefore roster log place
    → BreaksFirst roster log place f law → IsFirstFault roster log (place + 1 - 1) law
fault_at roster log place f law l e before b =
    let back : place ≡ place + 1 - 1 = omega arith in
    subst (λ p. IsFirstFault roster log p law) back
    (record { fact = f; at_place = slice_get_read log (length log) place f refl l e; breaks = b.0; lower = b.1; before = before })
