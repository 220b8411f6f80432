-- A record with `init` starts its page from zeros, so nothing before it has an effect.
use Rattle.std.specs.Prelude.{◌≡◌, ◌≤◌, ℕ, true, List}
use Rattle.redo_core.specs.Data.{RecordData}
use Rattle.redo_core.specs.Order.{Lists, BeforeByNumber}
use Rattle.redo_core.specs.Writing.{after_records, zeros}
use Rattle.segment_theorems.specs.State.{State}
use Rattle.segment_theorems.specs.Shows.{IsApplied, Shows}

-- the page that the records from r on give, from zeros
pub record ShowsFrom (s : State) (page q : ℕ) (r : RecordData) (image : List ℕ) : Type 0 where
  pub written : List RecordData
  pub lists : Lists BeforeByNumber (λ x. IsApplied s page q x × (r.number ≤ x.number)) written
  pub result : image ≡ after_records zeros written

-- Where a record with `init` is applied to a page, the records from it on give the page that the state yields.
abbrev pub InitBeginsAnew : Type 0
InitBeginsAnew =
    (s : State) (page q : ℕ) (r : RecordData) (image : List ℕ)
    → IsApplied s page q r → r.init ≡ true → Shows s page q image → ShowsFrom s page q r image
