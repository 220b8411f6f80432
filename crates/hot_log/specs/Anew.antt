-- The records that determine a page.
use Rattle.std.specs.Prelude.{◌≡◌, ◌≤◌, ◌⊎◌, true, List}
use Rattle.redo_core.specs.Data.{RecordData}
use Rattle.redo_core.specs.Order.{Lists, BeforeByNumber}

-- the records with P in order of their LSNs, or those from one with `init` on: what comes before that one has no effect on the page
abbrev pub ListsAnew : (RecordData → Type 0) → List RecordData → Type 0
ListsAnew P xs =
    Lists BeforeByNumber P xs
    ⊎ ((r : RecordData) × P r × (r.init ≡ true) × Lists BeforeByNumber (λ x. P x × (r.number ≤ x.number)) xs)
