-- What contracts see of a lock and of its passes.
use Rattle.std.specs.Prelude.{◌≡◌, ℕ, ◌+◌, List, [], ◌∷◌, length, Option, None}
use Rattle.atomic_table.specs.Seated.{TableId}
use Rattle.node_lock.specs.Trail.{Entry, Receipt, receipts_of, HasReceipts}

-- which lock it is, and with how many passes it was opened
pub record LockData : Type 0 where
  pub id : TableId
  pub passes : ℕ

-- a pass: which lock it is of, its number, its receipts, and where it has taken the state and not given it back, the trail that it took
pub record PassData : Type 0 where
  pub lock : TableId
  pub number : ℕ
  pub list : List Receipt
  pub out : Option (List Entry)

-- the pass is of the lock, and does not have its state
abbrev pub IsIdlePass : TableId → PassData → Type 0
IsIdlePass lock p = (p.lock ≡ lock) × (p.out ≡ None)

abbrev pub AreIdle : TableId → List PassData → Type 0
AreIdle lock [] = Unit {0}
AreIdle lock (p ∷ ps) = IsIdlePass lock p × AreIdle lock ps

-- new passes, numbered from `first` on
abbrev pub AreNew : ℕ → List PassData → Type 0
AreNew first [] = Unit {0}
AreNew first (p ∷ ps) = ((p.number ≡ first) × (p.list ≡ [])) × AreNew (first + 1) ps

-- each pass's list is its entries of the trail, in order, with their places
abbrev pub AreTrue : List Entry → List PassData → Type 0
AreTrue trail [] = Unit {0}
AreTrue trail (p ∷ ps) = ((p.list ≡ receipts_of p.number trail) × HasReceipts trail p.number p.list) × AreTrue trail ps

-- how many receipts the passes have together
abbrev pub receipt_count : List PassData → ℕ
receipt_count [] = 0
receipt_count (p ∷ ps) = length p.list + receipt_count ps
