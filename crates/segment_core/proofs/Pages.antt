-- Scanning the pages of stored records, from the least on.
use Rattle.std.proofs.Common.{◌≡◌, ℕ, ◌-◌, ◌<◌, ◌≤◌, ◌⊎◌, ◌↔◌, ⊎_elim, List, Option, Some, None, arith, rules}
use Rattle.std.specs.List.{Contains}
use Rattle.redo_core.specs.Data.{RecordData}
use Rattle.hot_log.specs.Removing.{Removes}
use Rattle.hot_log.specs.Found.{IsPageAfter}

-- the page is before the next one, or there is none
abbrev pub IsPassed : Option ℕ → ℕ → Type 0
IsPassed None page = Unit {0}
IsPassed (Some next) page = page < next

-- how many pages may come yet
abbrev pub pages_left : Option ℕ → ℕ
pages_left None = 0
pages_left (Some next) = 65536 - next

-- at first no page of a stored record is passed
pub none_passed : (held : List RecordData) (next : Option ℕ) (r : RecordData) → IsPageAfter held None next → Contains held r → IsPassed next r.page → ⊥
none_passed held None r after h passed = after r h tt
none_passed held (Some next) r after h passed = let low : next ≤ r.page = after.1 r h tt in omega arith

-- then those up to the last one are
pub passed_to : (held : List RecordData) (page : ℕ) (next : Option ℕ) (r : RecordData) → IsPageAfter held (Some page) next → Contains held r
    → IsPassed next r.page → r.page ≤ page
passed_to held page next r after h passed = search rules

pub is_passed : (held : List RecordData) (page : ℕ) (next : Option ℕ) (g : ℕ) → IsPageAfter held (Some page) next → g ≤ page → IsPassed next g
is_passed held page next g after le = search rules

-- just the passed records with P are gone
abbrev pub RemovesPassed : (RecordData → Type 0) → Option ℕ → List RecordData → List RecordData → Type 0
RemovesPassed P next = Removes (λ r. P r × IsPassed next r.page)

pub removes_none : (P : RecordData → Type 0) (held : List RecordData) (next : Option ℕ) → IsPageAfter held None next → RemovesPassed P next held held
removes_none P held next after r = (λ h. (h, λ p. none_passed held next r after h p.1), λ h. h.0)

-- one page more
pub removes_more : (P Q : RecordData → Type 0) (old held rest : List RecordData) (page : ℕ) (next : Option ℕ)
    → ((r : RecordData) → Q r ↔ (P r × (r.page ≡ page))) → RemovesPassed P (Some page) old held → Removes Q held rest
    → IsPageAfter rest (Some page) next → RemovesPassed P next old rest
removes_more P Q old held rest page next same before now after r = (
  λ h.
      let was = (now r).0 h in (
        ((before r).0 was.0).0,
        λ p.
            ⊎_elim
            (λ (lt : r.page < page). ((before r).0 was.0).1 (p.0, lt))
            (λ (e : r.page ≡ page). was.1 ((same r).1 (p.0, e)))
            (let le : r.page ≤ page = passed_to rest page next r after h p.1 in let t : (r.page < page) ⊎ (r.page ≡ page) = grind arith in t),
      ),
  λ h.
      (now r).1 (
        (before r).1 (h.0, λ p. h.1 (p.0, is_passed rest page next r.page after (let lt : r.page < page = p.1 in omega arith))),
        λ q.
            let p = (same r).0 q in
            h.1 (p.0, is_passed rest page next r.page after (let e : r.page ≡ page = p.1 in omega arith)),
      ),
)

pub removes_all : (P : RecordData → Type 0) (old held : List RecordData) → RemovesPassed P None old held → Removes P old held
removes_all P old held gone r = (λ h. (((gone r).0 h).0, λ p. ((gone r).0 h).1 (p, tt)), λ h. (gone r).1 (h.0, λ p. h.1 p.0))
