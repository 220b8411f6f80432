-- The stack of alive records, seen from its top down.
use Rattle.std.specs.Prelude.{◌≡◌, ℕ, ◌<◌, ◌≤◌, ◌==◌, nat_lt, List, [], ◌∷◌, length, reverse, slice_index, if◌then◌else◌}
use Rattle.std.specs.List.{All, Contains}
use Rattle.redo_core.specs.Order.{IsRising}
use Rattle.redo_core.specs.Standing.{IsAlive}
use Rattle.redo_core.specs.Sound.{counted}
use Rattle.redo_core.specs.declared.facts.Fact.{Fact}
use Rattle.log_law.specs.declared.alive.Entry.{Entry}
use Rattle.log_law.specs.declared.alive.AliveRecords.{AliveRecords}
use Rattle.log_law.specs.declared.links.Item.{Item}

abbrev pub stack_of : AliveRecords → List Entry
stack_of s = reverse s.entries.items

-- the LSN on top, or 0
abbrev pub top_number : List Entry → ℕ
top_number [] = 0
top_number (x ∷ xs) = x.number

-- the topmost LSN of a page, or 0
abbrev pub page_top : ℕ → List Entry → ℕ
page_top g [] = 0
page_top g (x ∷ xs) = if x.page == g then x.number else page_top g xs

-- what is left without the LSNs on top that are above lo
abbrev pub without_above : ℕ → List Entry → List Entry
without_above lo [] = []
without_above lo (x ∷ xs) = if nat_lt lo x.number then without_above lo xs else x ∷ xs

-- what is left without the top
abbrev pub without_top : List Entry → List Entry
without_top [] = []
without_top (x ∷ xs) = xs

-- each entry knows the topmost LSN of its page beneath it
abbrev pub KnowsBeneath : List Entry → Type 0
KnowsBeneath [] = Unit {0}
KnowsBeneath (x ∷ xs) = (x.beneath ≡ page_top x.page xs) × KnowsBeneath xs

-- the pages' tops are those of the stack, whose pages are all in the table
pub record IsStack (s : AliveRecords) : Type 0 where
  pub inside : All (λ x. x.page < length s.page_tops.items) s.entries.items
  pub tops : (g : ℕ) → slice_index s.page_tops.items g ≡ page_top g (stack_of s)
  pub beneath : KnowsBeneath (stack_of s)

abbrev pub NotBelow : Entry → Entry → Type 0
NotBelow x y = y.number ≤ x.number

-- the stack has exactly those of the past items that are alive in its view, by rising LSN
pub record HoldsAlive (log : List Fact) (past : List Item) (s : AliveRecords) : Type 0 where
  pub stack : IsStack s
  pub falls : IsRising NotBelow (stack_of s)
  pub known : (t : Item) → Contains past t → t.epoch ≤ s.view
  pub each : (x : Entry) → Contains (stack_of s) x → (t : Item) × Contains past t × IsAlive (counted log) s.view t.epoch t.number × (t.number ≡ x.number)
      × (t.page ≡ x.page)
  pub all : (t : Item) → Contains past t → IsAlive (counted log) s.view t.epoch t.number → (x : Entry) × Contains (stack_of s) x × (x.number ≡ t.number)
      × (x.page ≡ t.page)

-- items of one LSN, alive in the view, that is not below what the stack has
pub record CanPush (log : List Fact) (group : List Item) (s : AliveRecords) : Type 0 where
  pub alive : (t : Item) → Contains group t → IsAlive (counted log) s.view t.epoch t.number
  pub above : (t : Item) (x : Entry) → Contains group t → Contains (stack_of s) x → x.number ≤ t.number
  pub same : (t u : Item) → Contains group t → Contains group u → t.number ≡ u.number
