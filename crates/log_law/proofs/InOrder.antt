-- Records and items in the order of their keys.
use Rattle.std.proofs.lemmas.Grind.{common_steps}
use Rattle.std.proofs.Common.{◌≡◌, ℕ, zero, suc, ◌+◌, ◌-◌, ◌<◌, ◌≤◌, ◌↔◌, ⊎_elim, List, [], ◌∷◌, length, get_or, take, refl, ap, arith, Option, Some, None, rules}
use Rattle.std.specs.Prelude.{slice_get}
use Rattle.std.specs.List.{Contains}
use Rattle.std.proofs.lemmas.Option.{slice_get_within}
use Rattle.std.proofs.lemmas.List.{get_or_default}
use Rattle.redo_core.specs.Data.{RecordData, CutData}
use Rattle.redo_core.specs.Keys.{key_of}
use Rattle.redo_core.specs.declared.keys.Key.{Key}
use Rattle.redo_core.specs.Order.{RecordBefore}
use Rattle.redo_core.specs.Sound.{Law1}
use Rattle.redo_core.specs.declared.facts.Fact.{Fact}
use Rattle.redo_core.specs.declared.facts.Fact.TheVariants.{Record, Cut, Advance}
use Rattle.redo_core.proofs.Members.{none_in, which}
use Rattle.log_law.specs.Keys.{HasRisingKeysTo, HasRisingKeys, HasKeyAbove}
use Rattle.log_law.specs.Links.{KeyAtMost}
use Rattle.log_law.specs.declared.links.Item.{Item}
use Rattle.log_law.proofs.Least.{zero_item}
use Rattle.log_law.proofs.Repeats.{law1_none, law1_advance}

-- the items of the first facts are in key order
abbrev pub AreInOrderTo : List Item → ℕ → Type 0
AreInOrderTo items p = (i j : ℕ) (d : Item) → i ≤ j → j < p → j < length items → KeyAtMost (get_or items i d) (get_or items j d)

pub one_in_order : (items : List Item) → AreInOrderTo items 1
one_in_order items i j d l m n = search rules

pub more_in_order : (items : List Item) (p : ℕ) → 1 ≤ p → p < length items → KeyAtMost (get_or items (p - 1) zero_item) (get_or items p zero_item)
    → AreInOrderTo items p → AreInOrderTo items (p + 1)
more_in_order items p one inside next h i j d l m n = search (rules, get_or_default)

-- the record's key is above those of the records among the first facts
abbrev pub IsAboveTo : List Fact → ℕ → RecordData → Type 0
IsAboveTo log p s = (i : ℕ) (r : RecordData) → i < p → slice_get log i ≡ Some (Record r) → RecordBefore r s

-- the greatest key among the first facts, if they have a record
abbrev pub IsLastKey : List Fact → ℕ → Option Key → Type 0
IsLastKey log p last = (s : RecordData) → HasKeyAbove s last ↔ IsAboveTo log p s

pub no_last : (log : List Fact) → IsLastKey log 0 None
no_last log s = (λ t i r l e. absurd (omega (arith, l)), λ h. tt)

-- one more record, whose key is above the last, or one more fact that is no record
pub rising_more : (log : List Fact) (p : ℕ) (r : RecordData) → slice_get log p ≡ Some (Record r) → IsAboveTo log p r → HasRisingKeysTo log p
    → HasRisingKeysTo log (p + 1)
rising_more log p r at above rising i j q s l m e f = search rules

pub rising_past : (log : List Fact) (p : ℕ) (f : Fact) → slice_get log p ≡ Some f → ((r : RecordData) → f ≡ Record r → ⊥) → HasRisingKeysTo log p
    → HasRisingKeysTo log (p + 1)
rising_past log p f at not' rising i j q s l m e g = grind (arith, common_steps)

pub last_more : (log : List Fact) (p : ℕ) (r : RecordData) → slice_get log p ≡ Some (Record r) → IsAboveTo log p r
    → IsLastKey log (p + 1) (Some (key_of r))
last_more log p r at above s = search rules

pub last_past : (log : List Fact) (p : ℕ) (f : Fact) (last : Option Key) → slice_get log p ≡ Some f → ((r : RecordData) → f ≡ Record r → ⊥)
    → IsLastKey log p last → IsLastKey log (p + 1) last
last_past log p f last at not' h s = search rules

-- where keys rise, a fact that is no truncation keeps law 1
place_taken : (log : List Fact) (p : ℕ) (f : Fact) → Contains (take p log) f → (i : ℕ) × (i < p) × (slice_get log i ≡ Some f)
place_taken log zero f h = absurd (none_in f h)
place_taken [] (suc p) f h = absurd (none_in f h)
place_taken (x ∷ xs) (suc p) f h =
    ⊎_elim
    (λ (e : x ≡ f). (0, omega arith, ap Some e))
    (λ (m : Contains (take p xs) f). let w = place_taken xs p f m in (suc w.0, omega (arith, w.1), w.2))
    (which x (take p xs) f h)

before_apart : (r s : RecordData) → RecordBefore r s → r.epoch ≡ s.epoch → r.number ≡ s.number → ⊥
before_apart r s b e n = omega arith

pub law1_rising : (log : List Fact) (p : ℕ) (f : Fact) → HasRisingKeys log → slice_get log p ≡ Some f → ((c : CutData) → f ≡ Cut c → ⊥)
    → Law1 (take p log) f
law1_rising log p (Record r) rising at not' =
    law1_none log p r
    (λ s m e n. let w = place_taken log p (Record s) m in
    before_apart s r (rising w.0 p s r w.1 (slice_get_within log p (Record r) at) w.2 at) e n)
law1_rising log p (Cut c) rising at not' = absurd (not' c refl)
law1_rising log p (Advance a) rising at not' = law1_advance (take p log) a
