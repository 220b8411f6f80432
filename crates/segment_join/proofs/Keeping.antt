-- Whether the record of a key is there.
use Rattle.std.proofs.Common.{◌≡◌, ℕ, ◌↔◌, inl, ⊎_elim, Bool, IsTrue, List, Some, refl, sym, ap, subst, ◌∙◌, rules}
use Rattle.std.specs.List.{All, Contains}
use Rattle.redo_core.specs.Data.{RecordData}
use Rattle.redo_core.specs.Keys.{key_of}
use Rattle.redo_core.specs.declared.keys.Key.{Key}
use Rattle.redo_core.specs.Order.{IsRising, RecordBefore}
use Rattle.redo_core.proofs.Members.{all_members}
use Rattle.log_theorems.proofs.Deciding.{Settled, settled_lt, settled_and, settled_or}
use Rattle.log_theorems.proofs.Fronts.{settled_alive}
use Rattle.log_theorems.proofs.Meanings.{in_map, from_map}
use Rattle.hot_log.specs.Held.{HasKey, IsRecordAt}
use Rattle.hot_log.specs.Kept.{KeepsKey, ListsKeysOf}
use Rattle.hot_log.specs.Scanning.{StoresKept}
use Rattle.segment_theorems.specs.State.{State}
use Rattle.segment_theorems.specs.HasMeaning.{IsKeptBy}
use Rattle.segment_core.proofs.Keys.{one_of_key}
use Rattle.segment_join.specs.Covering.{HasRecord, HasAllKept, HasAt, IsHeldAt}
use Rattle.segment_core.proofs.Scanning.{of_member}

-- a record that waits or is alive above the anchor is there exactly where it is stored
pub wanted_is_held : (s : State) (anchor : ℕ) (r : RecordData) → KeepsKey s.book anchor (key_of r) → HasRecord s anchor r → Contains s.held r
wanted_is_held s anchor r wanted has = search rules

-- any other one is needed no more
pub needless_has : (s : State) (anchor : ℕ) (r : RecordData) → (KeepsKey s.book anchor (key_of r) → ⊥) → HasRecord s anchor r
needless_has s anchor r needless = search rules

-- what is so of a key is so of a record of the key
pub of_key : (s : State) (anchor : ℕ) (key : Key) (r : RecordData) → HasKey key r → KeepsKey s.book anchor key ↔ KeepsKey s.book anchor (key_of r)
of_key s anchor key r is = search rules

-- where a segment stores a record under a key, another one has that where it stores the same there
pub same_at : (s t : State) (key : Key) (r x : RecordData) (same : Bool) → IsRising RecordBefore s.held → IsRising RecordBefore t.held
    → IsRecordAt t.held key (Some r) → IsRecordAt s.held key (Some x) → IsTrue same ↔ (x ≡ r) → IsTrue same ↔ IsHeldAt s t key
same_at s t key r x same rising other_rising at held tells = (
  λ h y has is. let e = one_of_key t.held r y other_rising at.0 has (at.1.0 ∙ sym is.0) (at.1.1 ∙ sym is.1) in
      subst (Contains s.held) (tells.0 h ∙ e) held.0,
  λ each. tells.1 (one_of_key s.held x r rising held.0 (each r at.0 at.1) (held.1.0 ∙ sym at.1.0) (held.1.1 ∙ sym at.1.1)),
)

settled_wanted : (s : State) (anchor : ℕ) (r : RecordData) → Settled (KeepsKey s.book anchor (key_of r))
settled_wanted s anchor r = settled_or _ _ (settled_lt s.book.complete r.epoch)
    (settled_and _ _ (settled_alive s.book.cuts s.book.complete r.epoch r.number) (λ _. settled_lt anchor r.number))

-- each kept record is there exactly where each that both keep is stored
pub by_stored : (s : State) (anchor : ℕ) (t : State) (base : ℕ) → StoresKept s.book s.held anchor t.book t.held base ↔ HasAllKept s anchor t base
by_stored s anchor t base = (
  λ each r kept. ⊎_elim
      (λ (wanted : KeepsKey s.book anchor (key_of r)). inl (each r kept.0 (kept.1, wanted), wanted))
      (λ (needless : KeepsKey s.book anchor (key_of r) → ⊥). needless_has s anchor r needless)
      (settled_wanted s anchor r),
  λ has r held both. wanted_is_held s anchor r both.1 (has r (held, both.0)),
)

-- two segments keep records under the same keys, and the first has each record that the second keeps: so has the second
pub back_by_keys : (s : State) (anchor : ℕ) (t : State) (base : ℕ) (own others : List Key) → IsRising RecordBefore t.held → ListsKeysOf (IsKeptBy s anchor) own
    → ListsKeysOf (IsKeptBy t base) others → own ≡ others → HasAllKept t base s anchor → HasAllKept s anchor t base
back_by_keys s anchor t base own others rising mine theirs same has r kept =
    let listed : Contains others (key_of r) = subst (λ (ks : List Key). Contains ks (key_of r)) (sym theirs.keys_are) (in_map key_of theirs.kept r ((theirs.lists.members r).1 kept)) in
    let x = from_map key_of mine.kept (key_of r) (subst (λ (ks : List Key). Contains ks (key_of r)) (sym same ∙ mine.keys_are) listed) in
    let own_kept : IsKeptBy s anchor x.0 = (mine.lists.members x.0).0 x.1 in
    let wanted : KeepsKey t.book base (key_of x.0) = subst (KeepsKey t.book base) (sym x.2) kept.1 in
    let held : Contains t.held x.0 = wanted_is_held t base x.0 wanted (has x.0 own_kept) in
    let e : x.0 ≡ r = one_of_key t.held x.0 r rising held kept.0 (ap (λ (y : Key). y.epoch) x.2) (ap (λ (y : Key). y.number) x.2) in
    inl (subst (IsKeptBy s anchor) e own_kept)

-- the records of just the kept keys are there exactly where each kept record is
pub at_all_keys : (s : State) (anchor : ℕ) (t : State) (base : ℕ) (keys : List Key) → IsRising RecordBefore t.held → ListsKeysOf (IsKeptBy t base) keys
    → All (HasAt s anchor t) keys ↔ HasAllKept s anchor t base
at_all_keys s anchor t base keys rising all = (
  λ each r kept. of_member (HasAt s anchor t) keys each (key_of r)
      (subst (λ (ks : List Key). Contains ks (key_of r)) (sym all.keys_are) (in_map key_of all.kept r ((all.lists.members r).1 kept))) r kept.0 (refl, refl),
  λ has. all_members (HasAt s anchor t) keys (λ key h.
      let x = from_map key_of all.kept key (subst (λ (ks : List Key). Contains ks key) all.keys_are h) in
      let kept = (all.lists.members x.0).0 x.1 in
      λ r held is.
      let e : x.0 ≡ r = one_of_key t.held x.0 r rising kept.0 held (ap (λ (y : Key). y.epoch) x.2 ∙ sym is.0) (ap (λ (y : Key). y.number) x.2 ∙ sym is.1) in
      subst (HasRecord s anchor) e (has x.0 kept)),
)
