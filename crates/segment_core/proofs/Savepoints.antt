-- What a savepoint rolls a state back to after a step.
use Rattle.std.proofs.Common.{◌≡◌, ◌⊎◌, ◌↔◌, inl, inr, ⊎_elim, List, [], ◌∷◌, ◌++◌, refl, sym, ap, subst, Bool, true, not, rules}
use Rattle.std.specs.Borrow.{GName}
use Rattle.std.specs.List.{Contains, filter}
use Rattle.std.proofs.lemmas.List.Elements.{Contains-append_left, Contains-append_right, Contains-append_cases}
use Rattle.redo_core.specs.Data.{RecordData}
use Rattle.redo_core.specs.Keys.{key_of}
use Rattle.redo_core.specs.declared.keys.Key.{Key}
use Rattle.redo_core.specs.Order.{IsRising, RecordBefore}
use Rattle.redo_core.specs.declared.facts.Fact.TheVariants.{Record}
use Rattle.redo_core.proofs.Members.{here, there, which, none_in, filtered, passed, rising_unique}
use Rattle.redo_core.proofs.Pairs.{pair_apart}
use Rattle.redo_core.proofs.Rising.{rising_filter}
use Rattle.hot_log.specs.Held.{IsHeld, HasKey}
use Rattle.segment_theorems.specs.State.{State, SameBase}
use Rattle.segment_theorems.specs.Known.{IsKnown}
use Rattle.segment_core.specs.Savepoint.{SavepointData, NotesKey, began_by, brought_back, has_key, without}
use Rattle.segment_core.specs.Taking.{Stores}
use Rattle.segment_core.proofs.Keys.{one_of_key}

-- ---- the records that have none of some keys
spared_by : (key : Key) (r : RecordData) → not (has_key key r) ≡ true → key ≡ key_of r → ⊥
spared_by key r spared same = search rules

is_spared : (key : Key) (r : RecordData) → (key ≡ key_of r → ⊥) → not (has_key key r) ≡ true
is_spared key r other = search rules

without_rising : (keys : List Key) (held : List RecordData) → IsRising RecordBefore held → IsRising RecordBefore (without keys held)
unfolding without
without_rising [] held rising = rising
without_rising (key ∷ keys) held rising =
    without_rising keys (filter (λ r. not (has_key key r)) held) (rising_filter RecordBefore (λ r. not (has_key key r)) held rising)

without_members : (keys : List Key) (held : List RecordData) (r : RecordData)
    → Contains (without keys held) r ↔ (Contains held r × (Contains keys (key_of r) → ⊥))
unfolding without
without_members [] held r = (λ h. (h, none_in (key_of r)), λ h. h.0)
without_members (key ∷ keys) held r =
    let test : RecordData → Bool = λ x. not (has_key key x) in let rest = without_members keys (filter test held) r in (
      λ h. let left = rest.0 h in let was = filtered test held r left.0 in (
        was.0,
        λ has. ⊎_elim (spared_by key r was.1) left.1 (which key keys (key_of r) has),
      ),
      λ h. rest.1 (
        passed test held r (is_spared key r (λ e. h.1 (subst (λ k. Contains (k ∷ keys) (key_of r)) (sym e) (here (key_of r) keys)))) h.0,
        λ has. h.1 (there key keys (key_of r) has),
      ),
    )

-- no other records are those that have none of the keys
pub left_without : (keys : List Key) (held left : List RecordData) → IsRising RecordBefore held → IsRising RecordBefore left
    → ((r : RecordData) → Contains left r ↔ (Contains held r × (Contains keys (key_of r) → ⊥))) → left ≡ without keys held
left_without keys held left rising left_rising members =
    rising_unique RecordBefore (λ x y a b. pair_apart x.epoch x.number y.epoch y.number a b) left (without keys held) left_rising
    (without_rising keys held rising)
    (λ r. (λ h. (without_members keys held r).1 ((members r).0 h), λ h. (members r).1 ((without_members keys held r).0 h)))

-- the same records are left where one more has come in under a free key, which is noted
came_without : (came : List Key) (held more : List RecordData) (x : RecordData) → IsRising RecordBefore held → IsRising RecordBefore more
    → ((r : RecordData) → Contains held r → HasKey (key_of x) r → ⊥) → ((r : RecordData) → Contains more r ↔ (Contains held r ⊎ (r ≡ x)))
    → without (came ++ key_of x ∷ []) more ≡ without came held
came_without came held more x rising more_rising free puts =
    sym (left_without keys more (without came held) more_rising (without_rising came held rising) (λ y. (
      λ h. kept y ((without_members came held y).0 h),
      λ h. (without_members came held y).1 (before y h.0 h.1),
    )))
  where
    keys : List Key
    keys = came ++ key_of x ∷ []

    other_key : (y : RecordData) → Contains held y → key_of x ≡ key_of y → ⊥
    other_key y h same = free y h (sym (ap (λ (k : Key). k.epoch) same), sym (ap (λ (k : Key). k.number) same))

    kept : (y : RecordData) → Contains held y × (Contains came (key_of y) → ⊥) → Contains more y × (Contains keys (key_of y) → ⊥)
    kept y h = (
      (puts y).1 (inl h.0),
      λ in_keys. ⊎_elim
          (λ (z : Contains came (key_of y)). h.1 z)
          (λ (z : Contains (key_of x ∷ []) (key_of y)). ⊎_elim
          (λ (e : key_of x ≡ key_of y). other_key y h.0 e)
          (λ (e : Contains [] (key_of y)). none_in (key_of y) e)
          (which (key_of x) [] (key_of y) z))
          (Contains-append_cases came (key_of x ∷ []) (key_of y) in_keys),
    )

    before : (y : RecordData) → Contains more y → (Contains keys (key_of y) → ⊥) → Contains held y × (Contains came (key_of y) → ⊥)
    before y h free_key = (
      ⊎_elim
          (λ (z : Contains held y). z)
          (λ (e : y ≡ x). absurd (free_key (subst (λ z. Contains keys (key_of z)) (sym e)
          (Contains-append_right came (key_of x ∷ []) (key_of x) (here (key_of x) [])))))
          ((puts y).0 h),
      λ z. free_key (Contains-append_left came (key_of x ∷ []) (key_of y) z),
    )

-- ---- what a merge transaction began with, after a step
-- nothing has come in yet
pub began_here : (saved : SavepointData) (s : State) → saved.book ≡ s.book → saved.came ≡ [] → brought_back saved s ≡ s
unfolding without
began_here saved s book came = rw (book, came) refl

-- a record joins the others under a free key, which is noted
pub more_began : (lent : GName) (saved noted : SavepointData) (s t : State) (x : RecordData) → NotesKey saved (key_of x) noted → SameBase s t
    → IsHeld s.held → IsHeld t.held → ((r : RecordData) → Contains s.held r → HasKey (key_of x) r → ⊥)
    → ((r : RecordData) → Contains t.held r ↔ (Contains s.held r ⊎ (r ≡ x))) → began_by lent noted t ≡ began_by lent saved s
more_began lent saved noted s t x notes rest held more free puts = search (rules, came_without)

pub record_began : (lent : GName) (saved noted : SavepointData) (s t : State) (r : RecordData) → IsHeld s.held → IsHeld t.held
    → NotesKey saved (key_of r) noted → (IsKnown s (Record r) → ⊥) → Stores s (Record r) t → began_by lent noted t ≡ began_by lent saved s
record_began lent saved noted s t r held more notes new puts =
    more_began lent saved noted s t r notes puts.rest held more
    (λ x h key.
    let same : x ≡ r = one_of_key t.held x r more.rising ((puts.held x).1 (inl h)) ((puts.held r).1 (inr refl)) key.0 key.1 in
    new (inr (inl (subst (Contains s.held) same h))))
    puts.held
