-- What the one stores already need not be exported: left out, it changes nothing of what is taken or refused.
use Rattle.std.proofs.Common.{◌≡◌, ℕ, ◌<◌, ◌⊎◌, ◌↔◌, inl, inr, ⊎_elim, List, [], ◌∷◌, ◌++◌, map, refl, sym, ap, ◌∙◌, subst, rules}
use Rattle.std.specs.List.{Contains, AllByRecursion}
use Rattle.redo_core.specs.Data.{RecordData}
use Rattle.redo_core.specs.Order.{IsRising, Lists, RecordBefore}
use Rattle.redo_core.specs.Standing.{IsAlive, IsWaiting}
use Rattle.redo_core.specs.declared.facts.Fact.{Fact}
use Rattle.redo_core.specs.declared.facts.Fact.TheVariants.{Record, Cut, Advance}
use Rattle.redo_core.proofs.Members.{none_in, here, there, which, each, all_of, lists_unique}
use Rattle.redo_core.proofs.Pairs.{pair_apart, pair_trans, pair_order}
use Rattle.log_theorems.proofs.Deciding.{Settled, settled_lt, settled_and, settled_or, some_or_none, in_order}
use Rattle.log_theorems.proofs.Fronts.{settled_alive}
use Rattle.hot_log.specs.Held.{IsHeld}
use Rattle.segment_theorems.specs.State.{State}
use Rattle.segment_theorems.specs.HasMeaning.{HasAnchor, IsKeptBy}
use Rattle.segment_theorems.specs.Known.{IsKnown}
use Rattle.segment_theorems.specs.Learning.{PutsRecord}
use Rattle.segment_core.specs.Taking.{Stores}
use Rattle.segment_core.specs.Refusing.{Refuses, IsDeadOrSettled}
use Rattle.segment_core.specs.declared.answers.Refusal.{Refusal}
use Rattle.segment_core.specs.declared.answers.Refusal.TheVariants.{OtherRecord}
use Rattle.segment_core.proofs.Keys.{one_of_key}
use Rattle.segment_core.specs.Exported.{book_facts, exported_facts}
use Rattle.segment_core.specs.InOrder.{TakesOne, TakesEach, RefusesOne}
use Rattle.segment_join.specs.Knowing.{TakesAll, RefusesAll}
use Rattle.segment_join.proofs.Alike.{settled_record}
use Rattle.segment_join.proofs.Telling.{takes_all, refuses_all}
use Rattle.segment_core.proofs.TellingAll.{in_two}

-- ---- the list without what is stored
pub settled_held : (held : List RecordData) (r : RecordData) → Settled (Contains held r)
settled_held held r =
    ⊎_elim
    (λ (s : (x : RecordData) × Contains held x × (x ≡ r)). inl (subst (Contains held) s.2 s.1))
    (λ (none : (x : RecordData) → Contains held x → x ≡ r → ⊥). inr (λ h. none r h refl))
    (some_or_none (λ x. x ≡ r) (λ x. settled_record x r) held)

-- a record comes before the rest, unless it is stored
abbrev unless_held : (held : List RecordData) (r : RecordData) → Settled (Contains held r) → List RecordData → List RecordData
unless_held held r (inl has) rest = rest
unless_held held r (inr lacks) rest = r ∷ rest

abbrev left_out : List RecordData → List RecordData → List RecordData
left_out held [] = []
left_out held (r ∷ rs) = unless_held held r (settled_held held r) (left_out held rs)

members_at : (held : List RecordData) (r : RecordData) (rest rs : List RecordData) (known : Settled (Contains held r))
    → ((x : RecordData) → Contains rest x ↔ (Contains rs x × (Contains held x → ⊥)))
    → (x : RecordData) → Contains (unless_held held r known rest) x ↔ (Contains (r ∷ rs) x × (Contains held x → ⊥))
members_at held r rest rs (inl has) same x = (
  λ h. let t = (same x).0 h in (there r rs x t.0, t.1),
  λ h. (same x).1 (
    ⊎_elim (λ (e : r ≡ x). absurd (h.1 (subst (Contains held) e has))) (λ (u : Contains rs x). u) (which r rs x h.0),
    h.1,
  ),
)
members_at held r rest rs (inr lacks) same x = (
  λ h. ⊎_elim
      (λ (e : r ≡ x). (subst (Contains (r ∷ rs)) e (here r rs), subst (λ y. Contains held y → ⊥) e lacks))
      (λ (u : Contains rest x). let t = (same x).0 u in (there r rs x t.0, t.1))
      (which r rest x h),
  λ h. ⊎_elim
      (λ (e : r ≡ x). subst (Contains (r ∷ rest)) e (here r rest))
      (λ (u : Contains rs x). there r rest x ((same x).1 (u, h.1)))
      (which r rs x h.0),
)

left_members : (held full : List RecordData) (x : RecordData) → Contains (left_out held full) x ↔ (Contains full x × (Contains held x → ⊥))
left_members held [] x = (λ h. absurd (none_in x h), λ h. h.0)
left_members held (r ∷ rs) x = members_at held r (left_out held rs) rs (settled_held held r) (left_members held rs) x

rising_at : (held : List RecordData) (r : RecordData) (rest : List RecordData) (known : Settled (Contains held r))
    → AllByRecursion (RecordBefore r) rest → IsRising RecordBefore rest → IsRising RecordBefore (unless_held held r known rest)
rising_at held r rest known before rising = search rules

left_rising : (held full : List RecordData) → IsRising RecordBefore full → IsRising RecordBefore (left_out held full)
left_rising held [] rising = tt
left_rising held (r ∷ rs) rising =
    rising_at held r (left_out held rs) (settled_held held r)
    (all_of (RecordBefore r) (left_out held rs) (λ x h. each (RecordBefore r) rs x rising.0 ((left_members held rs x).0 h).0))
    (left_rising held rs rising.1)

-- a list of just those that are not stored is the full one without what is stored
is_left_out : (P : RecordData → Type 0) (held full rest : List RecordData) → Lists RecordBefore P full
    → Lists RecordBefore (λ r. P r × (Contains held r → ⊥)) rest → rest ≡ left_out held full
is_left_out P held full rest all lists =
    lists_unique RecordBefore (λ r x u v. pair_apart r.epoch r.number x.epoch x.number u v)
    (λ r. P r × (Contains held r → ⊥)) (λ r. P r × (Contains held r → ⊥)) (λ r. (λ h. h, λ h. h)) rest (left_out held full) lists (record {
      rising = left_rising held full all.rising;
      members = λ r. (
        λ h. let t = (left_members held full r).0 h in ((all.members r).0 t.0, t.1),
        λ h. (left_members held full r).1 ((all.members r).1 h.0, h.1),
      );
    })

-- ---- the full list of what a state keeps
kept_exists : (s : State) (anchor : ℕ) → IsHeld s.held → (full : List RecordData) × Lists RecordBefore (IsKeptBy s anchor) full
kept_exists s anchor held =
    in_order RecordBefore (Contains s.held) (λ x y z a b. pair_trans x.epoch x.number y.epoch y.number z.epoch z.number a b)
    (λ x y a b. ⊎_elim (λ (less : RecordBefore x y). inl less)
    (λ t. ⊎_elim (λ (e : (x.epoch ≡ y.epoch) × (x.number ≡ y.number)). inr (inl (one_of_key s.held x y held.rising a b e.0 e.1)))
    (λ (more : RecordBefore y x). inr (inr more)) t) (pair_order x.epoch x.number y.epoch y.number))
    (λ r. IsWaiting s.book.complete r.epoch ⊎ (IsAlive s.book.cuts s.book.complete r.epoch r.number × (anchor < r.number)))
    (λ r. settled_or _ _ (settled_lt s.book.complete r.epoch)
    (settled_and _ _ (settled_alive s.book.cuts s.book.complete r.epoch r.number) (λ _. settled_lt anchor r.number)))
    s.held (λ r h t. h)

-- ---- what stays while facts are taken
-- no two records have one key
abbrev OneOfKey : List RecordData → Type 0
OneOfKey held = (r x : RecordData) → Contains held r → Contains held x → r.epoch ≡ x.epoch → r.number ≡ x.number → r ≡ x

-- what was stored is stored, and each key has one record
record HoldsStill (before now : List RecordData) : Type 0 where
  has : (r : RecordData) → Contains before r → Contains now r
  one : OneOfKey now

-- a record that is new and not refused has a key that no stored one has
puts_one : (s t : State) (r : RecordData) → OneOfKey s.held → ((why : Refusal) → Refuses s (Record r) why → ⊥) → (IsKnown s (Record r) → ⊥)
    → PutsRecord s r t → OneOfKey t.held
puts_one s t r one free new puts x y hx hy e n =
    ⊎_elim
    (λ (a : Contains s.held x). ⊎_elim
    (λ (b : Contains s.held y). one x y a b e n)
    (λ (b : y ≡ r). same x a (e ∙ ap (λ (z : RecordData). z.epoch) b) (n ∙ ap (λ (z : RecordData). z.number) b) ∙ sym b)
    ((puts.held y).0 hy))
    (λ (a : x ≡ r). ⊎_elim
    (λ (b : Contains s.held y). a ∙ sym (same y b (sym e ∙ ap (λ (z : RecordData). z.epoch) a) (sym n ∙ ap (λ (z : RecordData). z.number) a)))
    (λ (b : y ≡ r). a ∙ sym b)
    ((puts.held y).0 hy))
    ((puts.held x).0 hx)
  where
    compared : IsDeadOrSettled s r → ⊥
    compared h = new (⊎_elim (λ d. inl d) (λ settled. inr (inr settled)) h)

    same : (z : RecordData) → Contains s.held z → z.epoch ≡ r.epoch → z.number ≡ r.number → z ≡ r
    same z h of_epoch of_number =
        ⊎_elim (λ (q : z ≡ r). q) (λ (no : z ≡ r → ⊥). absurd (free OtherRecord (compared, (z, h, of_epoch, of_number, no)))) (settled_record z r)

still_stored : (held : List RecordData) (s t : State) (fact : Fact) → HoldsStill held s.held → ((why : Refusal) → Refuses s fact why → ⊥)
    → (IsKnown s fact → ⊥) → Stores s fact t → HoldsStill held t.held
still_stored held s t (Record r) still free new puts = record {
  has = λ x h. (puts.held x).1 (inl (still.has x h));
  one = puts_one s t r still.one free new puts;
}
still_stored held s t (Cut c) still free new learns = subst (HoldsStill held) (sym learns.held) still
still_stored held s t (Advance a) still free new learns = subst (HoldsStill held) (sym learns.held) still

still_one : (held : List RecordData) (s t : State) (fact : Fact) → HoldsStill held s.held → TakesOne s fact t → HoldsStill held t.held
still_one held s t fact still takes =
    ⊎_elim
    (λ (known : IsKnown s fact × (t ≡ s)). subst (λ (u : State). HoldsStill held u.held) (sym known.1) still)
    (λ (new : (IsKnown s fact → ⊥) × Stores s fact t). still_stored held s t fact still takes.free new.0 new.1)
    takes.takes

-- a stored record is known, and no other one is under its key, so it is taken and nothing changes
takes_held : (s : State) (r : RecordData) → OneOfKey s.held → Contains s.held r → TakesOne s (Record r) s
takes_held s r one has = search rules

-- ---- the records, with those that are stored
takes_at : (held : List RecordData) (r : RecordData) (rest rs : List RecordData) (t : State) (known : Settled (Contains held r))
    → ((u : State) → HoldsStill held u.held → TakesEach u (map Record rest) t → TakesEach u (map Record rs) t)
    → (s : State) → HoldsStill held s.held → TakesEach s (map Record (unless_held held r known rest)) t → TakesEach s (map Record (r ∷ rs)) t
takes_at held r rest rs t (inl has) more s still takes = (s, takes_held s r still.one (still.has r has), more s still takes)
takes_at held r rest rs t (inr lacks) more s still takes =
    (takes.0, takes.1, more takes.0 (still_one held s takes.0 (Record r) still takes.1) takes.2)

takes_full : (held full : List RecordData) (t s : State) → HoldsStill held s.held → TakesEach s (map Record (left_out held full)) t
    → TakesEach s (map Record full) t
takes_full held [] t s still takes = takes
takes_full held (r ∷ rs) t s still takes =
    takes_at held r (left_out held rs) rs t (settled_held held r) (takes_full held rs t) s still takes

refuses_at : (held : List RecordData) (r : RecordData) (rest rs : List RecordData) (why : Refusal) (known : Settled (Contains held r))
    → ((u : State) → HoldsStill held u.held → RefusesOne u (map Record rest) why → RefusesOne u (map Record rs) why)
    → (s : State) → HoldsStill held s.held → RefusesOne s (map Record (unless_held held r known rest)) why → RefusesOne s (map Record (r ∷ rs)) why
refuses_at held r rest rs why (inl has) more s still refused = inr (s, takes_held s r still.one (still.has r has), more s still refused)
refuses_at held r rest rs why (inr lacks) more s still refused =
    ⊎_elim
    (λ (x : Refuses s (Record r) why). inl x)
    (λ (x : (between : State) × TakesOne s (Record r) between × RefusesOne between (map Record rest) why).
    inr (x.0, x.1, more x.0 (still_one held s x.0 (Record r) still x.1) x.2))
    refused

refuses_full : (held full : List RecordData) (why : Refusal) (s : State) → HoldsStill held s.held → RefusesOne s (map Record (left_out held full)) why
    → RefusesOne s (map Record full) why
refuses_full held [] why s still refused = refused
refuses_full held (r ∷ rs) why s still refused =
    refuses_at held r (left_out held rs) rs why (settled_held held r) (refuses_full held rs why) s still refused

-- ---- after other facts
-- after the same facts another list is taken, where it is so in each state that stores still
takes_behind : (held : List RecordData) (facts short long : List Fact) (t : State)
    → ((u : State) → HoldsStill held u.held → TakesEach u short t → TakesEach u long t)
    → (s : State) → HoldsStill held s.held → TakesEach s (facts ++ short) t → TakesEach s (facts ++ long) t
takes_behind held [] short long t more s still takes = more s still takes
takes_behind held (fact ∷ facts) short long t more s still takes = (
  takes.0,
  takes.1,
  takes_behind held facts short long t more takes.0 (still_one held s takes.0 fact still takes.1) takes.2,
)

refuses_behind : (held : List RecordData) (facts short long : List Fact) (why : Refusal)
    → ((u : State) → HoldsStill held u.held → RefusesOne u short why → RefusesOne u long why)
    → (s : State) → HoldsStill held s.held → RefusesOne s (facts ++ short) why → RefusesOne s (facts ++ long) why
refuses_behind held [] short long why more s still refused = more s still refused
refuses_behind held (fact ∷ facts) short long why more s still refused =
    ⊎_elim
    (λ (x : Refuses s fact why). inl x)
    (λ (x : (between : State) × TakesOne s fact between × RefusesOne between (facts ++ short) why).
    inr (x.0, x.1, refuses_behind held facts short long why more x.0 (still_one held s x.0 fact still x.1) x.2))
    refused

-- ---- all that the other exports
module _ (old other : State) (anchor : ℕ) (rest : List RecordData) (own : IsHeld old.held) (others : IsHeld other.held) (above : HasAnchor other anchor)
    (lists : Lists RecordBefore (λ r. IsKeptBy other anchor r × (Contains old.held r → ⊥)) rest) where
  full : List RecordData
  full = (kept_exists other anchor others).0

  kept : Lists RecordBefore (IsKeptBy other anchor) full
  unfolding full
  kept = (kept_exists other anchor others).1

  -- at first all that was stored is, and it rises by key
  still : HoldsStill old.held old.held
  still = record { has = λ r h. h; one = λ r x hr hx e n. one_of_key old.held r x own.rising hr hx e n }

  -- what is exported after the facts of the book is the list without what is stored
  told_is : exported_facts other.book rest ≡ book_facts other.book ++ map Record (left_out old.held full)
  told_is =
      ap (exported_facts other.book) (is_left_out (IsKeptBy other anchor) old.held full rest kept lists) ∙ sym (in_two other.book (left_out old.held full))

  -- what the one stores already need not be exported
  pub takes_left_out : (new : State) → TakesEach old (exported_facts other.book rest) new → TakesAll old other new
  takes_left_out new takes =
      takes_all other anchor full above kept old new
      (subst (λ facts. TakesEach old facts new) (in_two other.book full)
      (takes_behind old.held (book_facts other.book) (map Record (left_out old.held full)) (map Record full) new (takes_full old.held full new) old still
      (subst (λ facts. TakesEach old facts new) told_is takes)))

  -- and a refusal of what is exported is one of all
  pub refuses_left_out : (why : Refusal) → RefusesOne old (exported_facts other.book rest) why → RefusesAll old other why
  refuses_left_out why refused =
      refuses_all other anchor full above kept old why
      (subst (λ facts. RefusesOne old facts why) (in_two other.book full)
      (refuses_behind old.held (book_facts other.book) (map Record (left_out old.held full)) (map Record full) why (refuses_full old.held full why) old still
      (subst (λ facts. RefusesOne old facts why) told_is refused)))
