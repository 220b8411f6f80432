-- The alive records above an anchor, gathered by the keys of the kept ones.
use Rattle.std.proofs.Common.{◌≡◌, ℕ, zero, suc, ◌+◌, ◌<◌, ◌≤◌, inr, ⊎_elim, List, [], ◌∷◌, ◌++◌, length, get_or, take, map, reverse, Some, None, refl, sym, ap, ◌∙◌, subst, arith}
use Rattle.std.specs.List.{Contains}
use Rattle.std.proofs.lemmas.List.{map-append, reverse-append, length-map}
use Rattle.redo_core.specs.Data.{RecordData}
use Rattle.redo_core.specs.Keys.{key_of}
use Rattle.redo_core.specs.Order.{Lists, RecordBefore, IsRising}
use Rattle.redo_core.specs.Standing.{IsAlive, IsWaiting}
use Rattle.redo_core.specs.declared.keys.Key.{Key}
use Rattle.redo_core.proofs.Members.{none_in, item, each, which}
use Rattle.redo_core.proofs.Listing.{lists_more, lists_left, lists_whole, lists_as}
use Rattle.hot_log.specs.Kept.{ListsKeysOf}
use Rattle.segment_theorems.specs.State.{State}
use Rattle.segment_theorems.specs.HasMeaning.{IsKeptBy}
use Rattle.segment_core.proofs.Keys.{one_of_key}
use Rattle.redo_writer.specs.declared.parts.AliveRecord.{AliveRecord}
use Rattle.redo_writer.specs.Tracks.{entry_of}
use Rattle.volume.specs.Resuming.{IsAliveAbove, AreAliveAbove, IsEntryOfKey}

-- the entries of the alive records among the first kept ones
pub record GathersTo (s : State) (anchor : ℕ) (keys : List Key) (i : ℕ) (entries : List AliveRecord) : Type 0 where
  pub kept : List RecordData
  pub lists : Lists RecordBefore (IsKeptBy s anchor) kept
  pub keys_are : keys ≡ map key_of kept
  pub records : List RecordData
  pub gathered : Lists RecordBefore (λ r. Contains (take i kept) r × IsAliveAbove s anchor r) records
  pub entries_are : entries ≡ reverse (map entry_of records)

at_map : {X Y : Type 0} (f : X → Y) (xs : List X) (i : ℕ) (y : Y) → i < length (map f xs) → y ≡ get_or (map f xs) i y
    → (x : X) × (i < length xs) × (x ≡ get_or xs i x) × (y ≡ f x)
at_map f [] i y lt is = absurd (omega (arith, lt))
at_map f (x ∷ xs) zero y lt is = (x, omega arith, refl, is)
at_map f (x ∷ xs) (suc i) y lt is = let t = at_map f xs i y (omega (arith, lt)) is in (t.0, omega (arith, t.1), t.2, t.3)

pub read_again : {X : Type 0} (xs : List X) (i : ℕ) (d : X) → get_or xs i d ≡ get_or xs i (get_or xs i d)
read_again [] i d = refl
read_again (x ∷ xs) zero d = refl
read_again (x ∷ xs) (suc i) d = read_again xs i d

-- what is among the first ones is before the next one
before_item : (kept : List RecordData) (i : ℕ) (x y : RecordData) → IsRising RecordBefore kept → i < length kept → x ≡ get_or kept i x
    → Contains (take i kept) y → RecordBefore y x
before_item [] i x y rising lt is has = absurd (omega (arith, lt))
before_item (z ∷ zs) zero x y rising lt is has = absurd (none_in y has)
before_item (z ∷ zs) (suc i) x y rising lt is has =
    ⊎_elim
    (λ (e : z ≡ y). subst (λ (w : RecordData). RecordBefore w x) e (each (RecordBefore z) zs x rising.0 (item zs i x (omega (arith, lt)) is)))
    (λ (q : Contains (take i zs) y). before_item zs i x y rising.1 (omega (arith, lt)) is q)
    (which z (take i zs) y has)

-- ---- one key more
abbrev entry_with : ℕ → ℕ → ℕ → AliveRecord
entry_with number page block_back = record { number = number; page = page; block_back = block_back }

pub same_entry : (number page block_back : ℕ) (r : RecordData) → number ≡ r.number → page ≡ r.page → block_back ≡ r.block_back
    → entry_with number page block_back ≡ entry_of r
same_entry number page block_back r n p b =
    ap (λ m. entry_with m page block_back) n ∙ ap (λ m. entry_with r.number m block_back) p ∙ ap (λ m. entry_with r.number r.page m) b

-- at first none is passed
pub gathers_none : (s : State) (anchor : ℕ) (keys : List Key) → ListsKeysOf (IsKeptBy s anchor) keys → GathersTo s anchor keys 0 []
gathers_none s anchor keys all = record {
  kept = all.kept;
  lists = all.lists;
  keys_are = all.keys_are;
  records = [];
  gathered = record { rising = tt; members = λ r. (λ h. absurd (none_in r h), λ h. absurd (none_in r h.0)) };
  entries_are = refl;
}

-- a kept record that is alive is above the anchor
above_anchor : (s : State) (anchor : ℕ) (r : RecordData) → IsKeptBy s anchor r → IsAlive s.book.cuts s.book.complete r.epoch r.number → IsAliveAbove s anchor r
above_anchor s anchor r kept alive =
    ⊎_elim
    (λ (w : IsWaiting s.book.complete r.epoch). absurd (omega (arith, alive.known, w)))
    (λ (a : IsAlive s.book.cuts s.book.complete r.epoch r.number × (anchor < r.number)). (kept.0, alive, a.1))
    kept.1

-- a key of no alive record adds none
pub gathers_left : (s : State) (anchor : ℕ) (keys : List Key) (i : ℕ) (entries : List AliveRecord) (key : Key) → i < length keys
    → key ≡ get_or keys i key → IsEntryOfKey s key None → GathersTo s anchor keys i entries → GathersTo s anchor keys (i + 1) entries
gathers_left s anchor keys i entries key lt is none before =
    let lt_map : i < length (map key_of before.kept) = subst (λ (ks : List Key). i < length ks) before.keys_are lt in
    let is_map : key ≡ get_or (map key_of before.kept) i key = subst (λ (ks : List Key). key ≡ get_or ks i key) before.keys_are is in
    let at = at_map key_of before.kept i key lt_map is_map in
    let x = at.0 in
    let lacks : IsAliveAbove s anchor x → ⊥ = λ alive.
    let here : IsEntryOfKey s (key_of x) None = subst (λ (k : Key). IsEntryOfKey s k None) at.3 none in
    here alive.1 x alive.0 (refl, refl) in
    record {
      kept = before.kept;
      lists = before.lists;
      keys_are = before.keys_are;
      records = before.records;
      gathered = lists_left RecordBefore (IsAliveAbove s anchor) before.kept before.records i x at.1 at.2 lacks before.gathered;
      entries_are = before.entries_are;
    }

entries_more : (entry : AliveRecord) (entries : List AliveRecord) (records : List RecordData) (x : RecordData) → entries ≡ reverse (map entry_of records)
    → entry ≡ entry_of x → entry ∷ entries ≡ reverse (map entry_of (records ++ x ∷ []))
entries_more entry entries records x before is =
    ap (λ (e : AliveRecord). e ∷ entries) is ∙ ap (λ (es : List AliveRecord). entry_of x ∷ es) before
    ∙ sym (ap reverse (map-append entry_of records (x ∷ [])) ∙ reverse-append (map entry_of records) (entry_of x ∷ []))

-- and that of an alive one adds its entry
pub gathers_more : (s : State) (anchor : ℕ) (keys : List Key) (i : ℕ) (entries : List AliveRecord) (key : Key) (entry : AliveRecord)
    → IsRising RecordBefore s.held → i < length keys → key ≡ get_or keys i key → IsEntryOfKey s key (Some entry) → GathersTo s anchor keys i entries
    → GathersTo s anchor keys (i + 1) (entry ∷ entries)
gathers_more s anchor keys i entries key entry rising lt is some before =
    let lt_map : i < length (map key_of before.kept) = subst (λ (ks : List Key). i < length ks) before.keys_are lt in
    let is_map : key ≡ get_or (map key_of before.kept) i key = subst (λ (ks : List Key). key ≡ get_or ks i key) before.keys_are is in
    let at = at_map key_of before.kept i key lt_map is_map in
    let x = at.0 in
    let kept : IsKeptBy s anchor x = (before.lists.members x).0 (item before.kept i x at.1 at.2) in
    let here : IsEntryOfKey s (key_of x) (Some entry) = subst (λ (k : Key). IsEntryOfKey s k (Some entry)) at.3 some in
    let found = here.1.0 in
    let one : found ≡ x = one_of_key s.held found x rising here.1.1.0 kept.0 here.1.1.1.0 here.1.1.1.1 in
    let own : entry ≡ entry_of x = here.1.2 ∙ ap entry_of one in
    record {
      kept = before.kept;
      lists = before.lists;
      keys_are = before.keys_are;
      records = before.records ++ x ∷ [];
      gathered = lists_more RecordBefore (IsAliveAbove s anchor) before.kept before.records i x at.1 at.2 (above_anchor s anchor x kept here.0)
          (λ y among _. before_item before.kept i x y before.lists.rising at.1 at.2 among) before.gathered;
      entries_are = entries_more entry entries before.records x before.entries_are own;
    }

pub gathers_all : (s : State) (anchor : ℕ) (keys : List Key) (i : ℕ) (entries : List AliveRecord) → length keys ≤ i
    → GathersTo s anchor keys i entries → AreAliveAbove s anchor entries
gathers_all s anchor keys i entries le to =
    let long : length to.kept ≤ i = omega (arith, le, length-map to.kept key_of, ap length to.keys_are) in (
      to.records,
      lists_as RecordBefore (λ r. Contains to.kept r × IsAliveAbove s anchor r) (IsAliveAbove s anchor) to.records
          (λ r. (λ h. h.1, λ h. ((to.lists.members r).1 (h.0, inr (h.1, h.2)), h)))
          (lists_whole RecordBefore (IsAliveAbove s anchor) to.kept to.records i long to.gathered),
      to.entries_are,
    )
