-- The walk over the items in key order, group by group.
use Rattle.std.proofs.Common.{◌≡◌, ℕ, zero, suc, ◌+◌, ◌-◌, ◌<◌, ◌≤◌, ⊎_elim, List, [], ◌∷◌, ◌++◌, length, get_or, take, drop, sym, ap, ◌∙◌, subst, arith, Option, rules}
use Rattle.std.proofs.lemmas.Grind.{common_steps}
use Rattle.std.specs.List.{Contains}
use Rattle.std.proofs.lemmas.Bool.{cases_lt}
use Rattle.std.proofs.lemmas.List.{get_or_default}
use Rattle.redo_core.specs.Data.{CutData}
use Rattle.redo_core.specs.Sets.{cuts}
use Rattle.redo_core.specs.declared.facts.Fact.{Fact}
use Rattle.log_law.specs.Alive.{HoldsAlive}
use Rattle.log_law.specs.Links.{AreItems, KeyAtMost, KeyBelow, SameItemKey, IsInKeyOrder, IsLeastBroken}
use Rattle.log_law.specs.declared.alive.AliveRecords.{AliveRecords}
use Rattle.log_law.specs.declared.links.Item.{Item}
use Rattle.log_law.specs.declared.links.BrokenLink.{BrokenLink}
use Rattle.log_law.proofs.Least.{zero_item}
use Rattle.log_law.proofs.Judging.{IsGroup}

take_nothing : (n : ℕ) → [] ≡ take {A = Item} n []
take_nothing n = search rules

pub take_part : (start stop : ℕ) (xs : List Item) → start ≤ stop → take stop xs ≡ take start xs ++ take (stop - start) (drop start xs)
take_part zero stop xs l = ap (λ n. take n xs) (let q : stop ≡ stop - 0 = omega arith in q)
take_part (suc start) zero xs l = absurd (omega (arith, l))
take_part (suc start) (suc stop) [] l = take_nothing (suc stop - suc start)
take_part (suc start) (suc stop) (x ∷ xs) l =
    ap (λ ys. x ∷ ys) (take_part start stop xs (omega (arith, l)) ∙ ap (λ n. take start xs ++ take n (drop start xs))
    (let q : stop - start ≡ suc stop - suc start = omega arith in q))

-- one key at two indices, whatever is past the end
pub same_key : (items : List Item) (i j : ℕ) (d e : Item) → i < length items → j < length items → SameItemKey (get_or items i d) (get_or items j d)
    → SameItemKey (get_or items i e) (get_or items j e)
same_key items i j d e l m same =
    subst (λ x. SameItemKey x (get_or items j e)) (get_or_default items i d e l) (subst (SameItemKey (get_or items i d)) (get_or_default items j d e m) same)

pub one_more_key : (items : List Item) (start stop : ℕ) → start < length items → stop < length items
    → SameItemKey (get_or items stop zero_item) (get_or items start zero_item)
    → ((k : ℕ) (d : Item) → start ≤ k → k < stop → SameItemKey (get_or items k d) (get_or items start d)) → (k : ℕ) (d : Item) → start ≤ k → k < stop + 1
    → SameItemKey (get_or items k d) (get_or items start d)
one_more_key items start stop inside l here same k d m n =
    ⊎_elim
    (λ (q : k < stop). same k d m q)
    (λ (q : stop ≤ k).
    let e : stop ≡ k = omega arith in
    subst (λ i. SameItemKey (get_or items i d) (get_or items start d)) e (same_key items stop start zero_item d l inside here))
    (cases_lt k stop)

-- the walk has reached an item that has a greater key than all before it
pub record IsWalked (log : List Fact) (items : List Item) (start : ℕ) (alive : AliveRecords) (least : Option BrokenLink) : Type 0 where
  pub holds : HoldsAlive log (take start items) alive
  pub broken : IsLeastBroken log (take start items) least
  pub view : (k : ℕ) (d : Item) → start ≤ k → k < length items → alive.view ≤ (get_or items k d).epoch
  pub apart : (j k : ℕ) (d : Item) → j < start → start ≤ k → k < length items → KeyBelow (get_or items j d) (get_or items k d)

key_below : (t u v : Item) → SameItemKey t v → KeyAtMost v u → (SameItemKey u v → ⊥) → KeyBelow t u
key_below t u v s h differ = search rules

key_trans : (t u v : Item) → KeyBelow t u → KeyAtMost u v → KeyBelow t v
key_trans t u v h k = search rules

-- the group from start to stop, once the view is its epoch
pub is_group : (log : List Fact) (items : List Item) (start stop : ℕ) (alive entered : AliveRecords) (least : Option BrokenLink)
    → ((c : CutData) → Contains (cuts log) c → c.lo ≤ c.hi) → AreItems log items → IsInKeyOrder items → IsWalked log items start alive least
    → start < length items → start < stop → stop ≤ length items
    → ((k : ℕ) (d : Item) → start ≤ k → k < stop → SameItemKey (get_or items k d) (get_or items start d)) → HoldsAlive log (take start items) entered
    → entered.view ≡ (get_or items start zero_item).epoch → IsGroup log items (take start items) (take (stop - start) (drop start items)) entered
is_group log items start stop alive entered least ordered are order w inside after within same holds view = grind (arith, common_steps)

-- the group is done
pub walked_group : (log : List Fact) (items : List Item) (start stop : ℕ) (alive new : AliveRecords) (least next : Option BrokenLink) → IsInKeyOrder items
    → IsWalked log items start alive least → start < length items → start < stop → stop ≤ length items
    → ((k : ℕ) (d : Item) → start ≤ k → k < stop → SameItemKey (get_or items k d) (get_or items start d))
    → ((d : Item) → stop < length items → SameItemKey (get_or items stop d) (get_or items start d) → ⊥)
    → HoldsAlive log (take start items ++ take (stop - start) (drop start items)) new → new.view ≡ (get_or items start zero_item).epoch
    → IsLeastBroken log (take start items ++ take (stop - start) (drop start items)) next → IsWalked log items stop new next
walked_group log items start stop alive new least next order w inside after within same apart holds view broken =
    let parts = take_part start stop items (let l : start ≤ stop = omega arith in l) in
    record {
      holds = subst (λ xs. HoldsAlive log xs new) (sym parts) holds;
      broken = subst (λ xs. IsLeastBroken log xs next) (sym parts) broken;
      view = λ k d l m.
          let at : get_or items k d ≡ get_or items k zero_item = get_or_default items k d zero_item m in
          subst (λ x. new.view ≤ x.epoch) (sym at)
          (⊎_elim (λ (a : (get_or items start zero_item).epoch < (get_or items k zero_item).epoch). omega arith)
          (λ (a : ((get_or items start zero_item).epoch ≡ (get_or items k zero_item).epoch)
          × ((get_or items start zero_item).number ≤ (get_or items k zero_item).number)).
          let e : (get_or items start zero_item).epoch ≡ (get_or items k zero_item).epoch = a.0 in omega arith) (order start k zero_item (omega arith) m));
      apart = λ j k d l m n.
          ⊎_elim
          (λ (q : j < start). w.apart j k d q (omega arith) n)
          (λ (q : start ≤ j).
          let to_stop : KeyBelow (get_or items j d) (get_or items stop d) = key_below (get_or items j d) (get_or items stop d) (get_or items start d)
          (same j d q l) (order start stop d (omega arith) (omega arith)) (apart d (omega arith)) in
          key_trans (get_or items j d) (get_or items stop d) (get_or items k d) to_stop (order stop k d m n))
          (cases_lt j start);
    }
