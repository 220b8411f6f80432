-- Items of a log, and the least of those whose backlinks are wrong.
use Rattle.std.proofs.Common.{◌≡◌, ℕ, ◌+◌, ◌<◌, ◌≤◌, ⊎_elim, List, [], ◌∷◌, ◌++◌, length, get_or, take, sym, ap, ◌∙◌, subst, arith, append_assoc, Option, Some, None, rules}
use Rattle.std.specs.Prelude.{slice_get}
use Rattle.std.specs.List.{Contains}
use Rattle.std.specs.List.Sorted.{IsPermutation}
use Rattle.std.proofs.lemmas.Bool.{cases_lt}
use Rattle.std.proofs.lemmas.Option.{same_Some, slice_get_within}
use Rattle.std.proofs.lemmas.List.{take_more}
use Rattle.std.proofs.lemmas.List.Elements.{Contains-get_or, Contains-append_left, Contains-append_cases, Contains-push}
use Rattle.std.proofs.lemmas.List.Sorted.{Contains-permutation, IsPermutation-sym}
use Rattle.redo_core.specs.Data.{RecordData}
use Rattle.redo_core.specs.Sound.{Law2}
use Rattle.redo_core.specs.declared.facts.Fact.{Fact}
use Rattle.redo_core.specs.declared.facts.Fact.TheVariants.{Record}
use Rattle.redo_core.proofs.Members.{only}
use Rattle.log_law.specs.Links.{IsItem, AreItemsTo, AreItems, JudgesItem, IsLeastBroken, IsFirstBrokenLink}
use Rattle.log_law.specs.declared.links.Item.{Item}
use Rattle.log_law.specs.declared.links.BrokenLink.{BrokenLink}

pub same_redo : (r s : RecordData) → Record r ≡ Record s → r ≡ s
same_redo r s e = cc

pub one_redo : (log : List Fact) (p : ℕ) (r s : RecordData) → slice_get log p ≡ Some (Record r) → slice_get log p ≡ Some (Record s) → r ≡ s
one_redo log p r s a b = same_redo r s (same_Some (Record r) (Record s) (sym a ∙ b))

-- one more fact of the log
pub more_item : (log : List Fact) (p : ℕ) (items : List Item) (t : Item) → AreItemsTo log p items → IsItem log t → t.place ≡ p
    → AreItemsTo log (p + 1) (items ++ t ∷ [])
more_item log p items t h it e = record {
  each = λ u m. ⊎_elim (λ (k : Contains items u). h.each u k) (λ (k : Contains (t ∷ []) u). subst (IsItem log) (only t u k) it)
      (Contains-append_cases items (t ∷ []) u m);
  all = λ q r l s law. ⊎_elim
      (λ (k : q < p). let w = h.all q r k s law in (w.0, Contains-append_left items (t ∷ []) w.0 w.1, w.2))
      (λ (k : p ≤ q). (t, Contains-push items t, (let same : q ≡ p = omega arith in e ∙ sym same)))
      (cases_lt q p);
}

pub no_item : (log : List Fact) (p : ℕ) (items : List Item) (f : Fact) → AreItemsTo log p items → slice_get log p ≡ Some f
    → ((r : RecordData) → f ≡ Record r → Law2 log (Record r) → ⊥) → AreItemsTo log (p + 1) items
no_item log p items f h at not' = search rules

pub reordered : (log : List Fact) (items sorted : List Item) → IsPermutation items sorted → AreItems log items → AreItems log sorted
reordered log items sorted p h = record {
  each = λ t m. h.each t (Contains-permutation sorted items t (IsPermutation-sym items sorted p) m);
  all = λ q r l s law. let w = h.all q r l s law in (w.0, Contains-permutation items sorted w.0 p w.1, w.2);
}

-- one more item: its links are right, or it is the least so far, or it comes later
pub least_kept : (log : List Fact) (past : List Item) (t : Item) (least : Option BrokenLink) → IsLeastBroken log past least → JudgesItem log t None
    → IsLeastBroken log (past ++ t ∷ []) least
least_kept log past t None h j = λ u m. ⊎_elim (h u) (λ k. subst (λ v. JudgesItem log v None) (only t u k) j) (Contains-append_cases past (t ∷ []) u m)
least_kept log past t (Some b) h j = (
  λ u m l. ⊎_elim (λ k. h.0 u k l) (λ k. subst (λ v. JudgesItem log v None) (only t u k) j) (Contains-append_cases past (t ∷ []) u m),
  (h.1.0, Contains-append_left past (t ∷ []) h.1.0 h.1.1, h.1.2, h.1.3),
)

pub least_later : (log : List Fact) (past : List Item) (t : Item) (b : BrokenLink) → IsLeastBroken log past (Some b) → b.place ≤ t.place
    → IsLeastBroken log (past ++ t ∷ []) (Some b)
least_later log past t b h le = (
  λ u m l. ⊎_elim (λ k. h.0 u k l) (λ k. absurd (let e : t.place ≡ u.place = ap (λ v. v.place) (only t u k) in omega arith))
      (Contains-append_cases past (t ∷ []) u m),
  (h.1.0, Contains-append_left past (t ∷ []) h.1.0 h.1.1, h.1.2, h.1.3),
)

pub least_first : (log : List Fact) (past : List Item) (t : Item) (b : BrokenLink) → IsLeastBroken log past None → t.place ≡ b.place
    → JudgesItem log t (Some b.law) → IsLeastBroken log (past ++ t ∷ []) (Some b)
least_first log past t b h e j = (
  λ u m l. ⊎_elim (h u) (λ k. absurd (let s : t.place ≡ u.place = ap (λ v. v.place) (only t u k) in omega arith)) (Contains-append_cases past (t ∷ []) u m),
  (t, Contains-push past t, e, j),
)

pub least_new : (log : List Fact) (past : List Item) (t : Item) (known b : BrokenLink) → IsLeastBroken log past (Some known) → b.place < known.place
    → t.place ≡ b.place → JudgesItem log t (Some b.law) → IsLeastBroken log (past ++ t ∷ []) (Some b)
least_new log past t known b h lt e j = (
  λ u m l. ⊎_elim (λ k. h.0 u k (omega arith)) (λ k. absurd (let s : t.place ≡ u.place = ap (λ v. v.place) (only t u k) in omega arith))
      (Contains-append_cases past (t ∷ []) u m),
  (t, Contains-push past t, e, j),
)

-- the least of the items is the least of the log
pub least_of_log : (log : List Fact) (items : List Item) (least : Option BrokenLink) → AreItems log items → IsLeastBroken log items least
    → IsFirstBrokenLink log least
least_of_log log items None a h = λ p r at law.
    let w = a.all p r (slice_get_within log p (Record r) at) at law in
    h w.0 w.1 r (subst (λ i. slice_get log i ≡ Some (Record r)) (sym w.2) at)
least_of_log log items (Some b) a h = (
  λ p r lt at law.
      let w = a.all p r (slice_get_within log p (Record r) at) at law in
      h.0 w.0 w.1 (let e : w.0.place ≡ p = w.2 in omega arith) r (subst (λ i. slice_get log i ≡ Some (Record r)) (sym w.2) at),
  (let it = a.each h.1.0 h.1.1 in
      (it.redo, subst (λ i. slice_get log i ≡ Some (Record it.redo)) h.1.2 it.at, h.1.3 it.redo it.at)),
)

-- a loop's step over a group
abbrev pub zero_item : Item
zero_item = record { place = 0; epoch = 0; number = 0; page = 0; back = 0; block_back = 0 }

pub one_further : (past group : List Item) (i : ℕ) → i < length group → past ++ take (i + 1) group ≡ (past ++ take i group) ++ get_or group i zero_item ∷ []
one_further past group i l = ap (λ ys. past ++ ys) (take_more group i zero_item l) ∙ sym (append_assoc past (take i group) (get_or group i zero_item ∷ []))

pub item_in : (group : List Item) (i : ℕ) → i < length group → Contains group (get_or group i zero_item)
item_in group i l = Contains-get_or group i zero_item l
