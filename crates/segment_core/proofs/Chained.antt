-- Records of a page that follow one another, from its image or from a record with `init` on.
use Rattle.std.proofs.Common.{◌≡◌, ℕ, ◌<◌, ◌≤◌, ◌⊎◌, inl, inr, ⊎_elim, List, [], ◌∷◌, ◌++◌, true, false, refl, sym, ap, ◌∙◌, subst, arith}
use Rattle.std.specs.List.{Contains}
use Rattle.std.proofs.lemmas.List.Elements.{Contains-append_left, Contains-append_right}
use Rattle.redo_core.specs.Data.{RecordData}
use Rattle.redo_core.specs.Order.{Lists, BeforeByNumber}
use Rattle.redo_core.proofs.Members.{none_in, here, there, which}
use Rattle.segment_theorems.specs.State.{State, version_of}
use Rattle.segment_theorems.specs.Shows.{IsApplied}
use Rattle.hot_log.specs.Anew.{ListsAnew}
use Rattle.segment_core.specs.BlockChain.{IsLinkedOf, IsLinkedUpTo, IsChained, OnBlockChain, BreaksAt}
use Rattle.segment_core.specs.BlockChain.OnBlockChain.{start, down}
use Rattle.segment_core.proofs.BlockChain.{on_linked}

-- chained records, of which the last has this LSN
pub record IsChainedTo (version : ℕ) (xs : List RecordData) (below : ℕ) : Type 0 where
  pub chained : IsChained version xs
  pub last : (below ≡ version) ⊎ ((x : RecordData) × Contains xs x × (x.number ≡ below))

pub none_chained : (version : ℕ) → IsChainedTo version [] version
none_chained version = record { chained = λ r h. absurd (none_in r h); last = inl refl }

-- one record more
pub chained_more : (version : ℕ) (xs : List RecordData) (below n : ℕ) (r : RecordData) → IsChainedTo version xs below → n ≡ r.number
    → (r.init ≡ false → version < r.block_back → r.block_back ≡ below) → IsChainedTo version (xs ++ r ∷ []) n
chained_more version xs below n r was same follows = record {
  chained = λ x h anew above. ⊎_elim
      (λ (u : Contains xs x). let t = was.chained x u anew above in (t.0, Contains-append_left xs (r ∷ []) t.0 t.1, t.2))
      (λ (u : x ≡ r). new x u (subst (λ (y : RecordData). y.init ≡ false) u anew) (subst (λ (y : RecordData). version < y.block_back) u above))
      (joined xs x h);
  last = inr (r, Contains-append_right xs (r ∷ []) r (here r []), sym same);
}
  where
    joined : (ys : List RecordData) (x : RecordData) → Contains (ys ++ r ∷ []) x → Contains ys x ⊎ (x ≡ r)
    joined [] x h = ⊎_elim (λ (u : r ≡ x). inr (sym u)) (λ (u : Contains [] x). inl u) (which r [] x h)
    joined (y ∷ ys) x h = ⊎_elim
        (λ (u : y ≡ x). inl (subst (Contains (y ∷ ys)) u (here y ys)))
        (λ (u : Contains (ys ++ r ∷ []) x). ⊎_elim (λ (v : Contains ys x). inl (there y ys x v)) (λ (v : x ≡ r). inr v) (joined ys x u))
        (which y (ys ++ r ∷ []) x h)

    new : (x : RecordData) → x ≡ r → r.init ≡ false → version < r.block_back
        → (below : RecordData) × Contains (xs ++ r ∷ []) below × (below.number ≡ x.block_back)
    new x u anew above =
        let at : r.block_back ≡ below = follows anew above in
        let back : x.block_back ≡ r.block_back = ap (λ (y : RecordData). y.block_back) u in
        ⊎_elim
        (λ (z : below ≡ version). absurd (omega arith))
        (λ (t : (y : RecordData) × Contains xs y × (y.number ≡ below)). (t.0, Contains-append_left xs (r ∷ []) t.0 t.1, t.2 ∙ sym (back ∙ at)))
        was.last

-- where each record up to the point is linked and those that are applied are chained, no chain is broken there
none_breaks : (s : State) (page q n : ℕ) (xs : List RecordData) → Lists BeforeByNumber (IsApplied s page q) xs
    → IsChained (version_of s.store page) xs → IsLinkedUpTo s q → ((r : RecordData) → Contains s.held r → r.block_back < r.number)
    → BreaksAt s page q n → ⊥
none_breaks s page q n xs lists chained sure lower h =
    let at = h.breaks.at in
    let linked = on_linked s page q h.first at h.linked h.breaks.on in
    let above : version_of s.store page < at.block_back = h.breaks.above in
    let low : at.block_back < at.number = lower at linked.0 in
    let among = (lists.members at).1 (linked.0, linked.1, linked.3, omega (arith, above, low), linked.4) in
    let t = chained at among h.breaks.follows above in
    let is = (lists.members t.0).0 t.1 in
    h.breaks.nowhere t.0 (is.0, is.1, sure t.0 is.0 is.1 is.4, is.2, is.4) t.2

-- where some of those begin the page from zeros, those from one of them on are enough: each record on the walk is among them
on_chain : (s : State) (page q : ℕ) (xs : List RecordData) (r first : RecordData) → IsApplied s page q r → IsLinkedUpTo s q
    → Lists BeforeByNumber (λ x. IsApplied s page q x × (r.number ≤ x.number)) xs → IsChained (version_of s.store page) xs → IsLinkedOf s page q first
    → ((other : RecordData) → IsLinkedOf s page q other → other.number ≤ first.number) → (t : RecordData) → OnBlockChain s page q first t → Contains xs t
on_chain s page q xs r first applied sure lists chained linked greatest _ start =
    let least : r.number ≤ first.number = greatest r (applied.0, applied.1, sure r applied.0 applied.1 applied.4, applied.2, applied.4) in
    let low : version_of s.store page < r.number = applied.3 in
    (lists.members first).1 ((linked.0, linked.1, linked.3, omega (arith, least, low), linked.4), least)
on_chain s page q xs r first applied sure lists chained linked greatest _ (down m below on follows above l e) =
    let t = chained m (on_chain s page q xs r first applied sure lists chained linked greatest m on) follows above in
    let up : r.number ≤ t.0.number = ((lists.members t.0).0 t.1).1 in
    let same : t.0.number ≡ m.block_back = t.2 in
    let at : below.number ≡ m.block_back = e in
    (lists.members below).1 ((l.0, l.1, l.3, omega (arith, above, at), l.4), omega (arith, up, same, at))

pub none_breaks_anew : (s : State) (page q n : ℕ) (xs : List RecordData) → ListsAnew (IsApplied s page q) xs
    → IsChained (version_of s.store page) xs → IsLinkedUpTo s q → ((r : RecordData) → Contains s.held r → r.block_back < r.number)
    → BreaksAt s page q n → ⊥
none_breaks_anew s page q n xs lists chained sure lower h = ⊎_elim
    (λ (all : Lists BeforeByNumber (IsApplied s page q) xs). none_breaks s page q n xs all chained sure lower h)
    (λ (from : (r : RecordData) × IsApplied s page q r × (r.init ≡ true) × Lists BeforeByNumber (λ x. IsApplied s page q x × (r.number ≤ x.number)) xs).
    let at = h.breaks.at in
    let among = on_chain s page q xs from.0 h.first from.1 sure from.3 chained h.linked h.greatest at h.breaks.on in
    let t = chained at among h.breaks.follows h.breaks.above in
    let is = ((from.3.members t.0).0 t.1).0 in
    h.breaks.nowhere t.0 (is.0, is.1, sure t.0 is.0 is.1 is.4, is.2, is.4) t.2)
    lists
