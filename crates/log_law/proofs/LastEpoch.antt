-- The greatest epoch of a truncation, fact by fact.
use Rattle.std.proofs.Common.{◌≡◌, ℕ, ◌+◌, ◌<◌, ◌≤◌, ◌⊎◌, inl, inr, ⊎_elim, List, [], length, get_or, take, max, refl, sym, ◌∙◌, subst, arith}
use Rattle.std.specs.List.{Contains}
use Rattle.redo_core.specs.Data.{CutData}
use Rattle.redo_core.specs.Sets.{cuts}
use Rattle.redo_core.specs.Order.{IsGreatest}
use Rattle.redo_core.specs.CompleteEpoch.{HasCut}
use Rattle.redo_core.specs.declared.facts.Fact.{Fact}
use Rattle.redo_core.specs.declared.facts.Fact.TheVariants.{Cut}
use Rattle.redo_core.proofs.Members.{none_in}
use Rattle.redo_core.proofs.FactParts.{cut_in}
use Rattle.redo_core.proofs.Rising.{front_to, up_to, take_grows}

pub no_epoch : IsGreatest (HasCut (cuts [])) 0
no_epoch = (inl refl, λ m h. absurd (none_in (Cut h.0) ((cut_in [] h.0).0 h.1)))

has_more : (facts : List Fact) (i m : ℕ) → HasCut (cuts (take i facts)) m → HasCut (cuts (take (i + 1) facts)) m
has_more facts i m h = (h.0, (cut_in (take (i + 1) facts) h.0).1 (take_grows facts i (Cut h.0) ((cut_in (take i facts) h.0).0 h.1)), h.2)

pub epoch_more : (facts : List Fact) (i : ℕ) (f : Fact) (c : CutData) (last new : ℕ) → i < length facts → f ≡ get_or facts i f → f ≡ Cut c
    → IsGreatest (HasCut (cuts (take i facts))) last → new ≡ max c.epoch last → IsGreatest (HasCut (cuts (take (i + 1) facts))) new
epoch_more facts i f c last new l at is g top = (
  ⊎_elim
      (λ (q : new ≡ last). ⊎_elim (λ (z : last ≡ 0). inl (q ∙ z)) (λ h. inr (subst (HasCut (cuts (take (i + 1) facts))) (sym q) (has_more facts i last h))) g.0)
      (λ (q : c.epoch ≡ new). inr (c, (cut_in (take (i + 1) facts) c).1 (subst (Contains (take (i + 1) facts)) is (up_to facts i f l at)), q))
      (let t : (new ≡ last) ⊎ (c.epoch ≡ new) = grind (arith, top) in t),
  λ m h. ⊎_elim
      (λ (q : f ≡ Cut h.0). let same : Cut c ≡ Cut h.0 = sym is ∙ q in let e : c ≡ h.0 = cc in
      let own : c.epoch ≡ m = subst (λ d. d.epoch ≡ m) (sym e) h.2 in omega (arith, own, top))
      (λ (q : Contains (take i facts) (Cut h.0)). let b : m ≤ last = g.1 m (h.0, (cut_in (take i facts) h.0).1 q, h.2) in omega (arith, b, top))
      (front_to facts i f (Cut h.0) l at ((cut_in (take (i + 1) facts) h.0).0 h.1)),
)

pub epoch_other : (facts : List Fact) (i : ℕ) (f : Fact) (last : ℕ) → i < length facts → f ≡ get_or facts i f → ((c : CutData) → f ≡ Cut c → ⊥)
    → IsGreatest (HasCut (cuts (take i facts))) last → IsGreatest (HasCut (cuts (take (i + 1) facts))) last
epoch_other facts i f last l at off g = (
  ⊎_elim (λ (z : last ≡ 0). inl z) (λ h. inr (has_more facts i last h)) g.0,
  λ m h. ⊎_elim
      (λ (q : f ≡ Cut h.0). absurd (off h.0 q))
      (λ (q : Contains (take i facts) (Cut h.0)). g.1 m (h.0, (cut_in (take i facts) h.0).1 q, h.2))
      (front_to facts i f (Cut h.0) l at ((cut_in (take (i + 1) facts) h.0).0 h.1)),
)
