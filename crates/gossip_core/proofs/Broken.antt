-- What a reply with pages reports of broken block chains.
use Rattle.std.proofs.Common.{◌≡◌, ℕ, ◌↔◌, Option, Some, Result, Err, ap, subst}
use Rattle.segment_theorems.specs.State.{State}
use Rattle.segment_core.specs.Forgetting.{IsWhole, IsFirstBreak}
use Rattle.segment_core.specs.declared.answers.ReadFault.{ReadFault}
use Rattle.segment_core.specs.declared.answers.ReadFault.TheVariants.{BrokenBlockChain}
use Rattle.segment_core.proofs.FirstBreak.{ReportsFirst}

-- a broken chain is reported exactly where there is one, and then of the least page
abbrev pub ReportsBreak : (D : Type 0) → State → Result D ReadFault → Type 0
ReportsBreak D s result = (page n : ℕ) → (result ≡ Err (BrokenBlockChain page n)) ↔ IsFirstBreak s page n

one_first : (s : State) (x : ℕ × ℕ) (g n : ℕ) → IsFirstBreak s x.0 x.1 → x.0 ≡ g → x.1 ≡ n → IsFirstBreak s g n
one_first s x g n first a b = subst (λ m. IsFirstBreak s m n) a (subst (λ m. IsFirstBreak s x.0 m) b first)

pub tells_first : {D : Type 0} (s : State) (found : Option (ℕ × ℕ)) (x : ℕ × ℕ) → found ≡ Some x → ReportsFirst s found
    → ReportsBreak D s (Err (BrokenBlockChain x.0 x.1))
tells_first s found x is first g n =
    let y : ℕ × ℕ = (g, n) in (
      λ (e : Err (BrokenBlockChain x.0 x.1) ≡ Err (BrokenBlockChain g n)).
          let a : x.0 ≡ g = cc in
          let b : x.1 ≡ n = cc in
          one_first s x g n ((first x.0 x.1).0 is) a b,
      λ h.
          let e : found ≡ Some y = (first g n).1 h in
          let p : x ≡ y = cc in
          ap (λ (z : ℕ × ℕ). Err (BrokenBlockChain z.0 z.1)) p,
    )

pub tells_whole : {D : Type 0} (s : State) (result : Result D ReadFault) → IsWhole s → ((g n : ℕ) → result ≡ Err (BrokenBlockChain g n) → ⊥)
    → ReportsBreak D s result
tells_whole s result whole not g n = (λ e. absurd (not g n e), λ h. absurd (whole g n h.breaks))
