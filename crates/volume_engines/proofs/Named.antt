-- The engine of a run has the name of each plan of its life, since these come in order.
use Rattle.std.proofs.Common.{◌≡◌, ℕ, zero, suc, ◌<◌, ◌⊎◌, ⊎_elim, inl, inr, Bool, true, false, refl, sym, ◌∙◌, subst, ap, arith}
use Rattle.volume.specs.declared.phases.Phase.{Phase}
use Rattle.volume.specs.declared.phases.Phase.TheVariants as phase
use Rattle.volume.specs.declared.phases.Stage.{Stage}
use Rattle.volume.specs.declared.phases.Stage.TheVariants as stage
use Rattle.volume.specs.declared.plans.CutPlan.{CutPlan}
use Rattle.volume_theorems.specs.Runs.{Engine}
use Rattle.volume_engines.specs.Lives.{Life}
use Rattle.volume_engines.specs.Proposed.{IsPlanOf, IsPlanIn, ProposesAt, IsPlanUpTo}
use Rattle.volume_engines.specs.Engines.{IsFirstPlan, IsEngineOf}

-- the engine proposes the plan's truncation, and makes it itself if it is not pending
pub record NamesPlan (plan : CutPlan) (e : Engine) : Type 0 where
  pub cut : e.cuts plan.cut.epoch ≡ plan.cut
  pub pending : plan.is_pending ≡ true → plan.cut.epoch < e.opens
  pub own : plan.is_pending ≡ false → e.opens ≡ plan.cut.epoch

-- ---- the plan of a phase
plan_of_stage : (st : Stage) → ((p : CutPlan) × IsPlanOf st p) ⊎ ((p : CutPlan) → IsPlanOf st p → ⊥)
plan_of_stage (stage.Proposing plan accepted) = inl (plan, refl)
plan_of_stage other = inr (λ p is. absurd is)

pub plan_in_phase : (ph : Phase) → ((p : CutPlan) × IsPlanIn ph p) ⊎ ((p : CutPlan) → IsPlanIn ph p → ⊥)
plan_in_phase (phase.Opening o) = plan_of_stage o.stage
plan_in_phase other = inr (λ p is. absurd is)

one_of_stage : (st : Stage) (p q : CutPlan) → IsPlanOf st p → IsPlanOf st q → p ≡ q
one_of_stage (stage.Proposing plan accepted) p q one two = sym one ∙ two
one_of_stage other p q one two = absurd one

pub one_in_phase : (ph : Phase) (p q : CutPlan) → IsPlanIn ph p → IsPlanIn ph q → p ≡ q
one_in_phase (phase.Opening o) p q one two = one_of_stage o.stage p q one two
one_in_phase other p q one two = absurd one

pub epoch_or_not : (k : ℕ) (p : CutPlan) → (p.cut.epoch ≡ k) ⊎ (p.cut.epoch ≡ k → ⊥)
epoch_or_not k p = let m : ℕ = p.cut.epoch in let way : (m ≡ k) ⊎ (m ≡ k → ⊥) = grind arith in way

pub own_or_pending : (b : Bool) → (b ≡ false) ⊎ (b ≡ true)
own_or_pending false = inl refl
own_or_pending true = inr refl

pub own_or_not : (b : Bool) → (b ≡ false) ⊎ (b ≡ false → ⊥)
own_or_not b = ⊎_elim
    (λ (own : b ≡ false). inl own)
    (λ (pending : b ≡ true). inr (λ own. let clash : true ≡ false = sym pending ∙ own in cc))
    (own_or_pending b)

not_own : (b : Bool) → (b ≡ false → ⊥) → b ≡ true
not_own b none = ⊎_elim (λ (own : b ≡ false). absurd (none own)) (λ (pending : b ≡ true). pending) (own_or_pending b)

-- ---- the first such plan of a life
module _ (life : Life) (IsSuch : CutPlan → Type 0) (test : (p : CutPlan) → IsSuch p ⊎ (IsSuch p → ⊥)) where
  abbrev pub HasFirst : ℕ → Type 0
  HasFirst n = (m : ℕ) × (p : CutPlan) × (m < n) × IsFirstPlan life IsSuch m p

  abbrev pub HasNone : ℕ → Type 0
  HasNone n = (m : ℕ) (p : CutPlan) → m < n → ProposesAt life m p → IsSuch p → ⊥

  -- none before the last step, and this is one or not
  at_last : (n : ℕ) → HasNone n → HasFirst (suc n) ⊎ HasNone (suc n)
  at_last n none =
      let with_last : ((p : CutPlan) → ProposesAt life n p → IsSuch p → ⊥) → HasNone (suc n) = λ last m p low at such.
      ⊎_elim
      (λ (now : m ≡ n). last p (subst (λ (x : ℕ). ProposesAt life x p) now at) such)
      (λ (early : m < n). none m p early at such)
      (let way : (m ≡ n) ⊎ (m < n) = grind (arith, low) in way) in
      ⊎_elim
      (λ (has : (p : CutPlan) × ProposesAt life n p). ⊎_elim
      (λ (yes : IsSuch has.0). inl (n, has.0, omega arith, record { proposed = has.1; such = yes; first = λ m p low at such. none m p low at such }))
      (λ (no : IsSuch has.0 → ⊥).
      inr (with_last (λ p at such. no (subst IsSuch (one_in_phase (life.states (suc n)).phase p has.0 at has.1) such))))
      (test has.0))
      (λ (without : (p : CutPlan) → ProposesAt life n p → ⊥). inr (with_last (λ p at such. without p at)))
      (plan_in_phase (life.states (suc n)).phase)

  pub first_before : (n : ℕ) → HasFirst n ⊎ HasNone n
  first_before zero = inr (λ m p low at such. absurd (omega arith))
  first_before (suc n) = ⊎_elim
      (λ (has : HasFirst n). let m : ℕ = has.0 in let low : m < n = has.2 in inl (m, has.1, omega arith, has.3))
      (λ (none : HasNone n). at_last n none)
      (first_before n)

module _ (life : Life) (count : ℕ) (e : Engine) (is : IsEngineOf life count e)
    (in_order : (m n : ℕ) (old plan : CutPlan) → m < n → n < count → ProposesAt life m old → ProposesAt life n plan → IsPlanUpTo old plan)
    (n : ℕ) (plan : CutPlan) (step : n < count) (now : ProposesAt life n plan) where
  -- the same plan, or one that is behind it
  up_to_now : (m : ℕ) (p : CutPlan) → m < suc n → ProposesAt life m p → IsPlanUpTo p plan
  up_to_now m p low at = ⊎_elim
      (λ (same : m ≡ n). inl (one_in_phase (life.states (suc n)).phase p plan (subst (λ (x : ℕ). ProposesAt life x p) same at) now))
      (λ (early : m < n). in_order m n p plan early step at now)
      (let way : (m ≡ n) ⊎ (m < n) = grind (arith, low) in way)

  cut_named : e.cuts plan.cut.epoch ≡ plan.cut
  cut_named = ⊎_elim
      (λ has.
      let m : ℕ = has.0 in
      let p : CutPlan = has.1 in
      let low : m < suc n = has.2 in
      let such : p.cut.epoch ≡ plan.cut.epoch = has.3.such in
      let named : e.cuts p.cut.epoch ≡ p.cut = is.cuts m p (omega arith)
      (record {
        proposed = has.3.proposed;
        such = refl;
        first = λ x other early at same. has.3.first x other early at (same ∙ such);
      }) in
      let same : p ≡ plan = ⊎_elim
      (λ (one : p ≡ plan). one)
      (λ (before : (p.is_pending ≡ true) × (p.cut.epoch < plan.cut.epoch)). let under : p.cut.epoch < plan.cut.epoch = before.1 in absurd (omega arith))
      (up_to_now m p low has.3.proposed) in
      subst (λ (q : CutPlan). e.cuts q.cut.epoch ≡ q.cut) same named)
      (λ none. absurd (none n plan (omega arith) now refl))
      (first_before life (λ p. p.cut.epoch ≡ plan.cut.epoch) (epoch_or_not plan.cut.epoch) (suc n))

  own_named : plan.is_pending ≡ false → e.opens ≡ plan.cut.epoch
  own_named own = ⊎_elim
      (λ has.
      let m : ℕ = has.0 in
      let p : CutPlan = has.1 in
      let low : m < suc n = has.2 in
      let named : e.opens ≡ p.cut.epoch = is.opens m p (omega arith) has.3 in
      let same : p ≡ plan = ⊎_elim
      (λ (one : p ≡ plan). one)
      (λ (before : (p.is_pending ≡ true) × (p.cut.epoch < plan.cut.epoch)). let no : true ≡ false = sym before.0 ∙ has.3.such in absurd (cc))
      (up_to_now m p low has.3.proposed) in
      named ∙ ap (λ (q : CutPlan). q.cut.epoch) same)
      (λ none. absurd (none n plan (omega arith) now own))
      (first_before life (λ p. p.is_pending ≡ false) (λ p. own_or_not p.is_pending) (suc n))

  -- the engine's own one comes later, if it comes
  own_later : plan.is_pending ≡ true → (m : ℕ) (p : CutPlan) → m < count → IsFirstPlan life (λ p. p.is_pending ≡ false) m p → plan.cut.epoch < e.opens
  own_later pending m p within first =
      let named : e.opens ≡ p.cut.epoch = is.opens m p within first in
      let apart : p ≡ plan → ⊥ = λ same.
      let no : false ≡ true = sym first.such ∙ (ap (λ (q : CutPlan). q.is_pending) same ∙ pending) in absurd (cc) in
      ⊎_elim
      (λ (early : m < suc n). ⊎_elim
      (λ (one : p ≡ plan). absurd (apart one))
      (λ (before : (p.is_pending ≡ true) × (p.cut.epoch < plan.cut.epoch)). let no : true ≡ false = sym before.0 ∙ first.such in absurd (cc))
      (up_to_now m p early first.proposed))
      (λ (late : n < m). ⊎_elim
      (λ (one : plan ≡ p). absurd (apart (sym one)))
      (λ (before : (plan.is_pending ≡ true) × (plan.cut.epoch < p.cut.epoch)). let under : plan.cut.epoch < p.cut.epoch = before.1 in omega arith)
      (in_order n m plan p late within now first.proposed))
      (let way : (m < suc n) ⊎ (n < m) = grind arith in way)

  pending_named : plan.is_pending ≡ true → plan.cut.epoch < e.opens
  pending_named pending = ⊎_elim
      (λ has. own_later pending has.0 has.1 has.2 has.3)
      (λ none. is.above (λ m p low at. not_own p.is_pending (none m p low at)) n plan step now)
      (first_before life (λ p. p.is_pending ≡ false) (λ p. own_or_not p.is_pending) count)

  pub names_plan : NamesPlan plan e
  names_plan = record { cut = cut_named; pending = pending_named; own = own_named }
