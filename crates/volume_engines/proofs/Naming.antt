-- Each life names an engine.
use Rattle.std.proofs.Common.{◌≡◌, ℕ, zero, suc, ◌+◌, ◌<◌, ◌⊎◌, ⊎_elim, inl, inr, Bool, true, false, refl, sym, ◌∙◌, subst, ap, arith}
use Rattle.redo_core.specs.Data.{CutData, cut_of}
use Rattle.volume.specs.declared.fencing.Fencing.{Fencing}
use Rattle.volume.specs.declared.phases.Opening.{Opening}
use Rattle.volume.specs.declared.phases.Phase.{Phase}
use Rattle.volume.specs.declared.phases.Phase.TheVariants as phase
use Rattle.volume.specs.declared.plans.CutPlan.{CutPlan}
use Rattle.volume.specs.Sets.{is_marked}
use Rattle.volume_theorems.specs.Runs.{VolumeRun, Engine}
use Rattle.volume_engines.specs.Lives.{Life, Guards, IsLife}
use Rattle.volume_engines.specs.Proposed.{ProposesAt}
use Rattle.volume_engines.specs.Engines.{fenced_by, Gathers, IsFirstPlan, AreAllPending, IsEngineOf, LivesNameEngines, NamesHoldBefore}
use Rattle.volume_engines.proofs.OrderedSteps.{HasGatheredAt, gathered_once, plans_in_order}
use Rattle.volume_engines.proofs.Named.{HasFirst, HasNone, first_before, epoch_or_not, own_or_not, one_in_phase, plan_in_phase, names_plan}

-- ---- the step that gathers a quorum
fencing_or_not : (ph : Phase) → ((f : Fencing) × (ph ≡ phase.Fencing f)) ⊎ ((f : Fencing) → ph ≡ phase.Fencing f → ⊥)
fencing_or_not phase.Idle = inr (λ f is. absurd (cc))
fencing_or_not (phase.Creating c) = inr (λ f is. absurd (cc))
fencing_or_not (phase.Fencing f) = inl (f, refl)
fencing_or_not (phase.Opening o) = inr (λ f is. absurd (cc))
fencing_or_not (phase.Open w) = inr (λ f is. absurd (cc))

opening_or_not : (ph : Phase) → ((o : Opening) × (ph ≡ phase.Opening o)) ⊎ ((o : Opening) → ph ≡ phase.Opening o → ⊥)
opening_or_not phase.Idle = inr (λ o is. absurd (cc))
opening_or_not (phase.Creating c) = inr (λ o is. absurd (cc))
opening_or_not (phase.Fencing f) = inr (λ o is. absurd (cc))
opening_or_not (phase.Opening o) = inl (o, refl)
opening_or_not (phase.Open w) = inr (λ o is. absurd (cc))

same_opening : (a b : Opening) → phase.Opening a ≡ phase.Opening b → a ≡ b
same_opening a b same = cc

module _ (life : Life) (count : ℕ) where
  -- ---- the truncations
  abbrev IsFor : ℕ → CutPlan → Type 0
  IsFor k p = p.cut.epoch ≡ k

  abbrev IsOwnPlan : CutPlan → Type 0
  IsOwnPlan p = p.is_pending ≡ false

  own_plan_or_not : (p : CutPlan) → IsOwnPlan p ⊎ (IsOwnPlan p → ⊥)
  own_plan_or_not p = own_or_not p.is_pending

  -- two steps that are both the first are one
  one_first : (IsSuch : CutPlan → Type 0) (m n : ℕ) (p q : CutPlan) → IsFirstPlan life IsSuch m p → IsFirstPlan life IsSuch n q → p ≡ q
  one_first IsSuch m n p q one two = ⊎_elim
      (λ (early : m < n). absurd (two.first m p early one.proposed one.such))
      (λ (rest : (n < m) ⊎ (m ≡ n)). ⊎_elim
      (λ (late : n < m). absurd (one.first n q late two.proposed two.such))
      (λ (same : m ≡ n). one_in_phase (life.states (suc n)).phase p q (subst (λ (x : ℕ). ProposesAt life x p) same one.proposed) two.proposed)
      rest)
      (let way : (m < n) ⊎ ((n < m) ⊎ (m ≡ n)) = grind arith in way)

  abbrev ForEpoch : ℕ → Type 0
  ForEpoch k = HasFirst life (IsFor k) (epoch_or_not k) count ⊎ HasNone life (IsFor k) (epoch_or_not k) count

  abbrev cut_found : (k : ℕ) → ForEpoch k → CutData
  cut_found k (inl has) = has.1.cut
  cut_found k (inr none) = cut_of k 0 0

  cut_is : (k n : ℕ) (plan : CutPlan) (x : ForEpoch k) → n < count → IsFirstPlan life (IsFor k) n plan → cut_found k x ≡ plan.cut
  cut_is k n plan (inl has) step first = ap (λ (p : CutPlan). p.cut) (one_first (IsFor k) has.0 n has.1 plan has.3 first)
  cut_is k n plan (inr none) step first = absurd (none n plan step first.proposed first.such)

  -- an epoch above those of all that the first steps propose
  abbrev IsAbove : ℕ → ℕ → Type 0
  IsAbove n k = (m : ℕ) (p : CutPlan) → m < n → ProposesAt life m p → p.cut.epoch < k

  above_last : (n k : ℕ) (q : CutPlan) → IsAbove n k → ProposesAt life n q → IsAbove (suc n) (suc (k + q.cut.epoch))
  above_last n k q above at m p low here = ⊎_elim
      (λ (now : m ≡ n).
      let same : p ≡ q = one_in_phase (life.states (suc n)).phase p q (subst (λ (x : ℕ). ProposesAt life x p) now here) at in
      let epochs : p.cut.epoch ≡ q.cut.epoch = ap (λ (x : CutPlan). x.cut.epoch) same in
      let under : p.cut.epoch < suc (k + q.cut.epoch) = omega arith in
      under)
      (λ (early : m < n).
      let low : p.cut.epoch < k = above m p early here in
      let under : p.cut.epoch < suc (k + q.cut.epoch) = omega arith in
      under)
      (let way : (m ≡ n) ⊎ (m < n) = grind (arith, low) in way)

  above_none : (n k : ℕ) → IsAbove n k → ((q : CutPlan) → ProposesAt life n q → ⊥) → IsAbove (suc n) k
  above_none n k above none m p low here = ⊎_elim
      (λ (now : m ≡ n). absurd (none p (subst (λ (x : ℕ). ProposesAt life x p) now here)))
      (λ (early : m < n). above m p early here)
      (let way : (m ≡ n) ⊎ (m < n) = grind (arith, low) in way)

  some_above : (n : ℕ) → (k : ℕ) × IsAbove n k
  some_above zero = (0, λ m p low at. absurd (omega arith))
  some_above (suc n) =
      let rest : (k : ℕ) × IsAbove n k = some_above n in
      ⊎_elim
      (λ (has : (p : CutPlan) × ProposesAt life n p). (suc (rest.0 + has.0.cut.epoch), above_last n rest.0 has.0 rest.1 has.1))
      (λ (none : (p : CutPlan) → ProposesAt life n p → ⊥). (rest.0, above_none n rest.0 rest.1 none))
      (plan_in_phase (life.states (suc n)).phase)

  abbrev ForOwn : Type 0
  ForOwn = HasFirst life IsOwnPlan own_plan_or_not count ⊎ HasNone life IsOwnPlan own_plan_or_not count

  abbrev opens_found : ForOwn → ℕ
  opens_found (inl has) = has.1.cut.epoch
  opens_found (inr none) = (some_above count).0

  opens_is : (n : ℕ) (plan : CutPlan) (x : ForOwn) → n < count → IsFirstPlan life IsOwnPlan n plan → opens_found x ≡ plan.cut.epoch
  opens_is n plan (inl has) step first = ap (λ (p : CutPlan). p.cut.epoch) (one_first IsOwnPlan has.0 n has.1 plan has.3 first)
  opens_is n plan (inr none) step first = absurd (none n plan step first.proposed first.such)

  opens_above : (x : ForOwn) → AreAllPending life count → (n : ℕ) (plan : CutPlan) → n < count → ProposesAt life n plan → plan.cut.epoch < opens_found x
  opens_above (inl has) pending n plan step at =
      let no : true ≡ false = sym (pending has.0 has.1 has.2 has.3.proposed) ∙ has.3.such in absurd (cc)
  opens_above (inr none) pending n plan step at = (some_above count).1 n plan step at

  -- ---- the engine
  abbrev engine_as : (ℕ → Bool) → (ℕ → ℕ) → ℕ → Engine
  engine_as quorum fenced gathered = record {
    generation = life.generation;
    quorum = quorum;
    fenced = fenced;
    gathered = gathered;
    cuts = λ k. cut_found k (first_before life (IsFor k) (epoch_or_not k) count);
    opens = opens_found (first_before life IsOwnPlan own_plan_or_not count);
  }

  named_as : (quorum : ℕ → Bool) (fenced : ℕ → ℕ) (gathered : ℕ)
      → ((n : ℕ) (f : Fencing) (o : Opening) → n < count → (life.states n).phase ≡ phase.Fencing f → (life.states (suc n)).phase ≡ phase.Opening o
      → Gathers life n o (engine_as quorum fenced gathered))
      → IsEngineOf life count (engine_as quorum fenced gathered)
  named_as quorum fenced gathered gathers = record {
    generation = refl;
    gathers = gathers;
    cuts = λ n plan step first.
        cut_is plan.cut.epoch n plan (first_before life (IsFor plan.cut.epoch) (epoch_or_not plan.cut.epoch) count) step first;
    opens = λ n plan step first. opens_is n plan (first_before life IsOwnPlan own_plan_or_not count) step first;
    above = opens_above (first_before life IsOwnPlan own_plan_or_not count);
  }

module _ (run : VolumeRun) (guards : Guards) (e : ℕ) (life : Life) (count : ℕ) (is : IsLife run guards e life count) where
  abbrev GathersAt : ℕ → Type 0
  GathersAt n = HasGatheredAt run guards e life count is n

  gathers_at_or_not : (n : ℕ) → GathersAt n ⊎ (GathersAt n → ⊥)
  gathers_at_or_not n = ⊎_elim
      (λ (f : (f : Fencing) × ((life.states n).phase ≡ phase.Fencing f)). ⊎_elim
      (λ (o : (o : Opening) × ((life.states (suc n)).phase ≡ phase.Opening o)). inl (f, o))
      (λ (no : (o : Opening) → (life.states (suc n)).phase ≡ phase.Opening o → ⊥). inr (λ at. no at.1.0 at.1.1))
      (opening_or_not (life.states (suc n)).phase))
      (λ (no : (f : Fencing) → (life.states n).phase ≡ phase.Fencing f → ⊥). inr (λ at. no at.0.0 at.0.1))
      (fencing_or_not (life.states n).phase)

  abbrev Found : ℕ → Type 0
  Found n = ((m : ℕ) × (m < n) × GathersAt m) ⊎ ((m : ℕ) → m < n → GathersAt m → ⊥)

  find_gathering : (n : ℕ) → Found n
  find_gathering zero = inr (λ m low at. absurd (omega arith))
  find_gathering (suc n) = ⊎_elim
      (λ (has : (m : ℕ) × (m < n) × GathersAt m). let m : ℕ = has.0 in let low : m < n = has.1 in inl (m, omega arith, has.2))
      (λ (none : (m : ℕ) → m < n → GathersAt m → ⊥). ⊎_elim
      (λ (at : GathersAt n). inl (n, omega arith, at))
      (λ (no : GathersAt n → ⊥). inr (λ m low at. ⊎_elim
      (λ (now : m ≡ n). no (subst (λ (x : ℕ). GathersAt x) now at))
      (λ (early : m < n). none m early at)
      (let way : (m ≡ n) ⊎ (m < n) = grind (arith, low) in way)))
      (gathers_at_or_not n))
      (find_gathering n)

  engine_named : Found count → (engine : Engine) × IsEngineOf life count engine
  engine_named (inl has) =
      let m : ℕ = has.0 in
      let own : Opening = has.2.1.0 in
      let engine : Engine = engine_as life count (λ i. is_marked own.session.quorum i) (λ i. fenced_by life (suc m) i) (life.moments m) in
      let first : Gathers life m own engine = record { gathered = refl; quorum = λ i. refl; fenced = λ i. refl } in (
        engine,
        named_as life count (λ i. is_marked own.session.quorum i) (λ i. fenced_by life (suc m) i) (life.moments m)
            (λ n f o step from to.
            let same : m ≡ n = gathered_once run guards e life count is m n has.1 step has.2 ((f, from), (o, to)) in
            let opening : own ≡ o = same_opening own o (sym has.2.1.1 ∙ (ap (λ (x : ℕ). (life.states (suc x)).phase) same ∙ to)) in
            subst (λ (x : Opening). Gathers life n x engine) opening (subst (λ (x : ℕ). Gathers life x own engine) same first)),
      )
  engine_named (inr none) = (
    engine_as life count (λ i. false) (λ i. 0) 0,
    named_as life count (λ i. false) (λ i. 0) 0 (λ n f o step from to. absurd (none n step ((f, from), (o, to)))),
  )

pub lives_name_engines : LivesNameEngines
lives_name_engines run guards e life count is = engine_named run guards e life count is (find_gathering run guards e life count is count)

pub names_hold_before : NamesHoldBefore
names_hold_before run guards e life count fewer engine is names low = record {
  generation = names.generation;
  gathers = λ n f o step. names.gathers n f o (let within : n < count = omega (arith, step, low) in within);
  cuts = λ n plan step first. names.cuts n plan (let within : n < count = omega (arith, step, low) in within) first;
  opens = λ n plan step first. names.opens n plan (let within : n < count = omega (arith, step, low) in within) first;
  above = λ pending n plan step at.
      (names_plan life count engine names (plans_in_order run guards e life count is) n plan
      (let within : n < count = omega (arith, step, low) in within) at).pending (pending n plan step at);
}
