-- Which facts a state exports.
use Rattle.std.proofs.Common.{◌≡◌, ℕ, zero, suc, ◌+◌, ◌-◌, ◌<◌, ◌≤◌, ◌⊎◌, ◌↔◌, inl, inr, ⊎_elim, List, [], ◌∷◌, ◌++◌, length, get_or, map, refl, sym, ap, ◌∙◌, subst, arith, rules}
use Rattle.std.proofs.lemmas.Grind.{common_steps}
use Rattle.std.specs.List.{Contains}
use Rattle.std.proofs.lemmas.List.Elements.{Contains-append_left, Contains-append_right, Contains-append_cases}
use Rattle.redo_core.specs.Data.{RecordData, CutData, AdvanceData, advance_of}
use Rattle.redo_core.specs.Roster.{IsReader, point_of}
use Rattle.redo_core.specs.Book.{BookData}
use Rattle.redo_core.specs.declared.facts.Fact.{Fact}
use Rattle.redo_core.specs.declared.facts.Fact.TheVariants.{Record, Cut, Advance}
use Rattle.redo_core.proofs.Members.{none_in, here, there, which}
use Rattle.log_theorems.proofs.Meanings.{in_map, from_map}
use Rattle.segment_theorems.specs.State.{State}
use Rattle.segment_theorems.specs.HasMeaning.{IsKeptBy}
use Rattle.segment_core.specs.Exported.{point_facts, exported_facts, AreExported}

-- the advance is a reader's point in the epoch
pub record IsPointIn (epoch : ℕ) (points : List ℕ) (a : AdvanceData) : Type 0 where
  pub epoch_is : a.epoch ≡ epoch
  pub reader : IsReader (length points) a.reader
  pub point_is : a.point ≡ point_of points a.reader
  pub above : 1 ≤ a.point

-- ---- points
-- the advance of the reader at an index, where readers are numbered from `from`
record StandsAt (epoch from : ℕ) (points : List ℕ) (a : AdvanceData) (i : ℕ) : Type 0 where
  within : i < length points
  epoch_is : a.epoch ≡ epoch
  reader_is : a.reader ≡ from + i
  point_is : a.point ≡ get_or points i 0
  above : 1 ≤ a.point

-- a point above 0 makes an advance
above_zero : (epoch from p : ℕ) (points : List ℕ)
    → point_facts epoch from (suc p ∷ points) ≡ Advance (advance_of epoch from (suc p)) ∷ point_facts epoch (suc from) points
above_zero epoch from p points = search rules

-- one index on, where a point is added at the head
next_place : (epoch from p : ℕ) (points : List ℕ) (a : AdvanceData) (i : ℕ) → StandsAt epoch (suc from) points a i → StandsAt epoch from (p ∷ points) a (suc i)
next_place epoch from p points a i at = omega arith

is_told : (epoch from : ℕ) (points : List ℕ) (fact : Fact) → Contains (point_facts epoch from points) fact
    → (a : AdvanceData) × (fact ≡ Advance a) × ((i : ℕ) × StandsAt epoch from points a i)
is_told epoch from [] fact h = absurd (none_in fact h)
is_told epoch from (zero ∷ points) fact h =
    let t = is_told epoch (suc from) points fact h in
    (t.0, t.1, (suc t.2.0, next_place epoch from zero points t.0 t.2.0 t.2.1))
is_told epoch from (suc p ∷ points) fact h =
    ⊎_elim
    (λ (e : Advance (advance_of epoch from (suc p)) ≡ fact). (
      advance_of epoch from (suc p),
      sym e,
      (0, record { within = omega arith; epoch_is = refl; reader_is = omega arith; point_is = refl; above = omega arith }),
    ))
    (λ (x : Contains (point_facts epoch (suc from) points) fact).
    let t = is_told epoch (suc from) points fact x in
    (t.0, t.1, (suc t.2.0, next_place epoch from (suc p) points t.0 t.2.0 t.2.1)))
    (which (Advance (advance_of epoch from (suc p))) (point_facts epoch (suc from) points) fact
    (subst (λ fs. Contains fs fact) (above_zero epoch from p points) h))

tells_at : (epoch from : ℕ) (points : List ℕ) (i : ℕ) → i < length points → 1 ≤ get_or points i 0
    → Contains (point_facts epoch from points) (Advance (advance_of epoch (from + i) (get_or points i 0)))
tells_at epoch from [] i lt up = absurd (omega (arith, lt))
tells_at epoch from (zero ∷ points) zero lt up = absurd (omega (arith, up))
tells_at epoch from (zero ∷ points) (suc i) lt up =
    let e : suc from + i ≡ from + suc i = omega arith in
    subst (λ n. Contains (point_facts epoch (suc from) points)
    (Advance (advance_of epoch n (get_or points i 0)))) e (tells_at epoch (suc from) points i (omega (arith, lt)) up)
tells_at epoch from (suc p ∷ points) zero lt up =
    let e : from ≡ from + 0 = omega arith in
    subst (λ n. Contains (point_facts epoch from (suc p ∷ points)) (Advance (advance_of epoch n (suc p)))) e
    (subst (λ fs. Contains fs (Advance (advance_of epoch from (suc p)))) (sym (above_zero epoch from p points))
    (here (Advance (advance_of epoch from (suc p))) (point_facts epoch (suc from) points)))
tells_at epoch from (suc p ∷ points) (suc i) lt up =
    let e : suc from + i ≡ from + suc i = omega arith in
    let own : Fact = Advance (advance_of epoch (from + suc i) (get_or points i 0)) in
    subst (λ fs. Contains fs own) (sym (above_zero epoch from p points))
    (there (Advance (advance_of epoch from (suc p))) (point_facts epoch (suc from) points) own
    (subst (λ n. Contains (point_facts epoch (suc from) points) (Advance (advance_of epoch n (get_or points i 0)))) e
    (tells_at epoch (suc from) points i (omega (arith, lt)) up)))

pub point_advance : (epoch : ℕ) (points : List ℕ) (a : AdvanceData) → Contains (point_facts epoch 1 points) (Advance a) ↔ IsPointIn epoch points a
point_advance epoch points a = (λ h. from_told (is_told epoch 1 points (Advance a) h), to_told)
  where
    from_told : (b : AdvanceData) × (Advance a ≡ Advance b) × ((i : ℕ) × StandsAt epoch 1 points b i) → IsPointIn epoch points a
    from_told t =
        let e : a ≡ t.0 = let x : Advance a ≡ Advance t.0 = t.1 in cc in
        let at = t.2.1 in
        let place : t.0.reader - 1 ≡ t.2.0 = omega (arith, at.reader_is) in
        subst (IsPointIn epoch points) (sym e) (record {
          epoch_is = at.epoch_is;
          reader = (omega (arith, at.reader_is), omega (arith, at.reader_is, at.within));
          point_is = at.point_is ∙ ap (λ i. get_or points i 0) (sym place);
          above = at.above;
        })

    to_told : IsPointIn epoch points a → Contains (point_facts epoch 1 points) (Advance a)
    to_told at =
        let low : 1 ≤ a.reader = at.reader.0 in
        let high : a.reader ≤ length points = at.reader.1 in
        let place : 1 + (a.reader - 1) ≡ a.reader = omega arith in
        let up : 1 ≤ get_or points (a.reader - 1) 0 = subst (λ n. 1 ≤ n) at.point_is at.above in
        let own : advance_of epoch (1 + (a.reader - 1)) (get_or points (a.reader - 1) 0) ≡ a = same place (sym at.epoch_is) (sym at.point_is) in
        subst (λ b. Contains (point_facts epoch 1 points) (Advance b)) own (tells_at epoch 1 points (a.reader - 1) (omega (arith, low, high)) up)
      where
        same : {e r p : ℕ} → r ≡ a.reader → e ≡ a.epoch → p ≡ a.point → advance_of e r p ≡ a
        same x y z = let t : advance_of _ _ _ ≡ advance_of a.epoch a.reader a.point = cc in t

no_cut_of_points : (epoch : ℕ) (points : List ℕ) (c : CutData) → Contains (point_facts epoch 1 points) (Cut c) → ⊥
no_cut_of_points epoch points c h = let t = is_told epoch 1 points (Cut c) h in let e : Cut c ≡ Advance t.0 = t.1 in cc

no_record_of_points : (epoch : ℕ) (points : List ℕ) (r : RecordData) → Contains (point_facts epoch 1 points) (Record r) → ⊥
no_record_of_points epoch points r h = let t = is_told epoch 1 points (Record r) h in let e : Record r ≡ Advance t.0 = t.1 in cc

-- ---- all of a book, with records
module _ (b : BookData) (told : List RecordData) (facts : List Fact) (is : facts ≡ exported_facts b told) where
  points_of : List Fact
  points_of = point_facts b.complete 1 b.points

  -- of a list of four parts
  cases : (fact : Fact) → Contains facts fact
      → Contains (map Cut b.cuts) fact ⊎ (Contains points_of fact ⊎ (Contains (map Advance b.waits) fact ⊎ Contains (map Record told) fact))
  unfolding points_of
  cases fact h =
      ⊎_elim inl
      (λ (x : Contains (point_facts b.complete 1 b.points ++ (map Advance b.waits ++ map Record told)) fact). inr (⊎_elim inl
      (λ (y : Contains (map Advance b.waits ++ map Record told) fact). inr (Contains-append_cases (map Advance b.waits) (map Record told) fact y))
      (Contains-append_cases (point_facts b.complete 1 b.points) (map Advance b.waits ++ map Record told) fact x)))
      (Contains-append_cases (map Cut b.cuts) (point_facts b.complete 1 b.points ++ (map Advance b.waits ++ map Record told)) fact
      (subst (λ fs. Contains fs fact) is h))

  one_of : (fact : Fact)
      → Contains (map Cut b.cuts) fact ⊎ (Contains points_of fact ⊎ (Contains (map Advance b.waits) fact ⊎ Contains (map Record told) fact))
      → Contains facts fact
  unfolding points_of
  one_of fact h =
      let waits = map Advance b.waits in
      let kept = map Record told in
      let points = point_facts b.complete 1 b.points in
      subst (λ fs. Contains fs fact) (sym is)
      (⊎_elim
      (λ (x : Contains (map Cut b.cuts) fact). Contains-append_left (map Cut b.cuts) (points ++ (waits ++ kept)) fact x)
      (λ rest. Contains-append_right (map Cut b.cuts) (points ++ (waits ++ kept)) fact (⊎_elim
      (λ (x : Contains points fact). Contains-append_left points (waits ++ kept) fact x)
      (λ last. Contains-append_right points (waits ++ kept) fact (⊎_elim
      (λ (x : Contains waits fact). Contains-append_left waits kept fact x)
      (λ (x : Contains kept fact). Contains-append_right waits kept fact x)
      last))
      rest))
      h)

  no_cut_of_waits : (c : CutData) → Contains (map Advance b.waits) (Cut c) → ⊥
  no_cut_of_waits c h = let u = from_map Advance b.waits (Cut c) h in let e : Advance u.0 ≡ Cut c = u.2 in cc

  no_cut_of_kept : (c : CutData) → Contains (map Record told) (Cut c) → ⊥
  no_cut_of_kept c h = let u = from_map Record told (Cut c) h in let e : Record u.0 ≡ Cut c = u.2 in cc

  no_advance_of_cuts : (a : AdvanceData) → Contains (map Cut b.cuts) (Advance a) → ⊥
  no_advance_of_cuts a h = let u = from_map Cut b.cuts (Advance a) h in let e : Cut u.0 ≡ Advance a = u.2 in cc

  no_advance_of_kept : (a : AdvanceData) → Contains (map Record told) (Advance a) → ⊥
  no_advance_of_kept a h = let u = from_map Record told (Advance a) h in let e : Record u.0 ≡ Advance a = u.2 in cc

  no_record_of_cuts : (r : RecordData) → Contains (map Cut b.cuts) (Record r) → ⊥
  no_record_of_cuts r h = let u = from_map Cut b.cuts (Record r) h in let e : Cut u.0 ≡ Record r = u.2 in cc

  no_record_of_waits : (r : RecordData) → Contains (map Advance b.waits) (Record r) → ⊥
  no_record_of_waits r h = let u = from_map Advance b.waits (Record r) h in let e : Advance u.0 ≡ Record r = u.2 in cc

  cut_of : (c : CutData) → Contains (map Cut b.cuts) (Cut c) → Contains b.cuts c
  cut_of c h = grind (arith, common_steps)

  wait_of : (a : AdvanceData) → Contains (map Advance b.waits) (Advance a) → Contains b.waits a
  wait_of a h = grind (arith, common_steps)

  kept_of : (r : RecordData) → Contains (map Record told) (Record r) → Contains told r
  kept_of r h = grind (arith, common_steps)

  pub listed_cut : (c : CutData) → Contains facts (Cut c) ↔ Contains b.cuts c
  unfolding points_of
  listed_cut c = (
    λ h. ⊎_elim (cut_of c)
        (λ x. absurd (⊎_elim (no_cut_of_points b.complete b.points c) (λ y. ⊎_elim (no_cut_of_waits c) (no_cut_of_kept c) y) x))
        (cases (Cut c) h),
    λ h. one_of (Cut c) (inl (in_map Cut b.cuts c h)),
  )

  pub listed_advance : (a : AdvanceData) → Contains facts (Advance a) ↔ (Contains b.waits a ⊎ IsPointIn b.complete b.points a)
  unfolding points_of
  listed_advance a = (
    λ h. ⊎_elim (λ x. absurd (no_advance_of_cuts a x))
        (λ x. ⊎_elim
        (λ y. inr ((point_advance b.complete b.points a).0 y))
        (λ y. inl (⊎_elim (wait_of a) (λ z. absurd (no_advance_of_kept a z)) y))
        x)
        (cases (Advance a) h),
    λ h. one_of (Advance a) (inr (⊎_elim
        (λ (x : Contains b.waits a). inr (inl (in_map Advance b.waits a x)))
        (λ (x : IsPointIn b.complete b.points a). inl ((point_advance b.complete b.points a).1 x))
        h)),
  )

  pub listed_record : (r : RecordData) → Contains facts (Record r) ↔ Contains told r
  unfolding points_of
  listed_record r = (
    λ h. ⊎_elim (λ x. absurd (no_record_of_cuts r x))
        (λ x. ⊎_elim (λ y. absurd (no_record_of_points b.complete b.points r y)) (λ y. ⊎_elim (λ z. absurd (no_record_of_waits r z)) (kept_of r) y) x)
        (cases (Record r) h),
    λ h. one_of (Record r) (inr (inr (inr (in_map Record told r h)))),
  )

-- ---- all that a state exports
pub told_cut : (s : State) (facts : List Fact) (t : AreExported s facts) (c : CutData) → Contains facts (Cut c) ↔ Contains s.book.cuts c
told_cut s facts t c = listed_cut s.book t.kept facts t.facts_are c

pub told_advance : (s : State) (facts : List Fact) (t : AreExported s facts) (a : AdvanceData)
    → Contains facts (Advance a) ↔ (Contains s.book.waits a ⊎ IsPointIn s.book.complete s.book.points a)
told_advance s facts t a = listed_advance s.book t.kept facts t.facts_are a

pub told_record : (s : State) (facts : List Fact) (t : AreExported s facts) (r : RecordData) → Contains facts (Record r) ↔ IsKeptBy s t.anchor r
told_record s facts t r =
    let listed = listed_record s.book t.kept facts t.facts_are r in
    (λ h. (t.kept_are.members r).0 (listed.0 h), λ h. listed.1 ((t.kept_are.members r).1 h))
