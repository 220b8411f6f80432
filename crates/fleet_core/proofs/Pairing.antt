-- A step at one of two places of a list that was split between them.
use Rattle.std.proofs.Common.{◌≡◌, ℕ, ◌-◌, ◌<◌, List, ◌++◌, length, get_or, set, refl, sym, ap, rules}
use Rattle.std.proofs.Common.{◌∙◌, subst, arith, Bool, Bor, Option, Some, None, length-append}
use Rattle.std.proofs.lemmas.Grind.{common_steps}
use Rattle.std.specs.Prelude.{◌==◌, if◌then◌else◌, slice_get, unwrap_or}
use Rattle.std.specs.Option.{option_copied}
use Rattle.std.proofs.lemmas.List.{set-append_left, set-append_right, get_or-append_right}
use Rattle.std.proofs.lemmas.Option.{slice_get_read}
use Rattle.redo_core.specs.declared.facts.Fact.{Fact}
use Rattle.segment_theorems.specs.State.{State}
use Rattle.script_steps.specs.declared.steps.Step.{Step}
use Rattle.fleet_core.specs.declared.replies.Reply.{Reply}
use Rattle.fleet_core.specs.declared.making.Made.{Made}
use Rattle.fleet_core.specs.FleetState.{other_than}
use Rattle.fleet_core.specs.AtNode.{IsCarriedOut, CarriesOut}

-- the segment of the reference that was given, or the own one
pub unwrap_now : {S : Type 0} (other : Option (Bor S)) (own : Bor S) → (unwrap_or other own).now ≡ unwrap_or (option_copied other) own.now
unwrap_now other own = search rules

-- it is at a place of the list, and the other one at the other place
pub record Stands (old : List State) (place other : ℕ) (s : State) (o : Option State) (later : State) (new : List State) : Type 0 where
  pub there : slice_get old place ≡ Some s
  pub beside : o ≡ other_than old place other
  pub others : new ≡ set old place later

pub carried : (readers : ℕ) (old : List State) (place other : ℕ) (s : State) (o : Option State) (messages : List Made) (step : Step Fact) (reply : Reply)
    (later : State) (new : List State) (made : List Made) → Stands old place other s o later new
    → IsCarriedOut readers s o messages step reply later made → CarriesOut readers old place other messages step reply new made
carried readers old place other s o messages step reply later new made stands out = search rules

-- ---- the other place

apart_by : (xs : List State) (place other : ℕ) (t : State) (b : Bool) → b ≡ (place == other) → (place ≡ other → ⊥) → slice_get xs other ≡ Some t
    → Some t ≡ (if b then None else slice_get xs other)
apart_by xs place other t b e apart there = search rules

apart : (xs : List State) (place other : ℕ) (t : State) → (place ≡ other → ⊥) → slice_get xs other ≡ Some t → Some t ≡ other_than xs place other
apart xs place other t different there = apart_by xs place other t (place == other) refl different there

own_by : (xs : List State) (place : ℕ) (b : Bool) → b ≡ (place == place) → None ≡ (if b then None else slice_get xs place)
own_by xs place b e = search rules

own : (xs : List State) (place other : ℕ) → place ≡ other → None ≡ other_than xs place other
own xs place other e = subst (λ i. None ≡ other_than xs place i) e (own_by xs place (place == place) refl)

-- ---- where the two places are

in_front : (xs front back : List State) (i : ℕ) (s : State) → xs ≡ front ++ back → i < length front → s ≡ get_or front i s → slice_get xs i ≡ Some s
in_front xs front back i s e lt at = grind (arith, common_steps, slice_get_read)

in_back : (xs front back : List State) (i : ℕ) (s : State) → xs ≡ front ++ back → length front ≡ i → 0 < length back → s ≡ get_or back 0 s
    → slice_get xs i ≡ Some s
in_back xs front back i s e len lt at =
    let zero : i - i ≡ 0 = omega arith in
    let read : get_or (front ++ back) i s ≡ get_or back 0 s = get_or-append_right front back i i s len (omega arith) ∙ ap (λ k. get_or back k s) zero in
    subst (λ ys. slice_get ys i ≡ Some s) (sym e)
    (slice_get_read (front ++ back) (length (front ++ back)) i s refl (omega (arith, length-append front back, len)) (at ∙ sym read))

-- the place is in the front part, and the other is the first of the back part
pub place_in_front : (xs front back : List State) (place other : ℕ) (s t later : State) → xs ≡ front ++ back → length front ≡ other → place < other
    → 0 < length back → s ≡ get_or front place s → t ≡ get_or back 0 t → Stands xs place other s (Some t) later (set front place later ++ back)
place_in_front xs front back place other s t later e len lt some at beside = search (rules, in_front, in_back, set-append_left)

-- the other way round
pub place_in_back : (xs front back : List State) (place other : ℕ) (s t later : State) → xs ≡ front ++ back → length front ≡ place → other < place
    → 0 < length back → s ≡ get_or back 0 s → t ≡ get_or front other t → Stands xs place other s (Some t) later (front ++ set back 0 later)
place_in_back xs front back place other s t later e len lt some at beside =
    let zero : place - place ≡ 0 = omega arith in
    let put : set (front ++ back) place later ≡ front ++ set back 0 later =
    set-append_right front back place place later len (omega arith) ∙ ap (λ k. front ++ set back k later) zero in
    record {
      there = in_back xs front back place s e len some at;
      beside = apart xs place other t (λ same. omega (arith, lt, same)) (in_front xs front back other t e (omega (arith, len, lt)) beside);
      others = subst (λ ys. front ++ set back 0 later ≡ set ys place later) (sym e) (sym put);
    }

-- the two places are one
pub one_place : (xs : List State) (place other : ℕ) (s later : State) → place < length xs → place ≡ other → s ≡ get_or xs place s
    → Stands xs place other s None later (set xs place later)
one_place xs place other s later lt same at = search (rules, slice_get_read)
