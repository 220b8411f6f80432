-- What a guard never takes back.
use Rattle.std.proofs.Common.{◌≡◌, ◌≢◌, ℕ, ◌≤◌, ◌<◌, ◌⊎◌, ⊎_elim, inl, inr, List, [], ◌∷◌, ◌∙◌, refl, sym, subst, arith, IsTrue, Option, Some, None}
use Rattle.std.proofs.lemmas.Grind.{common_steps}
use Rattle.std.specs.List.{AllByRecursion}
use Rattle.redo_core.specs.Data.{CutData}
use Rattle.replica.specs.Parts.{ReplicaData}
use Rattle.guard.specs.declared.requests.AcceptedCut.{AcceptedCut}
use Rattle.guard.specs.declared.requests.Admission.{Admission}
use Rattle.guard.specs.declared.requests.Request.{Request}
use Rattle.guard.specs.declared.requests.Request.TheVariants as request
use Rattle.guard.specs.declared.replies.Reply.{Reply}
use Rattle.guard.specs.Data.{GuardData, fresh_guard, fenced_to, accepting, admitted_by, around}
use Rattle.guard.specs.Guarding.{IsGuardReply, HasLater}
use Rattle.guard.specs.Keeping.{IsLaterGuard, IsUpTo, IsBelow, IsGuard, AdmitsInOrder, StepsKeep, StepsRise, GuardTurn, GuardRuns, IsOrderlyTurn, RunsKeep, RunsRise, FreshStays}

-- what a request leaves, where an admission that it is keeps to its order
pub record Leaves (old new : GuardData) (in_order : Type 0) : Type 0 where
  pub keeps : IsLaterGuard old new
  pub rises : IsGuard old → IsUpTo old.accepted new.accepted
  pub stays : IsGuard old → in_order → IsGuard new

-- ---- pairs
up_to_itself : (pair : Option AcceptedCut) → IsUpTo pair pair
up_to_itself None = tt
up_to_itself (Some pair) = inr (refl, omega arith)

up_to_proposed : (pair : Option AcceptedCut) (generation : ℕ) (cut : CutData) → IsBelow pair generation → ¬ (HasLater pair generation cut.epoch)
    → IsUpTo pair (Some (record { generation = generation; cut = cut }))
up_to_proposed None generation cut below none = tt
up_to_proposed (Some pair) generation cut below none = grind (arith, common_steps)

none_up_to : (before after : Option AcceptedCut) → before ≡ None → IsUpTo before after
none_up_to None after none = tt
none_up_to (Some before) after none = absurd (cc)

up_to_both : (a b c : AcceptedCut) → IsUpTo (Some a) (Some b) → IsUpTo (Some b) (Some c) → IsUpTo (Some a) (Some c)
up_to_both a b c one two = grind (arith, common_steps)

up_to_then : (a b c : Option AcceptedCut) → IsUpTo a b → IsUpTo b c → IsUpTo a c
up_to_then None b c one two = tt
up_to_then (Some a) None c one two = absurd one
up_to_then (Some a) (Some b) None one two = absurd two
up_to_then (Some a) (Some b) (Some c) one two = up_to_both a b c one two

below_higher : (pair : Option AcceptedCut) (low high : ℕ) → low ≤ high → IsBelow pair low → IsBelow pair high
below_higher None low high h below = tt
below_higher (Some pair) low high h below = omega arith

-- ---- what each change leaves
leaves_itself : (g : GuardData) (in_order : Type 0) → Leaves g g in_order
leaves_itself g in_order = record {
  keeps = record { birth = refl; member = λ m. m; generation = λ m. omega arith };
  rises = λ is. up_to_itself g.accepted;
  stays = λ is fits. is;
}

unchanged : (old new : GuardData) (in_order : Type 0) → new ≡ old → Leaves old new in_order
unchanged old new in_order same = subst (λ g. Leaves old g in_order) (sym same) (leaves_itself old in_order)

around_another : (old : GuardData) (replica : ReplicaData) (in_order : Type 0) → Leaves old (around old replica) in_order
around_another old replica in_order = record {
  keeps = record { birth = refl; member = λ m. m; generation = λ m. omega arith };
  rises = λ is. up_to_itself old.accepted;
  stays = λ is fits. record { generation = is.generation; accepted = is.accepted; below = is.below };
}

asked_replica : (old new : GuardData) (in_order : Type 0) → new ≡ around old new.replica → Leaves old new in_order
asked_replica old new in_order same = subst (λ g. Leaves old g in_order) (sym same) (around_another old new.replica in_order)

fenced : (old new : GuardData) (generation : ℕ) (in_order : Type 0) → IsTrue old.is_member → old.generation < generation
    → new ≡ fenced_to old generation → Leaves old new in_order
fenced old new generation in_order member above same =
    let higher : old.generation ≤ generation = omega arith in
    let left : Leaves old (fenced_to old generation) in_order =
    record {
      keeps = record { birth = refl; member = λ m. m; generation = λ m. higher };
      rises = λ is. up_to_itself old.accepted;
      stays = λ is fits. record {
        generation = λ out. absurd (out member);
        accepted = λ out. absurd (out member);
        below = below_higher old.accepted old.generation generation higher is.below;
      };
    } in
    subst (λ g. Leaves old g in_order) (sym same) left

accepted : (old new : GuardData) (generation : ℕ) (cut : CutData) (in_order : Type 0) → IsTrue old.is_member → generation ≡ old.generation
    → ¬ (HasLater old.accepted generation cut.epoch) → new ≡ accepting old generation cut → Leaves old new in_order
accepted old new generation cut in_order member own none same =
    let here : generation ≤ old.generation = omega arith in
    let left : Leaves old (accepting old generation cut) in_order =
    record {
      keeps = record { birth = refl; member = λ m. m; generation = λ m. omega arith };
      rises = λ is. up_to_proposed old.accepted generation cut (subst (λ n. IsBelow old.accepted n) (sym own) is.below) none;
      stays = λ is fits. record { generation = λ out. absurd (out member); accepted = λ out. absurd (out member); below = here };
    } in
    subst (λ g. Leaves old g in_order) (sym same) left

admitted : (old new : GuardData) (asked : Admission) → ¬ (IsTrue old.is_member) → new ≡ admitted_by old asked
    → Leaves old new (IsBelow asked.accepted asked.generation)
admitted old new asked out same =
    let left : Leaves old (admitted_by old asked) (IsBelow asked.accepted asked.generation) =
    record {
      keeps = record { birth = refl; member = λ m. refl; generation = λ m. absurd (out m) };
      rises = λ is. none_up_to old.accepted asked.accepted (is.accepted out);
      stays = λ is fits. record { generation = λ no. absurd (no refl); accepted = λ no. absurd (no refl); below = fits };
    } in
    subst (λ g. Leaves old g (IsBelow asked.accepted asked.generation)) (sym same) left

-- ---- each request
leaves : (old : GuardData) (asked : Request) (told : Reply) (new : GuardData) → IsGuardReply old asked told new → Leaves old new (AdmitsInOrder asked)
leaves old request.Status told new says = unchanged old new (Unit {0}) says.3
leaves old (request.Fence generation) told new says =
    ⊎_elim (λ yes. fenced old new generation (Unit {0}) yes.0.0 yes.0.1 yes.2) (λ no. unchanged old new (Unit {0}) no.1.1) says
leaves old (request.As generation birth asked) told new says =
    ⊎_elim (λ no. unchanged old new (Unit {0}) no.2)
    (λ may. ⊎_elim (λ yes. asked_replica old new (Unit {0}) yes.2) (λ no. unchanged old new (Unit {0}) no.2.1) may) says
leaves old (request.Propose generation birth cut) told new says =
    ⊎_elim (λ yes. accepted old new generation cut (Unit {0}) yes.0.0 yes.0.1 yes.1 yes.3) (λ no. unchanged old new (Unit {0}) no.1.1) says
leaves old (request.Admit asked) told new says =
    let fits : Type 0 = IsBelow asked.accepted asked.generation in
    ⊎_elim (λ no. unchanged old new fits no.2)
    (λ out. ⊎_elim (λ no. unchanged old new fits no.3)
    (λ known. ⊎_elim (λ yes. admitted old new asked known.0 yes.2) (λ no. unchanged old new fits no.2) known.2.2) out) says
leaves old (request.Plain asked) told new says =
    ⊎_elim (λ no. unchanged old new (Unit {0}) no.3) (λ yes. asked_replica old new (Unit {0}) yes.1) says

pub steps_keep : StepsKeep
steps_keep old asked told new says = (leaves old asked told new says).keeps

pub steps_rise : StepsRise
steps_rise old asked told new is says = (leaves old asked told new says).rises is

-- ---- any number of requests
later_then : (a b c : GuardData) → IsLaterGuard a b → IsLaterGuard b c → IsLaterGuard a c
later_then a b c one two = record {
  birth = two.birth ∙ one.birth;
  member = λ m. two.member (one.member m);
  generation = λ m. omega (arith, one.generation m, two.generation (one.member m));
}

pub runs_keep : RunsKeep
runs_keep old [] new runs = (unchanged old new (Unit {0}) runs).keeps
runs_keep old (t ∷ ts) new runs =
    later_then old runs.0 new (steps_keep old t.asked t.told runs.0 runs.1) (runs_keep runs.0 ts new runs.2)

stays_guard : (old : GuardData) (turns : List GuardTurn) (new : GuardData) → AllByRecursion IsOrderlyTurn turns → GuardRuns old turns new
    → IsGuard old → IsGuard new
stays_guard old [] new order runs is = subst (λ g. IsGuard g) (sym runs) is
stays_guard old (t ∷ ts) new order runs is =
    stays_guard runs.0 ts new order.1 runs.2 ((leaves old t.asked t.told runs.0 runs.1).stays is order.0)

rises : (old : GuardData) (turns : List GuardTurn) (new : GuardData) → AllByRecursion IsOrderlyTurn turns → GuardRuns old turns new
    → IsGuard old → IsUpTo old.accepted new.accepted
rises old [] new order runs is = (unchanged old new (Unit {0}) runs).rises is
rises old (t ∷ ts) new order runs is =
    let here = leaves old t.asked t.told runs.0 runs.1 in
    up_to_then old.accepted runs.0.accepted new.accepted (here.rises is) (rises runs.0 ts new order.1 runs.2 (here.stays is order.0))

fresh_is_guard : (replica : ReplicaData) (birth : ℕ) → IsGuard (fresh_guard replica birth)
fresh_is_guard replica birth = record { generation = λ out. refl; accepted = λ out. refl; below = tt }

pub fresh_stays : FreshStays
fresh_stays replica birth turns new order runs = stays_guard (fresh_guard replica birth) turns new order runs (fresh_is_guard replica birth)

pub runs_rise : RunsRise
runs_rise replica birth before after old new one two runs goes_on =
    rises old after new two goes_on (fresh_stays replica birth before old one runs)
