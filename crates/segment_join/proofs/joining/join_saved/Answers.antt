use Rattle.std.proofs.Common.{◌≡◌, ◌⊎◌, sym, subst, arith}
use Rattle.redo_core.specs.Book.{roster_of}
use Rattle.segment_theorems.specs.State.{State}
use Rattle.segment_core.specs.Form.{IsSegment}
use Rattle.segment_core.specs.Savepoint.{CanRollBack}
use Rattle.segment_core.specs.Transaction.{reached}
use Rattle.segment_core.specs.Uniting.{Unites}
use Rattle.segment_core.specs.declared.answers.Refusal.TheVariants.{Memory}
use Rattle.segment_join.specs.Joining.{JoinsInto}
use Rattle.segment_join.specs.Knowing.{IsJoined, RefusesAll}
use Rattle.segment_join.proofs.JoinedStates.{IsTold, base_fits_joined, joins_both}
use Rattle.segment_join.proofs.joining.join_saved.Goals as goal

-- what the segment has taken
told : (own other new : State) → IsSegment own → IsSegment other → roster_of own.book ≡ roster_of other.book → (joined : IsJoined own other new)
    → IsTold own other joined.taken joined.takes.facts
told own other new form shown same joined = record { own = form; shown = shown; one_roster = same; told = joined.takes.told; takes = joined.takes.takes }

pub drop-union-requires : goal.drop-union-requires
drop-union-requires c = subst CanRollBack (sym c.know_and_hold.ensures.began) c.begin-union.ensures.whole

pub unite-requires-clause-whole : goal.unite-requires-clause-whole
unite-requires-clause-whole c = subst CanRollBack (sym c.know_and_hold.ensures.began) c.begin-union.ensures.whole

pub unite-requires-clause-base : goal.unite-requires-clause-base
unite-requires-clause-base c =
    let own = c.args.segment.now in let other = c.args.other.now in let new = reached c.know_and_hold.new.union in
    let joined = subst (λ (s : State). IsJoined s other new) c.begin-union.ensures.reached c.in_default.ensures.joined in
    let taken = told own other new c.opens_form.ensures.form c.base_point.ensures.form c.requires.roster joined in
    omega (arith, c.base_point.ensures.own, base_fits_joined own other joined.taken joined.takes.facts taken new joined.holds)

pub returns-clause-joins : goal.returns-clause-joins
returns-clause-joins c =
    let own = c.args.segment.now in let other = c.args.other.now in let held = reached c.know_and_hold.new.union in
    let joined = subst (λ (s : State). IsJoined s other held) c.begin-union.ensures.reached c.in_default.ensures.joined in
    let new = c.unite.new.self.0 in let images = c.in_ok-images.images.items in
    let unites : Unites held other.base other.store.floor images new =
    subst (λ base. Unites held base other.store.floor images new) c.base_point.ensures.own
    (subst (λ floor. Unites held c.base_point.result floor images new) c.floor.ensures c.in_ok-unite.ensures.unites) in
    let joins : JoinsInto own other new = joins_both own other joined.taken held new joined.takes.facts images
    (record {
      first = told own other held c.opens_form.ensures.form c.base_point.ensures.form c.requires.roster joined;
      holds = joined.holds;
      newer = c.in_ok-images.ensures;
      unites = unites;
    }) in
    subst (JoinsInto own other) (grind (arith, c.begin-union.ensures.lent, c.know_and_hold.ensures.began)) joins

pub returns-clause-takes : goal.returns-clause-takes
returns-clause-takes c =
    let other = c.args.other.now in let held = reached c.know_and_hold.new.union in
    let joined = subst (λ (s : State). IsJoined s other held) c.begin-union.ensures.reached c.in_default.ensures.joined in
    record { one_roster = c.requires.roster; facts = joined.takes.facts; told = joined.takes.told; taken = joined.taken; takes = joined.takes.takes }

pub returns-in-Err-clause-refused : goal.returns-in-Err-clause-refused
returns-in-Err-clause-refused c =
    subst (λ (s : State). (c.in-Err.why ≡ Memory) ⊎ RefusesAll s c.args.other.now c.in-Err.why) c.begin-union.ensures.reached c.in-Err.ensures.refused
