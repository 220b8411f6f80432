use Rattle.std.proofs.Common.{◌<◌, length, arith, refl, subst, rules}
use Rattle.std.proofs.lemmas.Option.{slice_get_read, slice_get_within}
use Rattle.reference_model.specs.FoundFault.{FindsFault}
use Rattle.reference_model.proofs.Laws.{none_found, keeps_one_more, fault_at}
use Rattle.log_theorems.proofs.FirstFaults.{keeps_each}
use Rattle.redo_core.specs.Fault.{BreaksFirst}
use Rattle.reference_model.proofs.faults.first_fault.Goals as goal

pub loop-place-init : goal.loop-place-init
loop-place-init c earlier f l at = absurd (omega (arith, l))

pub returns-in-Some-clause-sound : goal.returns-in-Some-clause-sound
returns-in-Some-clause-sound c = search (rules, keeps_each, slice_get_read)

pub returns-in-Some-clause-fault : goal.returns-in-Some-clause-fault
returns-in-Some-clause-fault c = (
  omega arith,
  fault_at c.args.roster c.args.log.now c.loop-place.place c.index-log-place.result c.in-Some.law
      c.loop-place-test.true c.index-log-place.is c.loop-place.invariant
      (subst (λ r. BreaksFirst r c.args.log.now c.loop-place.place c.index-log-place.result c.in-Some.law) c.readers-readers.ensures.value c.in-Some.ensures),
)

pub loop-place-preserved : goal.loop-place-preserved
loop-place-preserved c = keeps_one_more c.args.roster c.args.log.now c.loop-place.place c.index-log-place.result c.loop-place-test.true c.index-log-place.is
    c.loop-place.invariant (none_found c.args.roster c.args.log.now c.loop-place.place c.index-log-place.result c.broken_law.result
    (subst (λ r. FindsFault r c.args.log.now c.loop-place.place c.index-log-place.result c.broken_law.result) c.readers-readers.ensures.value
    c.broken_law.ensures) c.in_default.not-Some)

pub returns-clause-sound : goal.returns-clause-sound
returns-clause-sound c = (
  λ h. record {
    readers = c.readers-readers.ensures.range;
    keeps = λ place fact at. c.loop-place.invariant place fact
        (let l : place < length c.args.log.now = slice_get_within c.args.log.now place fact at in omega arith) at;
  },
  λ h. refl,
)
