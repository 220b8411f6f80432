use Rattle.std.proofs.lemmas.Grind.{common_steps}
use Rattle.std.proofs.Common.{subst, arith}
use Rattle.log_theorems.proofs.Log.{log_of_sound}
use Rattle.snapshot.specs.Stagings.{IsStaging}
use Rattle.snapshot.proofs.AllPieces.{has_all}
use Rattle.snapshot.proofs.Hydrated.{restores}
use Rattle.snapshot.proofs.SoundPieces.{none_misplaced}
use Rattle.snapshot.proofs.staging.Staging.finish.Goals as goal

pub returns-in-Some-first_misplaced-clause-sound : goal.returns-in-Some-first_misplaced-clause-sound
returns-in-Some-first_misplaced-clause-sound c = λ of index _.
    let form : IsStaging c.args.self.now = subst IsStaging c.self.view_is c.self.invariant in
    none_misplaced c.args.self.now c.in-Some-first_misplaced.index form c.in_default.ensures of c.in-Some-first_misplaced.ensures.0

pub returns-in-Ok-clause-means : goal.returns-in-Ok-clause-means
returns-in-Ok-clause-means c = λ s d of roster log facts sound means.
    let st = c.args.self.now in
    let form : IsStaging st = subst IsStaging c.self.view_is c.self.invariant in
    let all = has_all s d st of form c.in_default.ensures in
    let made = restores log facts means.0 s d st (log_of_sound roster log sound) means.1 of all c.in-Ok.segment c.in-Ok.ensures in
    c.restore_keeps.ensures s c.in-Ok.segment made roster log facts sound means

pub returns-in-Some-clause-form : goal.returns-in-Some-clause-form
returns-in-Some-clause-form c = subst IsStaging c.self.view_is c.self.invariant

pub returns-in-Some-first_misplaced-clause-form : goal.returns-in-Some-first_misplaced-clause-form
returns-in-Some-first_misplaced-clause-form c = subst IsStaging c.self.view_is c.self.invariant

pub returns-in-Ok-clause-form : goal.returns-in-Ok-clause-form
returns-in-Ok-clause-form c = subst IsStaging c.self.view_is c.self.invariant

pub returns-in-Err-clause-form : goal.returns-in-Err-clause-form
returns-in-Err-clause-form c = subst IsStaging c.self.view_is c.self.invariant

pub returns-in-Some-first_misplaced-clause-missing : goal.returns-in-Some-first_misplaced-clause-missing
returns-in-Some-first_misplaced-clause-missing c = grind (arith, common_steps)

pub returns-in-Err-clause-malformed : goal.returns-in-Err-clause-malformed
returns-in-Err-clause-malformed c = grind (arith, common_steps)

pub returns-in-Some-clause-missing : goal.returns-in-Some-clause-missing
returns-in-Some-clause-missing c = grind (arith, common_steps)

pub returns-in-Err-clause-missing : goal.returns-in-Err-clause-missing
returns-in-Err-clause-missing c = grind (arith, common_steps)

pub returns-in-Some-first_misplaced-clause-malformed : goal.returns-in-Some-first_misplaced-clause-malformed
returns-in-Some-first_misplaced-clause-malformed c = grind (arith, common_steps)
