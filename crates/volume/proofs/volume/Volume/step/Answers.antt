use Rattle.std.proofs.Common.{List, ℕ, sym, subst, IfOk}
use Rattle.volume.specs.declared.events.Event.{Event}
use Rattle.volume.specs.Stepping.{IsVolumeStep, CallsOpen}
use Rattle.volume.specs.Writing.{EndsTransaction}
use Rattle.volume.proofs.volume.Volume.step.Goals as goal

pub returns-in-Commit-clause-steps : goal.returns-in-Commit-clause-steps
returns-in-Commit-clause-steps c =
    let old = c.args.self.now in let new = c.commit.new.self in
    subst (λ (e : Event). IfOk c.commit.result (λ v. IsVolumeStep old e v.items new)) (sym c.in-Commit.is)
    (subst (λ (header : List ℕ). IfOk c.commit.result (λ v. CallsOpen (λ w asked after. EndsTransaction w header asked after) old old.phase v.items new))
    c.deref.ensures.value c.commit.ensures.commits)
