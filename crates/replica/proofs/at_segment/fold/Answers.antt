use Rattle.std.proofs.Common.{inl, refl, Ok, Err}
use Rattle.segment_theorems.specs.Promises.{KeepsMeaningWith}
use Rattle.segment_core.specs.Folding.{Commits}
use Rattle.replica.proofs.Folds.{fold_keeps}
use Rattle.replica.proofs.at_segment.fold.Goals as goal

pub returns-in-Err-clause-folds : goal.returns-in-Err-clause-folds
returns-in-Err-clause-folds c = record {
  plan = Err c.in-Err.fault;
  plans = c.in-Err.ensures.own;
  commits = (c.fault_reply.ensures, refl);
  keeps = λ roster log facts sound m. m;
  sound = λ h. c.in-Err.ensures.result h.0 h.1 h.2 h.4.0 h.3 h.4.1;
  pages = refl;
}

pub returns-in-Ok-commit_fold-clause-folds : goal.returns-in-Ok-commit_fold-clause-folds
returns-in-Ok-commit_fold-clause-folds c =
    let plan = c.in-Ok.plan in
    let old = c.args.cached.now.segment in
    let new = c.commit_fold.new.self.segment in
    let keeps : KeepsMeaningWith old plan.page plan.version plan.image new = rw c.fold-folded.ensures at c.in-Ok-commit_fold.ensures.keeps in
    let commits : Commits old plan new = rw c.fold-folded.ensures at c.in-Ok-commit_fold.ensures.commits in
    record {
      plan = Ok plan;
      plans = c.in-Ok.ensures.own;
      commits = inl (refl, commits);
      keeps = fold_keeps old new c.args.page plan c.in-Ok.ensures.result keeps;
      sound = tt;
      pages = c.in-Ok-commit_fold.ensures.pages;
    }
