use Rattle.std.proofs.lemmas.Grind.{common_steps}
use Rattle.std.proofs.Common.{OnOk, sym, subst, rules, arith}
use Rattle.segment_theorems.specs.State.{State, state_of}
use Rattle.segment_theorems.specs.HasMeaning.{HasAnchor}
use Rattle.segment_theorems.specs.Promises.{KeepsMeaningWith}
use Rattle.segment_core.proofs.Committing.{not_ahead, raise_keeps, raise_back}
use Rattle.segment_core.proofs.DuePages.{raise_due}
use Rattle.segment_core.proofs.segment.Segment.commit_fold.Goals as goal

-- the state as it was, and with the raised images
unfoldable before : goal.After-raise → State
before c = state_of c.self.inside.book c.self.inside.hot c.self.inside.base c.self.inside.store

unfoldable after : goal.After-raise → State
after c = state_of c.self.inside.book c.self.inside.hot c.self.inside.base c.raise.new.store

pub returns-then-anchor-folded-clause-ahead : goal.returns-then-anchor-folded-clause-ahead
returns-then-anchor-folded-clause-ahead c = search rules

pub invariant_of-self : goal.invariant_of-self
invariant_of-self c = search (rules, raise_due)

pub returns-clause-keeps : goal.returns-clause-keeps
unfolding before after
returns-clause-keeps c =
    subst (λ s. OnOk c.raise.result (KeepsMeaningWith s c.args.folded.page c.args.folded.version c.args.folded.image (after c))) c.self.view_is
    (raise_keeps (before c) c.self.inside.store c.raise.new.store c.args.folded c.anchor-anchor.result c.raise.result
    (subst (λ (s : State). HasAnchor s c.anchor-anchor.result) (sym c.self.view_is) c.anchor-anchor.ensures.own) c.if-anchor-folded.false
    c.raise.ensures.raises)

pub returns-clause-commits : goal.returns-clause-commits
unfolding before after
returns-clause-commits c = grind (arith, common_steps)

pub returns-clause-ahead : goal.returns-clause-ahead
returns-clause-ahead c = not_ahead c.args.self.now c.args.folded c.anchor-anchor.result c.raise.result c.anchor-anchor.ensures.own c.if-anchor-folded.false

pub returns-clause-refused : goal.returns-clause-refused
unfolding before
returns-clause-refused c = search rules

pub returns-clause-back : goal.returns-clause-back
returns-clause-back c = raise_back c.self.inside.store c.args.folded c.raise.result c.raise.ensures.refused

pub returns-clause-unchanged : goal.returns-clause-unchanged
unfolding before after
returns-clause-unchanged c = grind (arith, common_steps)
